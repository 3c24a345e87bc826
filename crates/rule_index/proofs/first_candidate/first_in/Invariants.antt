use Rattle.std.proofs.Common.{map}
use Rattle.packet_view.specs.Tuples.{tuple_facts}
use Rattle.acl_policy.specs.Rules.{rule_facts}
use Rattle.rule_index.specs.inner.Sieves.{KeepsMatches}
use Rattle.rule_index.proofs.first_candidate.first_in.Given as goal

-- each rule of the word that matches has its bit still
abbrev pub invariant-loop-left : goal.invariant-loop-left
invariant-loop-left l = KeepsMatches (map rule_facts l.rules) (tuple_facts l.tuple) l.from l.left

abbrev pub decreases-loop-left : goal.decreases-loop-left
decreases-loop-left l = l.left
