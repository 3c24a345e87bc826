use Rattle.std.proofs.Common.{map, ◌*◌}
use Rattle.packet_view.specs.Tuples.{tuple_facts}
use Rattle.acl_policy.specs.Rules.{rule_facts}
use Rattle.rule_index.specs.inner.Sieves.{NoneBefore}
use Rattle.rule_index.proofs.first_candidate.first_of.Given as goal

-- no rule of the words so far matches
abbrev pub invariant-loop-i : goal.invariant-loop-i
invariant-loop-i l = NoneBefore (map rule_facts l.rules) (tuple_facts l.tuple) (l.i * 64)
