use Rattle.std.proofs.Common.{◌≡◌, ◌<◌, ℕ, Some, map}
use Rattle.std.specs.Prelude.{slice_get}
use Rattle.packet_view.specs.Tuples.{tuple_facts}
use Rattle.acl_policy.specs.Matching.{Matches}
use Rattle.acl_policy.specs.Rules.{RuleFacts, rule_facts}
use Rattle.acl_policy.proofs.rule_match.first_match.Given as goal

-- no rule so far matches
abbrev pub invariant-loop-i : goal.invariant-loop-i
invariant-loop-i l = (k : ℕ) (other : RuleFacts) → k < l.i → slice_get (map rule_facts l.rules) k ≡ Some other → Matches other (tuple_facts l.tuple) → ⊥
