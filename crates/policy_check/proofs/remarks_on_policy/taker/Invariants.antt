use Rattle.std.proofs.Common.{◌≡◌, Some, map}
use Rattle.std.specs.Prelude.{slice_get}
use Rattle.acl_policy.specs.Rules.{RuleFacts, rule_facts}
use Rattle.policy_check.specs.Remarks.{NoneCovers}
use Rattle.policy_check.proofs.remarks_on_policy.taker.Given as goal

-- No rule so far covers the one at the place.
abbrev pub invariant-loop-i : goal.invariant-loop-i
invariant-loop-i l = (later : RuleFacts) → slice_get (map rule_facts l.rules) l.place ≡ Some later → NoneCovers (map rule_facts l.rules) l.i later
