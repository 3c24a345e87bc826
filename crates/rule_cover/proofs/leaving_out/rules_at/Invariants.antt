use Rattle.std.proofs.Common.{map, take}
use Rattle.acl_policy.specs.Rules.{rule_facts}
use Rattle.rule_cover.specs.inner.Takers.{AreAt}
use Rattle.rule_cover.proofs.leaving_out.rules_at.Given as goal

-- The rules at the places so far.
abbrev pub invariant-loop-i : goal.invariant-loop-i
invariant-loop-i l = AreAt (map rule_facts l.rules) (take l.i l.places) (map rule_facts l.others.items)
