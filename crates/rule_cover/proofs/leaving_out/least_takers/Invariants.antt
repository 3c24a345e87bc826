use Rattle.std.proofs.Common.{◌≤◌, ◌-◌, length, map}
use Rattle.acl_policy.specs.Rules.{rule_facts}
use Rattle.rule_cover.specs.inner.Takers.{AreTried}
use Rattle.rule_cover.proofs.leaving_out.least_takers.Given as goal

-- The first of the places were tried, and no test was won.
abbrev pub invariant-places : goal.invariant-places
invariant-places l =
    AreTried (rule_facts l.rule) (map rule_facts l.rules) l.tests l.places.items l.tried × (l.tests ≤ l.initial.tests)

abbrev pub decreases-places : goal.decreases-places
decreases-places l = length l.places.items - l.tried
