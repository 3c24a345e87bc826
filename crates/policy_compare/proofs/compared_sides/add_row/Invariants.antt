use Rattle.std.proofs.Common.{◌≤◌}
use Rattle.policy_compare.specs.inner.Found.{AddsDifferences, IsAtRow, IsDifferenceOf, sides_facts}
use Rattle.policy_compare.proofs.compared_sides.add_row.Given as goal

-- The pairs so far were added.
abbrev pub invariant-loop-other : goal.invariant-loop-other
invariant-loop-other l = record {
  adds : AddsDifferences (IsDifferenceOf (sides_facts l.sides) l.tests) (IsAtRow (sides_facts l.sides) l.place l.other) l.initial.all.items l.all.items;
  fewer : l.tests ≤ l.fn.tests;
}
