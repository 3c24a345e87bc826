use Rattle.std.proofs.Common.{◌≤◌}
use Rattle.policy_compare.specs.inner.Found.{AddsDifferences, IsBeforeRow, IsDifferenceOf, sides_facts}
use Rattle.policy_compare.proofs.compared_sides.add_sides.Given as goal

-- The rows so far were added.
abbrev pub invariant-loop-place : goal.invariant-loop-place
invariant-loop-place l = record {
  adds : AddsDifferences (IsDifferenceOf (sides_facts l.sides) l.tests) (IsBeforeRow (sides_facts l.sides) l.place) l.initial.all.items l.all.items;
  fewer : l.tests ≤ l.fn.tests;
}
