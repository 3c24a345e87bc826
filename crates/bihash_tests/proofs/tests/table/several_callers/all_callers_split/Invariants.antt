use Rattle.std.proofs.Common.{◌≡◌}
use Rattle.bihash_rule.specs.Views.{nothing_held}
use Rattle.bihash_tests.proofs.tests.table.several_callers.all_callers_split.Given as goal

abbrev pub invariant-splits : goal.invariant-splits
invariant-splits g l = (l.caller.seat.row ≡ l.table.row) × (l.caller.seat.view.holds ≡ nothing_held)
