use Rattle.std.proofs.Common.{◌≡◌}
use Rattle.bihash_rule.specs.Views.{nothing_held}
use Rattle.bihash_tests.proofs.tests.table.waiting.first_wrong_waiting.Given as goal

abbrev pub invariant-rows : goal.invariant-rows
invariant-rows g l = (l.caller.seat.row ≡ l.table.row) × (l.caller.seat.view.holds ≡ nothing_held)
