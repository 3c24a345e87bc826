use Rattle.std.proofs.Common.{◌≡◌}
use Rattle.bihash_rule.specs.Views.{nothing_held}
use Rattle.bihash_tests.proofs.tests.table.ageing.enter_and_sweep.Given as goal

abbrev pub invariant-rounds : goal.invariant-rounds
invariant-rounds g l = (l.caller.seat.row ≡ l.table.row) × (l.caller.seat.view.holds ≡ nothing_held)
