use Rattle.std.proofs.Common.{◌≡◌}
use Rattle.bihash_rule.specs.Views.{nothing_held}
use Rattle.bihash_tests.proofs.tests.table.threads.write_thousand.Given as goal

abbrev pub invariant-loop-value : goal.invariant-loop-value
invariant-loop-value g l = (l.caller.seat.row ≡ l.table.row) × (l.caller.seat.view.holds ≡ nothing_held)
