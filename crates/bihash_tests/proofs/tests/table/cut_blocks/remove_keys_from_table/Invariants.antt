use Rattle.std.proofs.Common.{◌≡◌}
use Rattle.bihash_rule.specs.Views.{nothing_held}
use Rattle.bihash_tests.proofs.tests.table.cut_blocks.remove_keys_from_table.Given as goal

abbrev pub invariant-loop-key : goal.invariant-loop-key
invariant-loop-key g l = (l.caller.seat.row ≡ l.table.row) × (l.caller.seat.view.holds ≡ nothing_held)
