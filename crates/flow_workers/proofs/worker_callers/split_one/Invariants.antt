use Rattle.std.proofs.Common.{◌≡◌}
use Rattle.bihash_rule.specs.Views.{nothing_held}
use Rattle.flow_workers.specs.inner.Fresh.{IsFreshView}
use Rattle.flow_workers.proofs.worker_callers.split_one.Given as goal

abbrev pub invariant-loop : goal.invariant-loop
invariant-loop g l = record {
  own : l.caller.seat.row ≡ l.table.row;
  free : l.caller.seat.view.holds ≡ nothing_held;
  fresh : IsFreshView l.caller.seat.view;
}
