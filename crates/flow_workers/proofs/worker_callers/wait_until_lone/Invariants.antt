use Rattle.std.proofs.Common.{◌≡◌}
use Rattle.flow_workers.proofs.worker_callers.wait_until_lone.Given as goal

abbrev pub invariant-loop : goal.invariant-loop
invariant-loop g l = record {
  own : l.caller.seat.row ≡ l.table.row;
  records : l.caller.seat.view.records ≡ l.fn.caller.seat.view.records;
  known : l.caller.seat.view.known ≡ l.fn.caller.seat.view.known;
  same : l.caller.seat.row ≡ l.fn.caller.seat.row;
  holds : l.caller.seat.view.holds ≡ l.fn.caller.seat.view.holds;
}
