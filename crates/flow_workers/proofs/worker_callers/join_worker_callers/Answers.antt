use Rattle.std.proofs.Common.{◌∙◌}
use Rattle.flow_workers.proofs.WorkerCallerLemmas.{same_deeds}
use Rattle.flow_workers.proofs.worker_callers.join_worker_callers.Goals as goal

pub returns : goal.returns
returns g c = record {
  own = c.wait_until_lone.ensures.own ∙ c.join_all-joined.ensures.own;
  free = c.wait_until_lone.ensures.holds ∙ c.join_all-joined.ensures.free;
  lawful = c.wait_until_lone.ensures.lawful;
  whole = c.wait_until_lone.ensures.whole;
  deeds = λ z family all each.
      same_deeds z family all c.join_all-joined.result.seat.view c.wait_until_lone.new.caller.seat.view
      c.wait_until_lone.ensures.records c.wait_until_lone.ensures.known
      (c.join_all-joined.ensures.deeds z family all each);
}
