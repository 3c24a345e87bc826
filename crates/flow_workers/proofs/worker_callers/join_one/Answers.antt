use Rattle.std.proofs.Common.{◌∷◌, ap, sym, subst, ◌∙◌}
use Rattle.bihash_steps.specs.Seats.{CallerState}
use Rattle.flow_dealing.specs.AgeingTraces.{HaveDeeds}
use Rattle.flow_workers.proofs.WorkerCallerLemmas.{joined_deeds}
use Rattle.flow_workers.proofs.worker_callers.join_one.Goals as goal

pub returns : goal.returns
returns g c = record {
  own = ap (λ (s : CallerState). s.row) c.join.ensures.view ∙ c.requires.own.0;
  free = ap (λ (s : CallerState). s.view.holds) c.join.ensures.view ∙ c.requires.free.0;
  lawful = c.join.ensures.lawful;
  deeds = λ z family t ts one more.
      subst (λ (s : CallerState). HaveDeeds z family (t ∷ ts) s.view) (sym c.join.ensures.view)
      (joined_deeds c.args.worker.seat.view c.args.others.seat.view c.join.ensures.agree.known z family t ts one
      more);
}
