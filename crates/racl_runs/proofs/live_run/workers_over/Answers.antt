use Rattle.std.proofs.Common.{ap, refl, sym}
use Rattle.racl_runs.specs.Crews.{Orders, orders_of}
use Rattle.racl_runs.proofs.live_run.workers_over.Goals as goal

pub returns : goal.returns
returns g c = record {
  given = c.in_ok-workers.ensures.given;
  asked = refl;
  none = record {
    after = record { given = refl; rest = c.in_ok-workers.ensures.rest };
    each = refl;
    policy = ap (λ (o : Orders). o.policy) (sym c.in_ok-workers.ensures.given);
    same = refl;
    counts = λ asked. c.new-counts.ensures (orders_of c.in_ok-workers.workers).policy;
  };
}
