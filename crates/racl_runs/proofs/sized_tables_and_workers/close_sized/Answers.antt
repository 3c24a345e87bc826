use Rattle.std.proofs.Common.{refl}
use Rattle.flow_workers.proofs.StoredLemmas.{stored_pairs}
use Rattle.racl_runs.proofs.sized_tables_and_workers.close_sized.Goals as goal

pub returns-in-Ok : goal.returns-in-Ok
returns-in-Ok g =
    rw g.in-Standard.is (rw g.in-Standard-callers.is (record {
      four = stored_pairs _ (λ key. refl) _ _ g.in-Ok.ensures.four;
      six = stored_pairs _ (λ key. refl) _ _ g.in-Ok.ensures.six;
    }))

pub returns-in-Ok-close_tables : goal.returns-in-Ok-close_tables
returns-in-Ok-close_tables g =
    rw g.in-Large.is (rw g.in-Large-callers.is (record {
      four = stored_pairs _ (λ key. refl) _ _ g.in-Ok-close_tables.ensures.four;
      six = stored_pairs _ (λ key. refl) _ _ g.in-Ok-close_tables.ensures.six;
    }))
