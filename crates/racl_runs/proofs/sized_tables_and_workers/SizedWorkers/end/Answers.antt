use Rattle.racl_runs.proofs.sized_tables_and_workers.SizedWorkers.end.Goals as goal

pub returns-in-Ok : goal.returns-in-Ok
returns-in-Ok g c =
    let ended = c.in-Ok.ensures in
    rw c.in-Standard.is (λ said packets rest. record { idle = ended.idle; said = ended.said packets rest })

pub returns-in-Ok-end : goal.returns-in-Ok-end
returns-in-Ok-end g c =
    let ended = c.in-Ok-end.ensures in
    rw c.in-Large.is (λ said packets rest. record { idle = ended.idle; said = ended.said packets rest })
