use Rattle.std.proofs.Common.{◌≡◌, IfOk, subst, sym}
use Rattle.racl_runs.proofs.sized_tables_and_workers.created.Goals as goal

pub returns-then-cuts-clause-cuts : goal.returns-then-cuts-clause-cuts
returns-then-cuts-clause-cuts g c =
    subst (λ b. IfOk c.create_cutting_tables.result (λ r. (r.0.four.cuts_blocks ≡ b) × (r.0.six.cuts_blocks ≡ b)))
    (sym c.if-cuts.true) c.create_cutting_tables.ensures.cuts

pub returns-clause-cuts : goal.returns-clause-cuts
returns-clause-cuts g c =
    subst (λ b. IfOk c.create_tables.result (λ r. (r.0.four.cuts_blocks ≡ b) × (r.0.six.cuts_blocks ≡ b)))
    (sym c.if-cuts.false) c.create_tables.ensures.whole_blocks
