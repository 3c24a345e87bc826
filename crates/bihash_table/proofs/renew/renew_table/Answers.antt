use Rattle.bihash_words.specs.Sizes.{sizes_of}
use Rattle.bihash_steps.specs.Renewals.{IsRenewed}
use Rattle.bihash_table.proofs.RowWordLemmas.{if_ok, renewed_noted}
use Rattle.bihash_table.proofs.renew.renew_table.Goals as goal

pub returns-clause-renewed : goal.returns-clause-renewed
returns-clause-renewed g c =
    let z = sizes_of g.S.Shape in
    if_ok (λ r. IsRenewed z c.read_words.new.seat.view r.1.seat.view) (λ r. IsRenewed z c.args.caller.now.seat.view r.1.seat.view) c.reopen_row.result
    (λ r. renewed_noted z c.args.caller.now.seat c.read_words.new.seat r.1.seat.view c.read_words.ensures.noted) c.reopen_row.ensures.renewed
