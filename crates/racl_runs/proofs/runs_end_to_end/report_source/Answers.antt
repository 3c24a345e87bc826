use Rattle.std.proofs.Common.{Err, List, [], length, subst, ℕ, ◌+◌, ◌-◌}
use Rattle.std.proofs.lemmas.Result.{IfErr-weaker, IfOk-weaker}
use Rattle.racl_io.specs.Inputs.{most_bytes}
use Rattle.racl_io.specs.Transfers.{HasReadWithin}
use Rattle.racl_runs.specs.Reads.{AnswersRead, HoldsReport}
use Rattle.racl_runs.proofs.ReadLemmas.{answers_more, held_more, within_more}
use Rattle.racl_runs.proofs.RunLemmas.{within_unread}
use Rattle.racl_runs.proofs.runs_end_to_end.report_source.Goals as goal

pub returns-in-Bytes-clause-ok : goal.returns-in-Bytes-clause-ok
returns-in-Bytes-clause-ok g c =
    let options = c.args.options.now in
    let now = g.R.Source.bytes c.open_source.new.reader in
    IfOk-weaker c.report_headed.result _ _
    (λ held is. held_more options _ now c.in-Ok.front.bytes.items held.text.items held.totals c.in-Ok.ensures.ok.consumed
    (subst (λ (b : List ℕ). HoldsReport options b now held.text.items held.totals) c.deref.ensures.value is))
    c.report_headed.ensures.ok

pub returns-in-Bytes-clause-fault : goal.returns-in-Bytes-clause-fault
returns-in-Bytes-clause-fault g c =
    let options = c.args.options.now in
    let now = g.R.Source.bytes c.open_source.new.reader in
    IfErr-weaker c.report_headed.result _ _
    (λ fault answers. answers_more options _ now [] c.in-Ok.front.bytes.items (Err fault) c.in-Ok.ensures.ok.consumed
    (subst (λ (b : List ℕ). AnswersRead options b now (Err fault)) c.deref.ensures.value answers))
    c.report_headed.ensures.fault

pub returns-in-Bytes-clause-within : goal.returns-in-Bytes-clause-within
returns-in-Bytes-clause-within g c =
    let has = c.in-Ok.ensures.ok in
    within_more g.R.Source.bytes g.R.Source.failures c.args.reader.now c.open_source.new.reader c.report_headed.new.reader c.in-Ok.front.bytes.items c.report_headed.result
    has.consumed has.few c.in-Ok.ensures.within.failed
    (subst (λ (b : List ℕ). HasReadWithin g.R.Source.bytes g.R.Source.failures (most_bytes + 1 - length b) c.open_source.new.reader c.report_headed.new.reader c.report_headed.result)
    c.deref.ensures.value c.report_headed.ensures.within)

pub returns-clause-within : goal.returns-clause-within
returns-clause-within g c =
    let has = c.in-Ok.ensures.ok in
    within_more g.R.Source.bytes g.R.Source.failures c.args.reader.now c.open_source.new.reader c.open_source.new.reader c.in-Ok.front.bytes.items c.report_digits.result
    has.consumed has.few c.in-Ok.ensures.within.failed
    (within_unread g.R.Source.bytes g.R.Source.failures _ c.open_source.new.reader c.args.options.now c.deref-in-Whole.result.now c.report_digits.result c.report_digits.ensures.fault)
