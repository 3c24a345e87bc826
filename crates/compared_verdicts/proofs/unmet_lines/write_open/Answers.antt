use Rattle.std.proofs.Common.{◌∙◌, ◌++◌, ◌≡◌, List, ap, subst, sym, ℕ}
use Rattle.std.proofs.lemmas.Bool.{ne_eqb}
use Rattle.racl_io.specs.Sinks.{HasPutFront}
use Rattle.compared_verdicts.specs.Meeting.{missing_line, total_line, total_of}
use Rattle.compared_verdicts.proofs.MeetingLemmas.{told_missing, told_total}
use Rattle.compared_verdicts.proofs.unmet_lines.write_open.Goals as goal

pub returns-then-totals-last : goal.returns-then-totals-last
returns-then-totals-last g c =
    let line = c.args.e.line in
    let wanted = c.in-Verdicts.wanted in
    let told = told_missing line c.args.e.expected c.args.totals.now _ c.in-Verdicts.last wanted c.in-Verdicts.is c.if-totals-last.true in
    let text : c.as_slice.result.now ≡ missing_line line c.in-Verdicts.last wanted =
    c.as_slice.ensures ∙ c.push_missing.ensures ∙ ap (λ p. p ++ missing_line line c.in-Verdicts.last wanted) c.clear.ensures in
    subst (λ (t : List ℕ). HasPutFront g.W.Sink.bytes g.W.Sink.failures c.args.writer.now c.write_all.new.writer t c.write_all.result) (text ∙ sym told)
    (c.write_all.ensures.whole, c.write_all.ensures.ok, c.write_all.ensures.failed, c.write_all.ensures.fault, c.write_all.ensures.front)

pub returns-else-is-count : goal.returns-else-is-count
returns-else-is-count g c =
    let line = c.args.e.line in
    let total = c.in-InAll.total in
    let count = c.in-InAll.count in
    let totals = c.args.totals.now in
    let told = told_total line c.args.e.expected totals total count c.in-InAll.is (ne_eqb (total_of total totals) count (λ same. c.if-is-count.false (c.total_of-is.ensures ∙ same))) in
    let text : c.as_slice-in-InAll.result.now ≡ total_line line total count (total_of total totals) =
    c.as_slice-in-InAll.ensures ∙ c.push_total.ensures ∙ ap (λ p. p ++ total_line line total count c.total_of-is.result) c.clear-in-InAll.ensures
    ∙ ap (total_line line total count) c.total_of-is.ensures in
    let write = c.write_all-in-InAll in
    subst (λ (t : List ℕ). HasPutFront g.W.Sink.bytes g.W.Sink.failures c.args.writer.now write.new.writer t write.result) (text ∙ sym told)
    (write.ensures.whole, write.ensures.ok, write.ensures.failed, write.ensures.fault, write.ensures.front)
