use Rattle.std.proofs.Common.{◌∙◌, ◌++◌, ◌≡◌, List, ap, subst, sym, ℕ}
use Rattle.racl_io.specs.Sinks.{HasPutFront}
use Rattle.compared_verdicts.specs.Meeting.{unmet_line}
use Rattle.compared_verdicts.proofs.MeetingLemmas.{told_unmet}
use Rattle.compared_verdicts.proofs.unmet_lines.write_unmet.Goals as goal

pub returns-then-is_unmet : goal.returns-then-is_unmet
returns-then-is_unmet g c =
    let line = c.args.e.line in
    let wanted = c.in-Verdicts.wanted in
    let told = told_unmet line c.args.e.expected c.args.number c.args.verdict _ _ wanted c.in-Verdicts.is (sym c.is_unmet.ensures ∙ c.if-is_unmet.true) in
    let text : c.as_slice.result.now ≡ unmet_line line c.args.number wanted c.args.verdict =
    c.as_slice.ensures ∙ c.push_unmet.ensures ∙ ap (λ p. p ++ unmet_line line c.args.number wanted c.args.verdict) c.clear.ensures in
    subst (λ (t : List ℕ). HasPutFront g.W.Sink.bytes g.W.Sink.failures c.args.writer.now c.write_all.new.writer t c.write_all.result) (text ∙ sym told)
    (c.write_all.ensures.whole, c.write_all.ensures.ok, c.write_all.ensures.failed, c.write_all.ensures.fault, c.write_all.ensures.front)
