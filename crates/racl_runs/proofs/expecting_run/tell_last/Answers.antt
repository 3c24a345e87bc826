use Rattle.std.proofs.Common.{◌≡◌, ◌++◌, List, ℕ, [], ◌∷◌, ap, subst}
use Rattle.compared_verdicts.specs.Meeting.{met_told}
use Rattle.racl_io.specs.Tellings.{HasToldText, IsTellingFault, end_alone, end_in}
use Rattle.racl_io.specs.declared.totals_and_truncation.Captured.{Captured}
use Rattle.racl_runs.proofs.CountedLemmas.{end_cut, end_then}
use Rattle.racl_runs.proofs.expecting_run.tell_last.Goals as goal

pub returns-in-Ok : goal.returns-in-Ok
returns-in-Ok g c =
    let wording = g.L.Teller.wording c.args.teller.now in
    let totals = c.args.totals.now in
    let is : end_in wording (c.captured_alone.result ∷ []) totals ≡ end_alone wording totals = ap (λ (one : Captured). end_in wording (one ∷ []) totals) c.captured_alone.ensures in
    subst (λ (e : List ℕ). HasToldText g.W.Sink.bytes g.W.Sink.failures c.args.writer.now c.write_met.new.writer (e ++ met_told c.args.met c.args.count) c.write_met.result) is
    (end_then g.W.Sink.bytes g.W.Sink.failures c.args.writer.now c.tell_end.new.writer c.write_met.new.writer (end_in wording (c.captured_alone.result ∷ []) totals)
    _ c.write_met.result c.in-Ok.ensures.told.0 c.in-Ok.ensures.told.1 c.write_met.ensures)

pub returns-in-Err : goal.returns-in-Err
returns-in-Err g c =
    let wording = g.L.Teller.wording c.args.teller.now in
    let totals = c.args.totals.now in
    let is : end_in wording (c.captured_alone.result ∷ []) totals ≡ end_alone wording totals = ap (λ (one : Captured). end_in wording (one ∷ []) totals) c.captured_alone.ensures in (
      subst (λ (e : List ℕ). IsTellingFault (g.W.Sink.bytes c.args.writer.now) (g.W.Sink.bytes c.tell_end.new.writer) (e ++ met_told c.args.met c.args.count) c.in-Err.fault) is
          (end_cut _ _ (end_in wording (c.captured_alone.result ∷ []) totals) _ c.in-Err.fault c.in-Err.ensures.told.0),
      c.in-Err.ensures.told.1,
    )
