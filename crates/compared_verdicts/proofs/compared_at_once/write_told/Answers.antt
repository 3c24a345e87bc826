use Rattle.std.proofs.Common.{◌≡◌, ◌∙◌, ◌++◌, ◌+◌, Bool, List, ℕ, [], ◌∷◌, ap, length, subst}
use Rattle.racl_io.specs.Sinks.{GotFront, HasPutFront}
use Rattle.racl_io.specs.Tellings.{end_in}
use Rattle.racl_io.specs.declared.totals_and_truncation.Captured.{Captured}
use Rattle.racl_io.proofs.TellingLemmas.{front_of_first, front_on, put_more}
use Rattle.compared_verdicts.specs.Meeting.{are_met, end_of, met_told, told_from, unmet_wording}
use Rattle.compared_verdicts.proofs.compared_at_once.write_told.Goals as goal

pub returns : goal.returns
returns g c =
    let expectations = c.args.expectations.now in
    let totals = c.args.totals.now in
    let lines = told_from expectations 1 c.args.verdicts.now in
    let end = end_in (unmet_wording expectations) (c.captured_alone.result ∷ []) totals in
    let is : end ≡ end_of expectations totals = ap (λ (one : Captured). end_in (unmet_wording expectations) (one ∷ []) totals) c.captured_alone.ensures in
    let count = length expectations in
    let bytes = g.W.Sink.bytes in
    let failures = g.W.Sink.failures in
    let behind = put_more bytes failures c.write_unmet_from.new.writer c.write_unmet_end.new.writer c.write_met.new.writer end (met_told c.args.met count)
    c.write_met.result c.in-Ok-write_unmet_end.ensures.0 c.in-Ok-write_unmet_end.ensures.1 c.write_met.ensures in
    subst (λ (e : List ℕ). HasPutFront bytes failures c.args.writer.now c.write_met.new.writer (lines ++ (e ++ met_told (are_met expectations c.args.verdicts.now totals) count)) c.write_met.result) is
    (subst (λ (met : Bool). HasPutFront bytes failures c.args.writer.now c.write_met.new.writer (lines ++ (end ++ met_told met count)) c.write_met.result) c.requires.is
    (put_more bytes failures c.args.writer.now c.write_unmet_from.new.writer c.write_met.new.writer lines (end ++ met_told c.args.met count)
    c.write_met.result c.in-Ok.ensures.0 c.in-Ok.ensures.1 behind))

pub returns-in-Err : goal.returns-in-Err
returns-in-Err g c =
    let expectations = c.args.expectations.now in
    let totals = c.args.totals.now in
    let last = met_told (are_met expectations c.args.verdicts.now totals) (length expectations) in
    let front = front_of_first (g.W.Sink.bytes c.args.writer.now) (g.W.Sink.bytes c.write_unmet_from.new.writer) (told_from expectations 1 c.args.verdicts.now)
    (end_of expectations totals ++ last) c.in-Err.ensures.4 in
    (tt, tt, c.in-Err.ensures.2, c.in-Err.ensures.3, front)

pub returns-in-Err-write_unmet_end : goal.returns-in-Err-write_unmet_end
returns-in-Err-write_unmet_end g c =
    let expectations = c.args.expectations.now in
    let totals = c.args.totals.now in
    let lines = told_from expectations 1 c.args.verdicts.now in
    let end = end_in (unmet_wording expectations) (c.captured_alone.result ∷ []) totals in
    let is : end ≡ end_of expectations totals = ap (λ (one : Captured). end_in (unmet_wording expectations) (one ∷ []) totals) c.captured_alone.ensures in
    let last = met_told (are_met expectations c.args.verdicts.now totals) (length expectations) in
    let bytes = g.W.Sink.bytes in
    let old = bytes c.args.writer.now in
    let mid = bytes c.write_unmet_from.new.writer in
    let new = bytes c.write_unmet_end.new.writer in (
      tt,
      tt,
      c.in-Err-write_unmet_end.ensures.2 ∙ ap (λ n. n + 1) c.in-Ok.ensures.1,
      c.in-Err-write_unmet_end.ensures.3,
      subst (λ (e : List ℕ). GotFront old new (lines ++ (e ++ last))) is
          (front_on old mid new lines (end ++ last) c.in-Ok.ensures.0 (front_of_first mid new end last c.in-Err-write_unmet_end.ensures.4)),
    )
