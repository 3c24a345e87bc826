-- The report on one capture, whose packets are told in lines and saved: what the relation of its run says of what was read and
-- written.
use Rattle.std.proofs.Common.{◌≡◌, ◌≢◌, ◌∙◌, ◌+◌, ◌-◌, ◌++◌, ◌⊎◌, ℕ, Bool, List, [], ◌∷◌, Option, ap, ap₂, append-nil, arith, inl, inr, length, refl, subst, sym}
use Rattle.std.proofs.lemmas.List.{length-map, same_from_push}
use Rattle.std.specs.Io.KnownBytes.{Appends}
use Rattle.packet_view.specs.Captures.{PacketFacts, packet_at, packets_at}
use Rattle.packet_view.specs.declared.capture.Order.{Order}
use Rattle.session_state.specs.declared.verdict.Verdict.{Verdict}
use Rattle.racl_io.specs.Reports.{is_truncated, totals_of}
use Rattle.racl_io.specs.Sinks.{GotFront}
use Rattle.racl_io.specs.Tellings.{Wording, lines_in}
use Rattle.racl_io.specs.Transfers.{GaveAtMost}
use Rattle.racl_io.specs.declared.fault.Fault.{Fault}
use Rattle.racl_io.specs.declared.fault.Fault.TheVariants as fault
use Rattle.racl_io.specs.declared.totals_and_truncation.Captured.{Captured}
use Rattle.racl_io.proofs.ReportLemmas.{totals_counted}
use Rattle.racl_io.proofs.TellingLemmas.{lines_in_both}
use Rattle.capture_stream.specs.Parting.{rest_in}
use Rattle.capture_stream.specs.Lives.{with_read}
use Rattle.capture_stream.specs.Savings.{Manner, Outputs, manner_of, outputs}
use Rattle.capture_stream.specs.declared.arrivals.FaultAt.{FaultAt}
use Rattle.filter_run.specs.Batches.{AreEach, JudgedBatch, batches_of, packets_in, packets_of, said_of}
use Rattle.filter_run.specs.CaptureReports.{HasToldAll, HasToldPart, HasToldSome, IsLiveFault}
use Rattle.filter_run.specs.Filters.{HasSaid}
use Rattle.filter_run.specs.Lines.{AreSame, HasCutLines, HasToldLines, IsCutText, text_of}
use Rattle.filter_run.specs.Observers.{IsBeforeLast}
use Rattle.filter_run.specs.OneCapture.{AreNumbered, GaveWithin, HasGivenSome, IsWhy, bytes_of, records_of, start_of}
use Rattle.filter_run.specs.Ran.{HasCutRun, HasStopped, IsRunFault, Ran, Words}
use Rattle.filter_run.specs.Saving.{AreOf, HasCutSaves, HasSavedSome}
use Rattle.filter_run.specs.Starts.{Start, most_at}
use Rattle.filter_run.specs.declared.capture_report.ReportedCapture.{ReportedCapture}
use Rattle.filter_run.specs.declared.one_capture.OneCapture.{OneCapture}
use Rattle.filter_run.specs.declared.one_filter.OneFilter.{OneFilter}
use Rattle.filter_run.specs.declared.saved_records.SavedRecords.{SavedRecords}
use Rattle.filter_run.specs.declared.told_lines.ToldLines.{ToldLines}
use Rattle.filter_run.proofs.NumberLemmas.{text_plain}
use Rattle.filter_run.proofs.OneLemmas.{count_one, each_front, one_earlier, one_read, one_stopped, one_words, packets_one, some_packets}
use Rattle.filter_run.proofs.TellLemmas.{totals_with}

-- ---- What is told, and saved

-- the lines of numbered batches are those of their packets
pub lines_one : (wording : Wording) (n : ℕ) (order : Order) (judged : List (JudgedBatch Verdict)) → AreNumbered n order (batches_of judged) → AreEach judged
    → text_of wording judged ≡ lines_in wording (n + 1) (packets_of judged) (said_of judged)
lines_one wording n order [] are each = refl
lines_one wording n order (one ∷ others) (behind, same, at, plain, are) (here, each) =
    let count = length-map one.batch.records (packet_at one.batch.interface) in
    let next = n + length one.batch.records in
    ap₂ (λ (l t : List ℕ). l ++ t) (text_plain wording one plain ∙ ap (λ k. lines_in wording (k + 1) (packets_in one.batch) one.said) behind) (lines_one wording next order others are each)
    ∙ sym (lines_in_both wording (n + 1) (next + 1) (packets_in one.batch) (packets_of others) one.said (said_of others) here (omega arith))

-- they are of one order
pub of_numbered : (n : ℕ) (order : Order) (judged : List (JudgedBatch Verdict)) → AreNumbered n order (batches_of judged) → AreOf order judged
of_numbered n order [] are = tt
of_numbered n order (one ∷ others) (behind, same, at, plain, are) = (same, of_numbered (n + length one.batch.records) order others are)

-- lines are cut by a write or for memory
pub cut_why : (was is : Option (List ℕ)) (earlier all : List ℕ) (found : Fault) → IsCutText was is earlier all found → (found ≡ fault.Write) ⊎ (found ≡ fault.Memory)
cut_why was is earlier all fault.Memory text = inr refl
cut_why was is earlier all fault.Write text = inl refl
cut_why was is earlier all found text = absurd text

module _ {J L K R W : Type 0} (Became : J → List PacketFacts → List Verdict → J → Type 0) (Judged : J → List PacketFacts → List Verdict → Type 0)
    (wording : L → Wording) (saved : K → Order → List ℕ → List Verdict → K → Type 0) (saving : K → ℕ) (bytes : R → Option (List ℕ)) (failures : R → ℕ)
    (written : W → Option (List ℕ)) (writing : W → ℕ) (source then : OneCapture R) (judge : J) (old new : ToldLines L W × SavedRecords K) where
  abbrev said_so : OneFilter J → List PacketFacts → List Verdict → OneFilter J → Type 0
  said_so begun packets said now = HasSaid Became Judged begun.inner packets said now.inner

  abbrev told_both : ToldLines L W × SavedRecords K → List (JudgedBatch Verdict) → ToldLines L W × SavedRecords K → Type 0
  told_both begun judged now = HasToldLines wording written writing begun.0 judged now.0 × HasSavedSome saved saving begun.1 judged now.1

  abbrev cut_one : ToldLines L W × SavedRecords K → List (JudgedBatch Verdict) → Fault → ToldLines L W × SavedRecords K → Type 0
  cut_one begun judged found now =
      (HasCutLines wording written writing begun.0 judged found now.0 × IsBeforeLast (HasSavedSome saved saving) begun.1 judged now.1)
      ⊎ (HasToldLines wording written writing begun.0 judged now.0 × HasCutSaves saving begun.1 found now.1)

  -- what its run is said by
  abbrev pub report_words : Words (OneCapture R) (OneFilter J) (ToldLines L W × SavedRecords K) Verdict
  report_words = one_words bytes failures said_so told_both cut_one source then (record { inner = judge }) old new

  abbrev manner : Manner K
  manner = manner_of (wording old.0.teller.now) saved

  abbrev began : Outputs K
  began = outputs (written old.0.writer.now) old.1.saver.now

  abbrev became : Outputs K
  became = outputs (written new.0.writer.now) new.1.saver.now

  abbrev Fails : Fault → Type 0
  Fails found = IsLiveFault Judged manner judge (start_of source) (bytes source.reader.now) (bytes then.reader.now) began became found

  module _ (judged : List (JudgedBatch Verdict)) (each : AreEach judged) (numbered : AreNumbered 0 source.parting.order (batches_of judged)) where
    report_text : text_of (wording old.0.teller.now) judged ≡ lines_in (wording old.0.teller.now) 1 (packets_at 0 (records_of (batches_of judged))) (said_of judged)
    report_text =
        lines_one (wording old.0.teller.now) 0 source.parting.order judged numbered each
        ∙ ap (λ ps. lines_in (wording old.0.teller.now) 1 ps (said_of judged)) (packets_one 0 source.parting.order judged numbered)

    report_judged : (now : J) → HasSaid Became Judged judge (packets_of judged) (said_of judged) now → records_of (batches_of judged) ≢ []
        → Judged judge (packets_at 0 (records_of (batches_of judged))) (said_of judged)
    report_judged now said some =
        subst (λ (ps : List PacketFacts). Judged judge ps (said_of judged)) (packets_one 0 source.parting.order judged numbered)
        (said.judged (some_packets 0 source.parting.order judged numbered some))

    report_saved : old.1.order ≡ source.parting.order → HasSavedSome saved saving old.1 judged new.1
        → saved old.1.saver.now source.parting.order (bytes_of (batches_of judged)) (said_of judged) new.1.saver.now
    report_saved same_order told =
        let all = told.all (subst (λ (o : Order). AreOf o judged) (sym same_order) (of_numbered 0 source.parting.order judged numbered)) in
        subst (λ (o : Order). saved old.1.saver.now o (bytes_of (batches_of judged)) (said_of judged) new.1.saver.now) same_order
        (subst (λ (b : List ℕ). saved old.1.saver.now old.1.order b (said_of judged) new.1.saver.now) all.0
        (subst (λ (vs : List Verdict). saved old.1.saver.now old.1.order told.bytes vs new.1.saver.now) all.1 told.stand))

    -- all of it was told, before the rest
    some_told : (now : J) → HasSaid Became Judged judge (packets_of judged) (said_of judged) now → (rest : List ℕ)
        → HasGivenSome (start_of source) (bytes source.reader.now) (bytes then.reader.now) (batches_of judged) rest
        → Appends (written old.0.writer.now) (written new.0.writer.now) (text_of (wording old.0.teller.now) judged) → old.1.order ≡ source.parting.order
        → HasSavedSome saved saving old.1 judged new.1 → HasToldSome Judged manner judge (start_of source) (bytes source.reader.now) (bytes then.reader.now) began became rest
    unfolding report_text report_judged report_saved
    some_told now said rest given text same_order kept = record {
      read = given.read;
      consumed = given.consumed;
      packets = records_of (batches_of judged);
      records = given.records;
      verdicts = said_of judged;
      judged = report_judged now said;
      count = count_one 0 source.parting.order judged numbered each;
      text = subst (Appends (written old.0.writer.now) (written new.0.writer.now)) report_text text;
      whole = bytes_of (batches_of judged);
      spelt = given.spelt;
      saved = report_saved same_order kept;
    }

    -- or a front of it
    some_part : (now : J) → HasSaid Became Judged judge (packets_of judged) (said_of judged) now → (rest : List ℕ)
        → HasGivenSome (start_of source) (bytes source.reader.now) (bytes then.reader.now) (batches_of judged) rest
        → GotFront (written old.0.writer.now) (written new.0.writer.now) (text_of (wording old.0.teller.now) judged)
        → HasToldPart Judged manner judge (start_of source) (bytes source.reader.now) (bytes then.reader.now) began became
    unfolding report_text report_judged
    some_part now said rest given front = record {
      read = given.read;
      consumed = given.consumed;
      packets = records_of (batches_of judged);
      rest = rest;
      records = given.records;
      verdicts = said_of judged;
      judged = report_judged now said;
      count = count_one 0 source.parting.order judged numbered each;
      front = subst (GotFront (written old.0.writer.now) (written new.0.writer.now)) report_text front;
    }

    -- the source failed
    why_live : (now : J) → HasSaid Became Judged judge (packets_of judged) (said_of judged) now → (rest : List ℕ)
        → (given : HasGivenSome (start_of source) (bytes source.reader.now) (bytes then.reader.now) (batches_of judged) rest)
        → Appends (written old.0.writer.now) (written new.0.writer.now) (text_of (wording old.0.teller.now) judged) → old.1.order ≡ source.parting.order
        → HasSavedSome saved saving old.1 judged new.1 → (found : Fault) → IsWhy (start_of source) given.read (bytes then.reader.now) (batches_of judged) rest found → Fails found
    unfolding some_told
    why_live now said rest given text same_order kept fault.Memory why = (rest, some_told now said rest given text same_order kept)
    why_live now said rest given text same_order kept fault.Read why = (rest, some_told now said rest given text same_order kept, why)
    why_live now said rest given text same_order kept fault.TooLarge why = (rest, some_told now said rest given text same_order kept, why)
    why_live now said rest given text same_order kept (fault.LongRecord number) why = (rest, some_told now said rest given text same_order kept, why.0, why.1, why.2)
    why_live now said rest given text same_order kept found why = absurd why

  -- ---- Why not all was told

  -- the run stopped
  stopped_live : old.1.order ≡ source.parting.order → (found : FaultAt) → HasStopped report_words source (record { inner = judge }) old then new found → Fails found.fault
  unfolding why_live
  stopped_live same_order found stopped =
      let behind = one_stopped bytes failures said_so told_both cut_one source then (record { inner = judge }) old new found stopped in
      why_live stopped.judged stopped.each behind.numbered stopped.said.0.inner stopped.said.1 behind.rest behind.some stopped.told.0.text same_order stopped.told.1 found.fault behind.why

  -- the lines were cut
  lines_live : old.1.order ≡ source.parting.order → (found : FaultAt) (which : Fault) (cut : HasCutRun report_words source (record { inner = judge }) old then new found)
      → HasCutLines wording written writing old.0 (cut.earlier ++ cut.last ∷ []) which new.0
      → IsBeforeLast (HasSavedSome saved saving) old.1 (cut.earlier ++ cut.last ∷ []) new.1 → Fails which
  unfolding some_told some_part
  lines_live same_order found fault.Memory cut lines kept =
      let behind = one_earlier bytes failures said_so told_both cut_one source then (record { inner = judge }) old new found cut in
      let text = subst (λ (js : List (JudgedBatch Verdict)). Appends (written old.0.writer.now) (written new.0.writer.now) (text_of (wording old.0.teller.now) js))
      (sym (same_from_push cut.earlier lines.earlier cut.last lines.last lines.all).0) lines.text in
      let told = subst (λ (js : List (JudgedBatch Verdict)). HasSavedSome saved saving old.1 js new.1) (sym (same_from_push cut.earlier kept.earlier cut.last kept.last kept.all).0)
      kept.told in
      (behind.rest, some_told cut.earlier (each_front cut.earlier (cut.last ∷ []) cut.each) behind.numbered cut.before.0.inner cut.before.1 behind.rest behind.some text same_order told)
  lines_live same_order found fault.Write cut lines kept =
      some_part (cut.earlier ++ cut.last ∷ []) cut.each cut.gave.numbered cut.said.0.inner cut.said.1 (rest_in then.parting) cut.gave.some lines.text
  lines_live same_order found which cut lines kept = absurd lines.text

  cut_live : old.1.order ≡ source.parting.order → (found : FaultAt) → HasCutRun report_words source (record { inner = judge }) old then new found → Fails found.fault
  unfolding lines_live some_part
  cut_live same_order found cut =
      let judged = cut.earlier ++ cut.last ∷ [] in
      elim cut.cut [
        | inl (lines, kept) ↦ lines_live same_order found found.fault cut lines kept
        | inr (told, saves) ↦ subst Fails (sym saves.write)
            (some_part judged cut.each cut.gave.numbered cut.said.0.inner cut.said.1 (rest_in then.parting) cut.gave.some
            (text_of (wording old.0.teller.now) judged, [], sym (append-nil (text_of (wording old.0.teller.now) judged)), told.text))
      ]

  -- why not all was told
  pub report_fault : old.1.order ≡ source.parting.order → (found : FaultAt) → IsRunFault report_words source (record { inner = judge }) old then new found
      → IsLiveFault Judged (manner_of (wording old.0.teller.now) saved) judge (start_of source) (bytes source.reader.now) (bytes then.reader.now)
      (outputs (written old.0.writer.now) old.1.saver.now) (outputs (written new.0.writer.now) new.1.saver.now) found.fault
  unfolding stopped_live cut_live
  report_fault same_order found (inl stopped) = stopped_live same_order found stopped
  report_fault same_order found (inr cut) = cut_live same_order found cut

  -- ---- All was told

  pub report_told : old.1.order ≡ source.parting.order → (at : OneFilter J) (captures : List Captured) (ended : ReportedCapture J) (truncated : Bool)
      → Ran report_words source (record { inner = judge }) old then at new captures → truncated ≡ is_truncated captures
      → ended.totals ≡ totals_with new.0.packets new.0.passed new.0.without_pages truncated → ended.judges ≡ at.inner
      → HasToldAll Became Judged (manner_of (wording old.0.teller.now) saved) judge (start_of source) (bytes source.reader.now) (bytes then.reader.now)
      (outputs (written old.0.writer.now) old.1.saver.now) (outputs (written new.0.writer.now) new.1.saver.now) ended
  unfolding report_text report_judged report_saved
  report_told same_order at captures ended truncated ran cut totals judges =
      let judged = ran.judged in
      let order = source.parting.order in
      let over = ran.over in
      let lines = ran.told.0 in
      let counted : ended.totals ≡ totals_of (said_of judged) captures =
      totals ∙ ap (λ n. totals_with n new.0.passed new.0.without_pages truncated) lines.packets
      ∙ totals_counted new.0.passed new.0.without_pages (said_of judged) captures truncated lines.passing lines.lacking cut in
      record {
        all = record {
          read = over.some.read;
          consumed = over.some.consumed;
          ended = over.ended;
          few = over.few;
          packets = records_of (batches_of judged);
          rest = over.rest;
          records = over.some.records;
          truncated = over.truncated;
          end = over.end;
          verdicts = said_of judged;
          judged = report_judged judged ran.each over.numbered at.inner ran.became;
          count = count_one 0 order judged over.numbered ran.each;
          counted = counted ∙ ap (totals_of (said_of judged)) over.told;
        };
        text = subst (Appends (written old.0.writer.now) (written new.0.writer.now)) (report_text judged ran.each over.numbered) lines.text;
        whole = bytes_of (batches_of judged);
        spelt = over.some.spelt;
        saved = report_saved judged ran.each over.numbered same_order ran.told.1;
        stand = subst (λ (j : J). Became judge (packets_at 0 (records_of (batches_of judged))) (said_of judged) j) (sym judges)
            (subst (λ (ps : List PacketFacts). Became judge ps (said_of judged) at.inner) (packets_one 0 order judged over.numbered) ran.became.stand);
      }

  -- the observers have what they had
  pub report_same : (found : FaultAt) → IsRunFault report_words source (record { inner = judge }) old then new found → AreSame old.0 new.0 × (new.1.saver.ghost_name ≡ old.1.saver.ghost_name)
  report_same found (inl stopped) = (stopped.told.0.same, stopped.told.1.same)
  report_same found (inr cut) = elim cut.cut [ inl (lines, kept) ↦ (lines.same, kept.told.same) | inr (told, saves) ↦ (told.same, saves.same) ]

  -- ---- How often devices failed

  which_cut : (found : Fault) (judged : List (JudgedBatch Verdict)) → cut_one old judged found new → (found ≡ fault.Write) ⊎ (found ≡ fault.Memory)
  which_cut found judged (inl (lines, kept)) =
      cut_why (written old.0.writer.now) (written new.0.writer.now) (text_of (wording old.0.teller.now) lines.earlier) (text_of (wording old.0.teller.now) judged) found lines.text
  which_cut found judged (inr (told, saves)) = inl saves.write

  pub report_read : (found : FaultAt) → IsRunFault report_words source (record { inner = judge }) old then new found
      → failures then.reader.now ≡ with_read (failures source.reader.now) found.fault
  unfolding which_cut
  report_read found wrong =
      one_read bytes failures said_so told_both cut_one source then (record { inner = judge }) old new found (which_cut found.fault) wrong

-- ---- The same by what was lent

-- what the source and the observers had when they began, and when they ended
pub record AreLent {L K R W : Type 0} (source then : OneCapture R) (old new : ToldLines L W × SavedRecords K) (start : Start) (reader left : R) (teller : L)
    (writer wrote : W) (saver kept : K) : Type 0 where
  pub same_start : start_of source ≡ start
  pub saves_order : old.1.order ≡ start.order
  pub read : source.reader.now ≡ reader
  pub words : old.0.teller.now ≡ teller
  pub write : old.0.writer.now ≡ writer
  pub save : old.1.saver.now ≡ saver
  pub left_is : then.reader.now ≡ left
  pub wrote_is : new.0.writer.now ≡ wrote
  pub kept_is : new.1.saver.now ≡ kept

module _ {J L K R W : Type 0} (Became : J → List PacketFacts → List Verdict → J → Type 0) (Judged : J → List PacketFacts → List Verdict → Type 0)
    (wording : L → Wording) (saved : K → Order → List ℕ → List Verdict → K → Type 0) (saving : K → ℕ) (bytes : R → Option (List ℕ)) (failures : R → ℕ)
    (written : W → Option (List ℕ)) (writing : W → ℕ) (source then : OneCapture R) (judge : J) (old new : ToldLines L W × SavedRecords K)
    (start : Start) (reader left : R) (teller : L) (writer wrote : W) (saver kept : K) where
  pub fault_lent : (found : FaultAt)
      → IsRunFault (report_words Became Judged wording saved saving bytes failures written writing source then judge old new) source (record { inner = judge }) old then new found
      → AreLent source then old new start reader left teller writer wrote saver kept
      → IsLiveFault Judged (manner_of (wording teller) saved) judge start (bytes reader) (bytes left) (outputs (written writer) saver) (outputs (written wrote) kept) found.fault
  fault_lent found wrong lent =
      rw (← lent.kept_is, ← lent.wrote_is, ← lent.save, ← lent.write, ← lent.left_is, ← lent.read, ← lent.same_start, ← lent.words)
      (report_fault Became Judged wording saved saving bytes failures written writing source then judge old new (lent.saves_order ∙ sym (ap (λ (s : Start). s.order) lent.same_start)) found wrong)

  pub told_lent : (at : OneFilter J) (captures : List Captured) (ended : ReportedCapture J) (truncated : Bool)
      → Ran (report_words Became Judged wording saved saving bytes failures written writing source then judge old new) source (record { inner = judge }) old then at new captures
      → truncated ≡ is_truncated captures → ended.totals ≡ totals_with new.0.packets new.0.passed new.0.without_pages truncated → ended.judges ≡ at.inner
      → AreLent source then old new start reader left teller writer wrote saver kept
      → HasToldAll Became Judged (manner_of (wording teller) saved) judge start (bytes reader) (bytes left) (outputs (written writer) saver) (outputs (written wrote) kept) ended
  told_lent at captures ended truncated ran cut totals judges lent =
      rw (← lent.kept_is, ← lent.wrote_is, ← lent.save, ← lent.write, ← lent.left_is, ← lent.read, ← lent.same_start, ← lent.words)
      (report_told Became Judged wording saved saving bytes failures written writing source then judge old new (lent.saves_order ∙ sym (ap (λ (s : Start). s.order) lent.same_start)) at captures ended truncated ran cut
      totals judges)

-- how far a reader was read
pub far_lent : {R : Type 0} (bytes : R → Option (List ℕ)) (source then : OneCapture R) (start : Start) (reader left : R) → start_of source ≡ start
    → source.reader.now ≡ reader → then.reader.now ≡ left → GaveWithin bytes source then
    → GaveAtMost (bytes reader) (bytes left) (most_at start.input + 1 - length start.front)
far_lent bytes source then start reader left same read left_is far = rw (← left_is, ← read, ← same) far
