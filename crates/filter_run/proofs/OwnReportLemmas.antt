-- The report on one's own packets of one capture: what the relation of its run says of what was read and written.
use Rattle.std.proofs.Common.{◌≡◌, ◌∙◌, ◌<◌, ◌≤◌, ◌++◌, ◌⊎◌, ℕ, Bool, List, [], ◌∷◌, Option, ap, append-nil, arith, inl, inr, length, subst, sym}
use Rattle.std.specs.List.{AllZip, concat}
use Rattle.std.proofs.lemmas.List.{length-map, map-append, same_from_push}
use Rattle.std.specs.Io.KnownBytes.{Appends}
use Rattle.packet_view.specs.Captures.{PacketFacts, packet_at, packets_at}
use Rattle.packet_view.specs.declared.capture.Order.{Order}
use Rattle.packet_view.proofs.RecordListLemmas.{records_within}
use Rattle.session_state.specs.declared.verdict.Verdict.{Verdict}
use Rattle.racl_io.specs.Reports.{is_truncated}
use Rattle.racl_io.specs.Sinks.{GotFront}
use Rattle.racl_io.specs.Tellings.{Wording}
use Rattle.racl_io.specs.declared.fault.Fault.{Fault}
use Rattle.racl_io.specs.declared.fault.Fault.TheVariants as fault
use Rattle.racl_io.specs.declared.totals_and_truncation.Captured.{Captured}
use Rattle.racl_io.proofs.TellingLemmas.{alone_truncated}
use Rattle.capture_stream.specs.Parting.{rest_in}
use Rattle.capture_stream.specs.Lives.{with_read}
use Rattle.capture_stream.specs.Savings.{Manner, Outputs, manner_of, outputs}
use Rattle.capture_stream.specs.declared.arrivals.FaultAt.{FaultAt}
use Rattle.capture_shards.specs.OwnRecords.{latest_of}
use Rattle.capture_shards.specs.Shards.{Own, own_in, own_packets}
use Rattle.capture_shards.specs.Sharing.{lines_at, own_numbers}
use Rattle.capture_shards.specs.declared.shard.Shard.{Shard}
use Rattle.capture_shards.specs.inner.OwnTests.{own_among}
use Rattle.capture_shards.proofs.PickedLists.{own_few}
use Rattle.filter_run.specs.Batches.{AreAllWhole, AreEach, BatchFacts, JudgedBatch, batches_of, packets_of, said_of}
use Rattle.filter_run.specs.Filters.{HasSaid}
use Rattle.filter_run.specs.Lines.{AreSame, HasCutLines, HasToldLines, text_of}
use Rattle.filter_run.specs.Observers.{IsBeforeLast}
use Rattle.filter_run.specs.OneCapture.{AreNumbered, GaveWithin, HasFailedBehind, HasGiven, HasGivenAll, HasGivenSome, IsWhy, bytes_of, records_of, start_of}
use Rattle.filter_run.specs.OwnReports.{HasJudgedOwn, HasToldAllOwn, HasToldOwnPart, HasToldOwnSome, IsOwnFault, own_lines}
use Rattle.filter_run.specs.Ran.{HasCutRun, HasStopped, IsRunFault, Ran, Words, most, words_of}
use Rattle.filter_run.specs.Saving.{AreOf, HasCutSaves, HasSavedSome}
use Rattle.filter_run.specs.Sharded.{HasFailedOwn, HasGivenAllOwn, HasGivenOwn, IsPart}
use Rattle.filter_run.specs.Starts.{Start, most_at}
use Rattle.filter_run.specs.declared.one_capture.OneCapture.{OneCapture}
use Rattle.filter_run.specs.declared.one_filter.OneFilter.{OneFilter}
use Rattle.filter_run.specs.declared.own_report.ReportedShare.{ReportedShare}
use Rattle.filter_run.specs.declared.saved_records.SavedRecords.{SavedRecords}
use Rattle.filter_run.specs.declared.sharded.Sharded.{Sharded}
use Rattle.filter_run.specs.declared.told_lines.ToldLines.{ToldLines}
use Rattle.filter_run.proofs.CaptureLemmas.{given_far, most_few}
use Rattle.filter_run.proofs.OneLemmas.{each_front, given_front, numbered_front, unread_by, whole_front}
use Rattle.filter_run.proofs.OwnBatchLemmas.{AreOwnJudged, own_judged, own_parts, own_wholes, packets_numbered, total_records, zip_count, zip_front}
use Rattle.filter_run.proofs.ReportLemmas.{cut_why}
use Rattle.filter_run.proofs.RunLemmas.{each_total}
use Rattle.filter_run.proofs.TellLemmas.{totals_alone, totals_with}

-- ---- Where a run ended early

-- what the source gave then, what was given of it, and why no more was
pub record StopsOwn (start : Start) (before after : Option (List ℕ)) (shard : Option Shard) (batches : List BatchFacts) (found : Fault) : Type 0 where
  pub all : List BatchFacts
  pub rest : List ℕ
  pub some : HasGivenSome start before after all rest
  pub numbered : AreNumbered 0 start.order all
  pub parts : AllZip (IsPart shard) all batches
  pub why : IsWhy start some.read after all rest found

-- of some batches, behind which the source gave more
stops_front : (start : Start) (before after : Option (List ℕ)) (shard : Option Shard) (all gone batches : List BatchFacts) (rest : List ℕ)
    → HasGivenSome start before after (all ++ gone) rest → AreNumbered 0 start.order (all ++ gone) → AllZip (IsPart shard) all batches → AreAllWhole batches
    → StopsOwn start before after shard batches fault.Memory
stops_front start before after shard all gone batches rest given numbered parts whole =
    let are = numbered_front 0 start.order all gone numbered in
    let wholes = own_wholes (own_among shard) all batches (own_parts shard 0 start.order all batches are whole parts) in
    record {
      all = all;
      rest = bytes_of gone ++ rest;
      some = given_front start before after all gone rest are wholes given;
      numbered = are;
      parts = parts;
      why = tt;
    }

-- and of those before the last
stops_last : (start : Start) (before after : Option (List ℕ)) (shard : Option Shard) (all batches : List BatchFacts) (last : BatchFacts) (rest : List ℕ)
    → HasGivenSome start before after all rest → AreNumbered 0 start.order all → AllZip (IsPart shard) all (batches ++ last ∷ []) → AreAllWhole batches
    → StopsOwn start before after shard batches fault.Memory
unfolding stops_front
stops_last start before after shard all batches last rest given numbered parts whole =
    let front = zip_front (IsPart shard) all batches last parts in
    stops_front start before after shard front.front (front.last ∷ []) batches rest (subst (λ (bs : List BatchFacts). HasGivenSome start before after bs rest) front.same given)
    (subst (AreNumbered 0 start.order) front.same numbered) front.zip whole

-- many batches or packets have many bytes
many_own : {R : Type 0} (bytes : R → Option (List ℕ)) (failures : R → ℕ) (begun then : OneCapture R) (all : List BatchFacts) → (gave : HasGiven bytes failures begun all then)
    → (most ≤ length all) ⊎ (most ≤ length (records_of all)) → most_at begun.input < length (rest_in begun.parting ++ gave.some.read)
many_own bytes failures begun then all gave many =
    let within = records_within begun.parting.order (rest_in begun.parting ++ gave.some.read) (records_of all) (rest_in then.parting) gave.some.records in
    let parts = gave.parts in
    let size = gave.size in
    let few = most_few begun.input in
    elim many [ inl p ↦ omega arith | inr p ↦ omega arith ]

-- no more is said of one's own packets than there are packets
said_few : (own : Own) (all : List BatchFacts) (judged : List (JudgedBatch Verdict)) (order : Order) → AreOwnJudged own 0 order all judged → AreEach judged
    → length (said_of judged) ≤ length (records_of all)
said_few own all judged order are each =
    let count = each_total judged each ∙ ap length are.packets in
    let few = own_few own 1 (packets_at 0 (records_of all)) (packets_at 0 (records_of all)) in
    let listed = length-map (records_of all) (packet_at 0) in
    omega arith

module _ {J L K R W : Type 0} (Became : J → List PacketFacts → List Verdict → J → Type 0) (Judged : J → List PacketFacts → List Verdict → Type 0)
    (wording : L → Wording) (saved : K → Order → List ℕ → List Verdict → K → Type 0) (saving : K → ℕ) (bytes : R → Option (List ℕ)) (failures : R → ℕ)
    (written : W → Option (List ℕ)) (writing : W → ℕ) (source then : Sharded (OneCapture R)) (judge : J) (old new : ToldLines L W × SavedRecords K) where
  abbrev said_so : OneFilter J → List PacketFacts → List Verdict → OneFilter J → Type 0
  said_so begun packets said now = HasSaid Became Judged begun.inner packets said now.inner

  abbrev told_both : ToldLines L W × SavedRecords K → List (JudgedBatch Verdict) → ToldLines L W × SavedRecords K → Type 0
  told_both begun judged now = HasToldLines wording written writing begun.0 judged now.0 × HasSavedSome saved saving begun.1 judged now.1

  abbrev cut_one : ToldLines L W × SavedRecords K → List (JudgedBatch Verdict) → Fault → ToldLines L W × SavedRecords K → Type 0
  cut_one begun judged found now =
      (HasCutLines wording written writing begun.0 judged found now.0 × IsBeforeLast (HasSavedSome saved saving) begun.1 judged now.1)
      ⊎ (HasToldLines wording written writing begun.0 judged now.0 × HasCutSaves saving begun.1 found now.1)

  -- what its run is said by
  abbrev pub own_words : Words (Sharded (OneCapture R)) (OneFilter J) (ToldLines L W × SavedRecords K) Verdict
  own_words = words_of (HasGivenOwn (HasGiven bytes failures)) (HasGivenAllOwn (HasGivenAll bytes failures)) (HasFailedOwn (HasGiven bytes failures) (HasFailedBehind bytes failures))
      said_so told_both cut_one

  abbrev start : Start
  start = start_of source.inner

  abbrev before : Option (List ℕ)
  before = bytes source.inner.reader.now

  abbrev after : Option (List ℕ)
  after = bytes then.inner.reader.now

  abbrev own : Own
  own = own_among source.shard

  abbrev manner : Manner K
  manner = manner_of (wording old.0.teller.now) saved

  abbrev began : Outputs K
  began = outputs (written old.0.writer.now) old.1.saver.now

  abbrev became : Outputs K
  became = outputs (written new.0.writer.now) new.1.saver.now

  abbrev Fails : Fault → Type 0
  Fails found = IsOwnFault Judged manner judge own start before after began became found

  abbrev Stops : List BatchFacts → Fault → Type 0
  Stops batches found = StopsOwn start before after source.shard batches found

  abbrev begun_judge : OneFilter J
  begun_judge = record { inner = judge }

  abbrev Wrong : FaultAt → Type 0
  Wrong found = IsRunFault own_words source begun_judge old then new found

  module _ (judged : List (JudgedBatch Verdict)) (each : AreEach judged) (whole : AreAllWhole (batches_of judged)) (all : List BatchFacts) (numbered : AreNumbered 0 start.order all)
      (parts : AllZip (IsPart source.shard) all (batches_of judged)) where
    are_own : AreOwnJudged own 0 start.order all judged
    are_own = own_judged own 0 start.order all judged numbered (own_parts source.shard 0 start.order all (batches_of judged) numbered whole parts) each

    own_text : text_of (wording old.0.teller.now) judged ≡ own_lines (wording old.0.teller.now) own (packets_at 0 (records_of all)) (said_of judged)
    own_text =
        are_own.text (wording old.0.teller.now)
        ∙ ap (λ ps. lines_at (wording old.0.teller.now) (own_numbers own 1 (packets_at 0 (records_of all))) ps (said_of judged)) are_own.packets

    own_saved : old.1.order ≡ start.order → HasSavedSome saved saving old.1 judged new.1
        → saved old.1.saver.now start.order (concat (own_in own 1 (packets_at 0 (records_of all)) are_own.pieces)) (said_of judged) new.1.saver.now
    own_saved same_order told =
        let kept = told.all (subst (λ (o : Order). AreOf o judged) (sym same_order) are_own.of) in
        subst (λ (o : Order). saved old.1.saver.now o (concat (own_in own 1 (packets_at 0 (records_of all)) are_own.pieces)) (said_of judged) new.1.saver.now) same_order
        (subst (λ (b : List ℕ). saved old.1.saver.now old.1.order b (said_of judged) new.1.saver.now) (kept.0 ∙ are_own.bytes)
        (subst (λ (vs : List Verdict). saved old.1.saver.now old.1.order told.bytes vs new.1.saver.now) kept.1 told.stand))

    own_by : (now : J) → HasSaid Became Judged judge (packets_of judged) (said_of judged) now → (rest : List ℕ) → HasGivenSome start before after all rest
        → HasJudgedOwn Judged judge own start before after rest
    own_by now said rest given = record {
      read = given.read;
      consumed = given.consumed;
      packets = records_of all;
      records = given.records;
      pieces = are_own.pieces;
      each = are_own.each;
      spelt = given.spelt ∙ ap (λ (b : List ℕ). b ++ rest) are_own.spelt;
      verdicts = said_of judged;
      judged = λ some. subst (λ (ps : List PacketFacts). Judged judge ps (said_of judged)) are_own.packets (said.judged (λ none. some (sym are_own.packets ∙ none)));
      count = each_total judged each ∙ ap length are_own.packets;
    }

    -- all of it was told, before the rest
    own_told : (now : J) → HasSaid Became Judged judge (packets_of judged) (said_of judged) now → (rest : List ℕ) → HasGivenSome start before after all rest
        → Appends (written old.0.writer.now) (written new.0.writer.now) (text_of (wording old.0.teller.now) judged) → old.1.order ≡ start.order
        → HasSavedSome saved saving old.1 judged new.1 → HasToldOwnSome Judged manner judge own start before after began became rest
    unfolding own_text own_saved own_by
    own_told now said rest given text same_order kept = record {
      by = own_by now said rest given;
      text = subst (Appends (written old.0.writer.now) (written new.0.writer.now)) own_text text;
      saved = own_saved same_order kept;
    }

    -- or a front of it
    own_told_part : (now : J) → HasSaid Became Judged judge (packets_of judged) (said_of judged) now → (rest : List ℕ) → HasGivenSome start before after all rest
        → GotFront (written old.0.writer.now) (written new.0.writer.now) (text_of (wording old.0.teller.now) judged)
        → HasToldOwnPart Judged manner judge own start before after began became
    unfolding own_text own_by
    own_told_part now said rest given front = record {
      rest = rest;
      by = own_by now said rest given;
      front = subst (GotFront (written old.0.writer.now) (written new.0.writer.now)) own_text front;
    }

    -- the source failed
    why_own : (now : J) → HasSaid Became Judged judge (packets_of judged) (said_of judged) now → (rest : List ℕ) → (given : HasGivenSome start before after all rest)
        → Appends (written old.0.writer.now) (written new.0.writer.now) (text_of (wording old.0.teller.now) judged) → old.1.order ≡ start.order
        → HasSavedSome saved saving old.1 judged new.1 → (found : Fault) → IsWhy start given.read after all rest found → Fails found
    unfolding own_told own_by
    why_own now said rest given text same_order kept fault.Memory why = (rest, own_told now said rest given text same_order kept)
    why_own now said rest given text same_order kept fault.Read why = (rest, own_told now said rest given text same_order kept, why)
    why_own now said rest given text same_order kept fault.TooLarge why = (rest, own_told now said rest given text same_order kept, why)
    why_own now said rest given text same_order kept (fault.LongRecord number) why = (rest, own_told now said rest given text same_order kept, why.0, why.1, why.2)
    why_own now said rest given text same_order kept found why = absurd why

  -- ---- Why not all was told

  own_stopped : source.seen ≡ 0 → (found : FaultAt) (stopped : HasStopped own_words source begun_judge old then new found) → Stops (batches_of stopped.judged) found.fault
  unfolding stops_front stops_last many_own are_own said_few
  own_stopped none found stopped =
      let judged = stopped.judged in
      let batches = batches_of judged in
      elim stopped.why [
        | inl failed ↦ elim failed.why [
          | inl behind ↦ record { all = failed.all; rest = behind.rest; some = behind.some; numbered = behind.numbered; parts = failed.parts; why = behind.why }
          | inr (inl (memory, gone, place, gave)) ↦ subst (Stops batches) (sym memory)
              (stops_front start before after source.shard failed.all (gone ∷ []) batches (rest_in then.inner.parting) gave.some gave.numbered failed.parts stopped.whole)
          | inr (inr (large, gave, many)) ↦ subst (λ (f : FaultAt). Stops batches f.fault) (sym large) (record {
            all = failed.all;
            rest = rest_in then.inner.parting;
            some = gave.some;
            numbered = gave.numbered;
            parts = failed.parts;
            why = many_own bytes failures source.inner then.inner failed.all gave (inr (let count = total_records failed.all in omega arith));
          })
        ]
        | inr (inl (memory, gone, place, gave)) ↦ subst (Stops batches) (sym memory)
            (stops_last start before after source.shard gave.all batches gone (rest_in then.inner.parting) gave.gave.some gave.gave.numbered gave.parts stopped.whole)
        | inr (inr (large, gave, many)) ↦ subst (λ (f : FaultAt). Stops batches f.fault) (sym large) (record {
          all = gave.all;
          rest = rest_in then.inner.parting;
          some = gave.gave.some;
          numbered = gave.gave.numbered;
          parts = gave.parts;
          why = many_own bytes failures source.inner then.inner gave.all gave.gave (elim many [
            | inl p ↦ inl (let same = zip_count (IsPart source.shard) gave.all batches gave.parts in let listed = length-map judged (λ (one : JudgedBatch Verdict). one.batch) in omega arith)
            | inr p ↦ inr (let few = said_few own gave.all judged start.order (are_own judged stopped.each stopped.whole gave.all gave.gave.numbered gave.parts) stopped.each in omega arith)
          ]);
        })
      ]

  stopped_own : source.seen ≡ 0 → old.1.order ≡ start.order → (found : FaultAt) → HasStopped own_words source begun_judge old then new found → Fails found.fault
  unfolding why_own own_stopped
  stopped_own none same_order found stopped =
      let behind = own_stopped none found stopped in
      why_own stopped.judged stopped.each stopped.whole behind.all behind.numbered behind.parts stopped.said.0.inner stopped.said.1 behind.rest behind.some stopped.told.0.text same_order
      stopped.told.1 found.fault behind.why

  module _ (found : FaultAt) (cut : HasCutRun own_words source begun_judge old then new found) where
    abbrev earlier : List (JudgedBatch Verdict)
    earlier = cut.earlier

    abbrev to_last : List (JudgedBatch Verdict)
    to_last = cut.earlier ++ cut.last ∷ []

    -- of the batches before the last, within which an observer failed
    own_earlier : Stops (batches_of earlier) fault.Memory
    unfolding stops_last
    own_earlier =
        let both = map-append (λ (one : JudgedBatch Verdict). one.batch) earlier (cut.last ∷ []) in
        stops_last start before after source.shard cut.gave.all (batches_of earlier) cut.last.batch (rest_in then.inner.parting) cut.gave.gave.some cut.gave.gave.numbered
        (subst (λ (bs : List BatchFacts). AllZip (IsPart source.shard) cut.gave.all bs) both cut.gave.parts)
        (whole_front (batches_of earlier) (cut.last.batch ∷ []) (subst AreAllWhole both cut.whole))

    part_told : GotFront (written old.0.writer.now) (written new.0.writer.now) (text_of (wording old.0.teller.now) to_last) → HasToldOwnPart Judged manner judge own start before after began became
    unfolding own_told_part
    part_told front =
        own_told_part to_last cut.each cut.whole cut.gave.all cut.gave.gave.numbered cut.gave.parts cut.said.0.inner cut.said.1 (rest_in then.inner.parting) cut.gave.gave.some front

    -- the lines were cut
    lines_own : old.1.order ≡ start.order → (which : Fault) → HasCutLines wording written writing old.0 to_last which new.0 → IsBeforeLast (HasSavedSome saved saving) old.1 to_last new.1
        → Fails which
    unfolding own_told part_told own_earlier
    lines_own same_order fault.Memory lines kept =
        let behind = own_earlier in
        let text = subst (λ (js : List (JudgedBatch Verdict)). Appends (written old.0.writer.now) (written new.0.writer.now) (text_of (wording old.0.teller.now) js))
        (sym (same_from_push earlier lines.earlier cut.last lines.last lines.all).0) lines.text in
        let told = subst (λ (js : List (JudgedBatch Verdict)). HasSavedSome saved saving old.1 js new.1) (sym (same_from_push earlier kept.earlier cut.last kept.last kept.all).0)
        kept.told in
        let both = map-append (λ (one : JudgedBatch Verdict). one.batch) earlier (cut.last ∷ []) in (
          behind.rest,
          own_told earlier (each_front earlier (cut.last ∷ []) cut.each) (whole_front (batches_of earlier) (cut.last.batch ∷ []) (subst AreAllWhole both cut.whole))
              behind.all behind.numbered behind.parts cut.before.0.inner cut.before.1 behind.rest behind.some text same_order told,
        )
    lines_own same_order fault.Write lines kept = part_told lines.text
    lines_own same_order which lines kept = absurd lines.text

    cut_own : old.1.order ≡ start.order → Fails found.fault
    unfolding lines_own part_told
    cut_own same_order =
        elim cut.cut [
          | inl (lines, kept) ↦ lines_own same_order found.fault lines kept
          | inr (told, saves) ↦ subst Fails (sym saves.write)
              (part_told (text_of (wording old.0.teller.now) to_last, [], sym (append-nil (text_of (wording old.0.teller.now) to_last)), told.text))
        ]

  -- why not all was told
  pub own_fault : source.seen ≡ 0 → old.1.order ≡ source.inner.parting.order → (found : FaultAt) → IsRunFault own_words source (record { inner = judge }) old then new found
      → IsOwnFault Judged (manner_of (wording old.0.teller.now) saved) judge (own_among source.shard) (start_of source.inner) (bytes source.inner.reader.now) (bytes then.inner.reader.now)
      (outputs (written old.0.writer.now) old.1.saver.now) (outputs (written new.0.writer.now) new.1.saver.now) found.fault
  unfolding stopped_own cut_own
  own_fault none same_order found (inl stopped) = stopped_own none same_order found stopped
  own_fault none same_order found (inr cut) = cut_own found cut same_order

  -- ---- All was told

  pub own_all : source.seen ≡ 0 → source.latest ≡ 0 → old.1.order ≡ source.inner.parting.order → (at : OneFilter J) (captures : List Captured) (ended : ReportedShare J) (truncated : Bool)
      → Ran own_words source (record { inner = judge }) old then at new captures → truncated ≡ is_truncated captures
      → ended.totals ≡ totals_with new.0.packets new.0.passed new.0.without_pages truncated → ended.judges ≡ at.inner → ended.seen ≡ then.seen → ended.latest ≡ then.latest
      → HasToldAllOwn Became Judged (manner_of (wording old.0.teller.now) saved) judge source.noted (own_among source.shard) (start_of source.inner) (bytes source.inner.reader.now)
      (bytes then.inner.reader.now) (outputs (written old.0.writer.now) old.1.saver.now) (outputs (written new.0.writer.now) new.1.saver.now) ended
  unfolding own_told own_by are_own
  own_all none no_second same_order at captures ended truncated ran cut totals judges seen latest =
      let judged = ran.judged in
      let over = ran.over.over in
      let all = ran.over.all in
      let packets = packets_at 0 (records_of all) in
      let lines = ran.told.0 in
      let are = are_own judged ran.each ran.whole all over.numbered ran.over.parts in
      let count : length (said_of judged) ≡ length (own_packets own 1 packets) = each_total judged ran.each ∙ ap length are.packets in
      record {
        rest = over.rest;
        all = own_told judged ran.each ran.whole all over.numbered ran.over.parts at.inner ran.became over.rest over.some lines.text same_order ran.told.1;
        ended = over.ended;
        few = over.few;
        truncated = over.truncated;
        end = over.end;
        counted =
            totals ∙ ap (λ n. totals_with n new.0.passed new.0.without_pages truncated) (lines.packets ∙ count)
            ∙ ap (totals_with (length (own_packets own 1 packets)) new.0.passed new.0.without_pages)
            (cut ∙ ap is_truncated over.told ∙ sym (alone_truncated (length (records_of all)) over.truncated))
            ∙ totals_alone (said_of judged) (length (own_packets own 1 packets)) new.0.passed new.0.without_pages over.truncated count lines.passing lines.lacking;
        stand = subst (λ (j : J). Became judge (own_packets own 1 packets) (said_of judged) j) (sym judges)
            (subst (λ (ps : List PacketFacts). Became judge ps (said_of judged) at.inner) are.packets ran.became.stand);
        seen = let came = ran.over.goes_on.seen in let records = total_records all in omega arith;
        latest = λ noted.
            let later = ran.over.goes_on.latest noted in
            let same = ap latest_of (packets_numbered 0 start.order all over.numbered) in
            omega arith;
      }

  -- the observers have what they had
  pub own_same : (found : FaultAt) → IsRunFault own_words source (record { inner = judge }) old then new found
      → AreSame old.0 new.0 × (new.1.saver.ghost_name ≡ old.1.saver.ghost_name)
  own_same found (inl stopped) = (stopped.told.0.same, stopped.told.1.same)
  own_same found (inr cut) = elim cut.cut [ inl (lines, kept) ↦ (lines.same, kept.told.same) | inr (told, saves) ↦ (told.same, saves.same) ]

  -- and the source the reader that it had
  pub own_reader : (found : FaultAt) → IsRunFault own_words source (record { inner = judge }) old then new found → then.inner.reader.ghost_name ≡ source.inner.reader.ghost_name
  own_reader found (inl stopped) = elim stopped.why [
    | inl failed ↦ elim failed.why [
      | inl behind ↦ behind.same
      | inr (inl (memory, gone, place, gave)) ↦ gave.same
      | inr (inr (large, gave, many)) ↦ gave.same
    ]
    | inr (inl (memory, gone, place, gave)) ↦ gave.gave.same
    | inr (inr (large, gave, many)) ↦ gave.gave.same
  ]
  own_reader found (inr cut) = cut.gave.gave.same

  -- ---- How far the reader was read, and how often devices failed

  pub own_far : (found : FaultAt) → IsRunFault own_words source (record { inner = judge }) old then new found → GaveWithin bytes source.inner then.inner
  own_far found (inl stopped) = elim stopped.why [
    | inl failed ↦ elim failed.why [
      | inl behind ↦ behind.far
      | inr (inl (memory, gone, place, gave)) ↦ given_far bytes failures source.inner (failed.all ++ gone ∷ []) then.inner gave
      | inr (inr (large, gave, many)) ↦ given_far bytes failures source.inner failed.all then.inner gave
    ]
    | inr (inl (memory, gone, place, gave)) ↦ given_far bytes failures source.inner gave.all then.inner gave.gave
    | inr (inr (large, gave, many)) ↦ given_far bytes failures source.inner gave.all then.inner gave.gave
  ]
  own_far found (inr cut) = given_far bytes failures source.inner cut.gave.all then.inner cut.gave.gave

  which_cut : (found : Fault) (judged : List (JudgedBatch Verdict)) → cut_one old judged found new → (found ≡ fault.Write) ⊎ (found ≡ fault.Memory)
  which_cut found judged (inl (lines, kept)) =
      cut_why (written old.0.writer.now) (written new.0.writer.now) (text_of (wording old.0.teller.now) lines.earlier) (text_of (wording old.0.teller.now) judged) found lines.text
  which_cut found judged (inr (told, saves)) = inl saves.write

  pub own_read : (found : FaultAt) → IsRunFault own_words source (record { inner = judge }) old then new found
      → failures then.inner.reader.now ≡ with_read (failures source.inner.reader.now) found.fault
  unfolding which_cut
  own_read found (inl stopped) =
      let was = failures source.inner.reader.now in
      let is = failures then.inner.reader.now in
      elim stopped.why [
        | inl failed ↦ elim failed.why [
          | inl behind ↦ behind.failed
          | inr (inl (memory, gone, place, gave)) ↦ unread_by was is found.fault (inr memory) gave.sound
          | inr (inr (large, gave, many)) ↦ subst (λ (f : FaultAt). is ≡ with_read was f.fault) (sym large) gave.sound
        ]
        | inr (inl (memory, gone, place, gave)) ↦ unread_by was is found.fault (inr memory) gave.gave.sound
        | inr (inr (large, gave, many)) ↦ subst (λ (f : FaultAt). is ≡ with_read was f.fault) (sym large) gave.gave.sound
      ]
  own_read found (inr cut) =
      unread_by (failures source.inner.reader.now) (failures then.inner.reader.now) found.fault (which_cut found.fault (cut.earlier ++ cut.last ∷ []) cut.cut) cut.gave.gave.sound

-- ---- The same by what was lent

-- what the source and the observers had when they began, and when they ended
pub record AreLentOwn {L K R W : Type 0} (source then : Sharded (OneCapture R)) (old new : ToldLines L W × SavedRecords K) (start : Start) (reader left : R) (teller : L)
    (writer wrote : W) (saver kept : K) : Type 0 where
  pub none : source.seen ≡ 0
  pub no_second : source.latest ≡ 0
  pub same_start : start_of source.inner ≡ start
  pub saves_order : old.1.order ≡ start.order
  pub read : source.inner.reader.now ≡ reader
  pub words : old.0.teller.now ≡ teller
  pub write : old.0.writer.now ≡ writer
  pub save : old.1.saver.now ≡ saver
  pub left_is : then.inner.reader.now ≡ left
  pub wrote_is : new.0.writer.now ≡ wrote
  pub kept_is : new.1.saver.now ≡ kept

module _ {J L K R W : Type 0} (Became : J → List PacketFacts → List Verdict → J → Type 0) (Judged : J → List PacketFacts → List Verdict → Type 0)
    (wording : L → Wording) (saved : K → Order → List ℕ → List Verdict → K → Type 0) (saving : K → ℕ) (bytes : R → Option (List ℕ)) (failures : R → ℕ)
    (written : W → Option (List ℕ)) (writing : W → ℕ) (source then : Sharded (OneCapture R)) (judge : J) (old new : ToldLines L W × SavedRecords K)
    (start : Start) (reader left : R) (teller : L) (writer wrote : W) (saver kept : K) where
  pub own_fault_lent : (found : FaultAt)
      → IsRunFault (own_words Became Judged wording saved saving bytes failures written writing source then judge old new) source (record { inner = judge }) old then new found
      → AreLentOwn source then old new start reader left teller writer wrote saver kept
      → IsOwnFault Judged (manner_of (wording teller) saved) judge (own_among source.shard) start (bytes reader) (bytes left) (outputs (written writer) saver) (outputs (written wrote) kept)
      found.fault
  own_fault_lent found wrong lent =
      rw (← lent.kept_is, ← lent.wrote_is, ← lent.save, ← lent.write, ← lent.left_is, ← lent.read, ← lent.same_start, ← lent.words)
      (own_fault Became Judged wording saved saving bytes failures written writing source then judge old new lent.none (lent.saves_order ∙ sym (ap (λ (s : Start). s.order) lent.same_start))
      found wrong)

  pub own_all_lent : (at : OneFilter J) (captures : List Captured) (ended : ReportedShare J) (truncated : Bool)
      → Ran (own_words Became Judged wording saved saving bytes failures written writing source then judge old new) source (record { inner = judge }) old then at new captures
      → truncated ≡ is_truncated captures → ended.totals ≡ totals_with new.0.packets new.0.passed new.0.without_pages truncated → ended.judges ≡ at.inner → ended.seen ≡ then.seen
      → ended.latest ≡ then.latest → AreLentOwn source then old new start reader left teller writer wrote saver kept
      → HasToldAllOwn Became Judged (manner_of (wording teller) saved) judge source.noted (own_among source.shard) start (bytes reader) (bytes left) (outputs (written writer) saver)
      (outputs (written wrote) kept) ended
  own_all_lent at captures ended truncated ran cut totals judges seen latest lent =
      rw (← lent.kept_is, ← lent.wrote_is, ← lent.save, ← lent.write, ← lent.left_is, ← lent.read, ← lent.same_start, ← lent.words)
      (own_all Became Judged wording saved saving bytes failures written writing source then judge old new lent.none lent.no_second
      (lent.saves_order ∙ sym (ap (λ (s : Start). s.order) lent.same_start)) at captures ended truncated ran cut totals judges seen latest)
