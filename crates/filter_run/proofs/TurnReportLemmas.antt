-- The report on captures in turn: what the relation of its run says of their packets.
use Rattle.std.proofs.Common.{◌≡◌, ◌∙◌, ◌⊎◌, ◌+◌, ◌++◌, ℕ, Bool, List, [], ◌∷◌, Option, ap, ap₂, arith, drop, inl, inr, length, refl, subst, sym, take}
use Rattle.std.proofs.lemmas.List.{drop_at, length-map, take_at}
use Rattle.std.specs.Io.KnownBytes.{Appends}
use Rattle.packet_view.specs.Captures.{PacketFacts, end_of, packet_at, packets_at}
use Rattle.session_state.specs.declared.verdict.Verdict.{Verdict}
use Rattle.racl_io.specs.CapturePackets.{HavePacketsTold}
use Rattle.racl_io.specs.Reports.{is_truncated}
use Rattle.racl_io.specs.Tellings.{Wording, lines_in, turns_in}
use Rattle.racl_io.specs.declared.capture_bytes.CaptureBytes.{CaptureBytes}
use Rattle.racl_io.specs.declared.fault.Fault.TheVariants.{Memory, TooLarge, Write}
use Rattle.racl_io.specs.declared.totals_and_truncation.Captured.{Captured}
use Rattle.racl_io.proofs.ReportLemmas.{totals_counted}
use Rattle.capture_shards.specs.OwnRecords.{latest_of}
use Rattle.capture_stream.specs.declared.arrivals.FaultAt.{FaultAt}
use Rattle.filter_run.specs.Batches.{AreEach, JudgedBatch, batches_of, packets_in, packets_of, said_of}
use Rattle.filter_run.specs.CapturesInTurn.{AreInTurn, HasGivenAllInTurn, HasGivenInTurn}
use Rattle.filter_run.specs.Filters.{HasSaid}
use Rattle.filter_run.specs.Lines.{batch_text}
use Rattle.filter_run.specs.LinesInTurn.{HasCutLinesInTurn, HasToldLinesInTurn, turns_text}
use Rattle.filter_run.specs.Ran.{IsRunFault, Ran, Words, words_of}
use Rattle.filter_run.specs.TurnReports.{HasToldInTurn}
use Rattle.filter_run.specs.declared.captures_in_turn.CapturesInTurn.{CapturesInTurn}
use Rattle.filter_run.specs.declared.lines_in_turn.LinesInTurn.{LinesInTurn}
use Rattle.filter_run.specs.declared.one_filter.OneFilter.{OneFilter}
use Rattle.filter_run.specs.declared.turn_report.ReportedTurns.{ReportedTurns}
use Rattle.filter_run.proofs.CapturesReportLemmas.{packets_listed}
use Rattle.filter_run.proofs.NumberLemmas.{text_plain}
use Rattle.filter_run.proofs.RunLemmas.{each_total}
use Rattle.filter_run.proofs.TellLemmas.{totals_with}

-- ---- Batches of captures

-- their packets are these, and what is told of them is
record AreTold (n : ℕ) (wording : Wording) (judged : List (JudgedBatch Verdict)) (told : List Captured) (packets : List PacketFacts) : Type 0 where
  same : packets_of judged ≡ packets
  text : turns_text wording judged told ≡ turns_in wording (n + 1) packets (said_of judged) told

turns_told : (n : ℕ) (wording : Wording) (captures : List CaptureBytes) (judged : List (JudgedBatch Verdict)) (told : List Captured) (packets : List PacketFacts)
    → HavePacketsTold captures told packets → AreInTurn n captures (batches_of judged) → length (batches_of judged) ≡ length captures → AreEach judged
    → AreTold n wording judged told packets
turns_told n wording [] [] told packets (none, empty) are all each =
    subst (λ (cs : List Captured). AreTold n wording [] cs packets) (sym none) (subst (AreTold n wording [] []) (sym empty) record { same = refl; text = refl })
turns_told n wording [] (one ∷ judged) told packets have are all each = absurd (omega (arith, all))
turns_told n wording (capture ∷ captures) [] told packets have are all each = absurd (omega (arith, all))
turns_told n wording (capture ∷ captures) (one ∷ judged) told packets (mine, rest, captured, others, packets_are, told_are, one_is, more) (is, are) all (here, each) =
    let records = is.only one_is.records.0 (end_of one_is.truncated) one_is.records.1 in
    let own : packets_in one.batch ≡ mine =
    ap₂ packets_at is.interface records ∙ sym one_is.records.2 in
    let size : captured.packets ≡ length (packets_in one.batch) = one_is.count ∙ ap length (sym own) in
    let count = length-map one.batch.records (packet_at one.batch.interface) in
    let later = turns_told (n + length one.batch.records) wording captures judged others rest more are (omega (arith, all)) each in
    let next : n + length one.batch.records + 1 ≡ n + 1 + captured.packets = omega arith in
    let front : take captured.packets (packets_in one.batch ++ rest) ≡ packets_in one.batch = take_at (packets_in one.batch) rest captured.packets (sym size) in
    let behind : drop captured.packets (packets_in one.batch ++ rest) ≡ rest = drop_at (packets_in one.batch) rest captured.packets (sym size) in
    let said : take captured.packets (one.said ++ said_of judged) ≡ one.said = take_at one.said (said_of judged) captured.packets (here ∙ sym size) in
    let left : drop captured.packets (one.said ++ said_of judged) ≡ said_of judged = drop_at one.said (said_of judged) captured.packets (here ∙ sym size) in
    let line : batch_text wording one ≡ lines_in wording (n + 1) (take captured.packets (packets_in one.batch ++ rest)) (take captured.packets (one.said ++ said_of judged)) =
    text_plain wording one is.plain ∙ ap (λ k. lines_in wording (k + 1) (packets_in one.batch) one.said) is.behind
    ∙ ap₂ (lines_in wording (n + 1)) (sym front) (sym said) in
    let text : turns_text wording judged others
    ≡ turns_in wording (n + 1 + captured.packets) (drop captured.packets (packets_in one.batch ++ rest)) (drop captured.packets (one.said ++ said_of judged)) others =
    later.text ∙ ap (λ k. turns_in wording k rest (said_of judged) others) next
    ∙ ap₂ (λ (ps : List PacketFacts) (vs : List Verdict). turns_in wording (n + 1 + captured.packets) ps vs others) (sym behind) (sym left) in
    let parts : packets_in one.batch ++ rest ≡ packets = ap (λ (ps : List PacketFacts). ps ++ rest) own ∙ sym packets_are in
    subst (λ (cs : List Captured). AreTold n wording (one ∷ judged) cs packets) (sym told_are)
    (subst (AreTold n wording (one ∷ judged) (captured ∷ others)) parts record {
      same = ap (λ (ps : List PacketFacts). packets_in one.batch ++ ps) later.same;
      text = ap₂ (λ (l t : List ℕ). l ++ (wording.cut captured ++ t)) line text;
    })

module _ {J L W : Type 0} (Became : J → List PacketFacts → List Verdict → J → Type 0) (Judged : J → List PacketFacts → List Verdict → Type 0)
    (wording : L → Wording) (written : W → Option (List ℕ)) (writing : W → ℕ) (source then : CapturesInTurn) (judge : J) (old new : LinesInTurn L W) where
  abbrev said_so : OneFilter J → List PacketFacts → List Verdict → OneFilter J → Type 0
  said_so begun packets said now = HasSaid Became Judged begun.inner packets said now.inner

  -- what its run is said by
  abbrev pub turn_words : Words CapturesInTurn (OneFilter J) (LinesInTurn L W) Verdict
  turn_words = words_of HasGivenInTurn HasGivenAllInTurn (λ begun batches found now. found.fault ≡ Memory) said_so (HasToldLinesInTurn wording written writing)
      (λ begun judged found now. HasCutLinesInTurn begun found now)

  -- why it ended
  pub turns_fault : (found : FaultAt) → IsRunFault turn_words source (record { inner = judge }) old then new found
      → (found.fault ≡ Memory) ⊎ (found.fault ≡ Write) ⊎ (found.fault ≡ TooLarge)
  turns_fault found (inl stopped) = elim stopped.why [
    | inl memory ↦ inl memory
    | inr (inl (memory, gone, place, gave)) ↦ inl memory
    | inr (inr (large, gave, many)) ↦ inr (inr (ap (λ (f : FaultAt). f.fault) large))
  ]
  turns_fault found (inr cut) = elim cut.cut.why [ inl memory ↦ inl memory | inr write ↦ inr (inl write) ]

  -- all was told
  pub turns_are_told : (at : OneFilter J) (captures : List Captured) (ended : ReportedTurns J) (truncated : Bool) → Ran turn_words source (record { inner = judge }) old then at new captures → truncated ≡ is_truncated old.told.now
      → ended.totals ≡ totals_with new.lines.packets new.lines.passed new.lines.without_pages truncated → ended.judges ≡ at.inner → ended.latest ≡ then.latest
      → (packets : List PacketFacts) → HavePacketsTold source.captures.now old.told.now packets
      → HasToldInTurn Became Judged (wording old.lines.teller.now) judge old.told.now packets source.noted (written old.lines.writer.now) (written new.lines.writer.now) ended
  turns_are_told at captures ended truncated ran cut totals judges latest packets have =
      let judged = ran.judged in
      let gave = ran.over.gave in
      let lines = ran.told in
      let says = wording old.lines.teller.now in
      let are = turns_told 0 says source.captures.now judged old.told.now packets have gave.turns ran.over.all ran.each in
      record {
        verdicts = said_of judged;
        stand = subst (λ (j : J). Became judge packets (said_of judged) j) (sym judges)
            (subst (λ (ps : List PacketFacts). Became judge ps (said_of judged) at.inner) are.same ran.became.stand);
        judged = λ some. subst (λ (ps : List PacketFacts). Judged judge ps (said_of judged)) are.same (ran.became.judged (λ none. some (sym are.same ∙ none)));
        count = each_total judged ran.each ∙ ap length are.same;
        text = subst (Appends (written old.lines.writer.now) (written new.lines.writer.now)) are.text lines.text;
        totals = totals ∙ ap (λ n. totals_with n new.lines.passed new.lines.without_pages truncated) lines.counts.packets
            ∙ totals_counted new.lines.passed new.lines.without_pages (said_of judged) old.told.now truncated lines.counts.passing lines.counts.lacking cut;
        latest = λ asked. latest ∙ gave.latest asked ∙ ap latest_of (sym (packets_listed judged) ∙ are.same);
      }

-- ---- The same by what was lent

-- what the lines had when they began, and what was written when they ended
pub record LentTurns {L W : Type 0} (old new : LinesInTurn L W) (teller : L) (writer wrote : W) : Type 0 where
  pub words : old.lines.teller.now ≡ teller
  pub writes : old.lines.writer.now ≡ writer
  pub wrote_is : new.lines.writer.now ≡ wrote

module _ {J L W : Type 0} (Became : J → List PacketFacts → List Verdict → J → Type 0) (Judged : J → List PacketFacts → List Verdict → Type 0)
    (wording : L → Wording) (written : W → Option (List ℕ)) (writing : W → ℕ) (source then : CapturesInTurn) (judge : J) (old new : LinesInTurn L W)
    (teller : L) (writer wrote : W) where
  pub lent_turns : (at : OneFilter J) (captures : List Captured) (ended : ReportedTurns J) (truncated : Bool)
      → Ran (turn_words Became Judged wording written writing source then judge old new) source (record { inner = judge }) old then at new captures → truncated ≡ is_truncated old.told.now
      → ended.totals ≡ totals_with new.lines.packets new.lines.passed new.lines.without_pages truncated → ended.judges ≡ at.inner → ended.latest ≡ then.latest
      → LentTurns old new teller writer wrote → (packets : List PacketFacts) → HavePacketsTold source.captures.now old.told.now packets
      → HasToldInTurn Became Judged (wording teller) judge old.told.now packets source.noted (written writer) (written wrote) ended
  lent_turns at captures ended truncated ran cut totals judges latest lent packets have =
      rw (← lent.wrote_is, ← lent.writes, ← lent.words)
      (turns_are_told Became Judged wording written writing source then judge old new at captures ended truncated ran cut totals judges latest packets have)
