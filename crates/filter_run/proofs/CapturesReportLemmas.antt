-- The report on several captures that come together: what the relation of its run says of their turns.
use Rattle.std.proofs.Common.{◌≡◌, ◌≢◌, ◌∙◌, ◌≤◌, ◌+◌, ◌++◌, ◌⊎◌, ℕ, Bool, List, [], ◌∷◌, Option, None, Some, ap, ap₂, append-nil, arith, flat_map, inl, inr, length, refl, subst, sym}
use Rattle.std.proofs.lemmas.List.{length-append, length-map, map-append, same_from_push}
use Rattle.std.proofs.KnownBytes.{Appends-nil}
use Rattle.std.specs.Io.KnownBytes.{Appends}
use Rattle.packet_view.specs.Captures.{PacketFacts, packet_at, packets_at}
use Rattle.packet_view.specs.declared.capture.CaptureFault.{CaptureFault}
use Rattle.packet_view.specs.declared.capture.CaptureFault.TheVariants as capture
use Rattle.session_state.specs.declared.verdict.Verdict.{Verdict}
use Rattle.racl_io.specs.Faults.{capture_fault}
use Rattle.racl_io.specs.Reports.{is_truncated}
use Rattle.racl_io.specs.Sinks.{GotFront}
use Rattle.racl_io.specs.Tellings.{Wording, lines_in, with_write}
use Rattle.racl_io.specs.declared.fault.Fault.{Fault}
use Rattle.racl_io.specs.declared.fault.Fault.TheVariants as fault
use Rattle.racl_io.specs.declared.totals_and_truncation.Captured.{Captured}
use Rattle.racl_io.proofs.ReportLemmas.{totals_counted}
use Rattle.racl_io.proofs.TellingLemmas.{lines_in_both}
use Rattle.capture_stream.specs.Arrivals.{AreWhole, Gives, Part}
use Rattle.capture_stream.specs.Lives.{with_read}
use Rattle.capture_stream.specs.declared.arrivals.FaultAt.{FaultAt}
use Rattle.filter_run.specs.Batches.{AreEach, BatchFacts, JudgedBatch, batches_of, packets_in, packets_of, said_of, total}
use Rattle.filter_run.specs.ComingCaptures.{HasLongRecord, HasToldCaptures, HasToldFront, HasToldTurns, IsFaultOfComing, IsOfLast}
use Rattle.filter_run.specs.Filters.{HasSaid}
use Rattle.filter_run.specs.Lines.{HasCutLines, HasToldLines, text_of}
use Rattle.filter_run.specs.Ran.{HasCutRun, IsRunFault, Ran, Words, most, words_of}
use Rattle.filter_run.specs.Turns.{AreTurns, AreTurnsToLong, Turn, cuts_of, parts_of}
use Rattle.filter_run.specs.Turns as come
use Rattle.filter_run.specs.declared.captures_report.ReportedCaptures.{ReportedCaptures}
use Rattle.filter_run.specs.declared.coming_captures.ComingCaptures.{ComingCaptures}
use Rattle.filter_run.specs.declared.one_filter.OneFilter.{OneFilter}
use Rattle.filter_run.specs.declared.told_lines.ToldLines.{ToldLines}
use Rattle.filter_run.specs.inner.GivenTurns.{AreBatches, HasFailedBehindTurns, HasGivenAllTurns, HasGivenTurns, IsBatch, IsWhyNoTurn, StandSo}
use Rattle.filter_run.specs.inner.Parts.{or_long_at}
use Rattle.filter_run.proofs.ArrivalLemmas.{gives_none}
use Rattle.filter_run.proofs.EndLemmas.{whole_given}
use Rattle.filter_run.proofs.NumberLemmas.{text_plain}
use Rattle.filter_run.proofs.OneLemmas.{each_front}
use Rattle.filter_run.proofs.RunLemmas.{each_total, flat_push}
use Rattle.filter_run.proofs.TakeLemmas.{batches_total, by_cause}
use Rattle.filter_run.proofs.TellLemmas.{totals_with}

-- ---- Batches of turns

-- they are numbered on
abbrev AreBehind : ℕ → List BatchFacts → Type 0
AreBehind n [] = Unit {0}
AreBehind n (batch ∷ batches) = (batch.others ≡ n) × (batch.numbers ≡ None) × AreBehind (n + length batch.records) batches

behind_push : (n : ℕ) (batches : List BatchFacts) (batch : BatchFacts) → AreBehind n batches → batch.others ≡ n + total batches → batch.numbers ≡ None → AreBehind n (batches ++ batch ∷ [])
behind_push n [] batch are others plain = (let e = others in omega arith, plain, tt)
behind_push n (first ∷ batches) batch (here, same, are) others plain =
    (here, same, behind_push (n + length first.records) batches batch are (let e = others in omega arith) plain)

behind_turns : (turns : List Turn) (batches : List BatchFacts) → AreBatches turns batches → AreBehind 0 batches
behind_turns [] batches none = subst (AreBehind 0) (sym none) tt
behind_turns (turn ∷ before) batches (earlier, batch, all, is, are) =
    subst (AreBehind 0) (sym all)
    (behind_push 0 earlier batch (behind_turns before earlier are) (let behind = is.others in let count = batches_total before earlier are in omega arith) is.plain)

-- their lines are those of their packets
lines_behind : (wording : Wording) (n : ℕ) (judged : List (JudgedBatch Verdict)) → AreBehind n (batches_of judged) → AreEach judged
    → text_of wording judged ≡ lines_in wording (n + 1) (packets_of judged) (said_of judged)
lines_behind wording n [] are each = refl
lines_behind wording n (one ∷ others) (behind, plain, are) (here, each) =
    let count = length-map one.batch.records (packet_at one.batch.interface) in
    let next = n + length one.batch.records in
    ap₂ (λ (l t : List ℕ). l ++ t) (text_plain wording one plain ∙ ap (λ k. lines_in wording (k + 1) (packets_in one.batch) one.said) behind) (lines_behind wording next others are each)
    ∙ sym (lines_in_both wording (n + 1) (next + 1) (packets_in one.batch) (packets_of others) one.said (said_of others) here (omega arith))

-- their packets are those of the turns
pub packets_listed : (judged : List (JudgedBatch Verdict)) → packets_of judged ≡ flat_map packets_in (batches_of judged)
packets_listed [] = refl
packets_listed (one ∷ others) = ap (λ (ps : List PacketFacts). packets_in one.batch ++ ps) (packets_listed others)

packets_turned : (turns : List Turn) (batches : List BatchFacts) → AreBatches turns batches → flat_map packets_in batches ≡ come.packets_of turns
packets_turned [] batches none = ap (flat_map packets_in) none
packets_turned (turn ∷ before) batches (earlier, batch, all, is, are) =
    ap (flat_map packets_in) all ∙ flat_push packets_in earlier batch
    ∙ ap₂ (λ (ps qs : List PacketFacts). ps ++ qs) (packets_turned before earlier are)
    (ap (λ n. packets_at n batch.records) is.interface ∙ ap (packets_at turn.interface) is.records)

turns_many : (turns : List Turn) (batches : List BatchFacts) → AreBatches turns batches → length batches ≡ length turns
turns_many [] batches none = ap length none
turns_many (turn ∷ before) batches (earlier, batch, all, is, are) =
    let more = turns_many before earlier are in let both = length-append earlier (batch ∷ []) in let size = ap length all in omega arith

-- the last batch is of the last turn
record IsBehind (turns : List Turn) (batches : List BatchFacts) (batch : BatchFacts) : Type 0 where
  turn : Turn
  before : List Turn
  all : turns ≡ turn ∷ before
  is : IsBatch before turn batch
  are : AreBatches before batches

last_turn : (turns : List Turn) (batches : List BatchFacts) (batch : BatchFacts) → AreBatches turns (batches ++ batch ∷ []) → IsBehind turns batches batch
last_turn [] batches batch none = let size = ap length none in let both = length-append batches (batch ∷ []) in absurd (omega arith)
last_turn (turn ∷ before) batches batch (earlier, last, all, is, are) =
    let (front, same) = same_from_push batches earlier batch last all in
    record {
      turn = turn;
      before = before;
      all = refl;
      is = subst (IsBatch before turn) (sym same) is;
      are = subst (AreBatches before) (sym front) are;
    }

-- ---- Which faults there are

-- a record that is too long
long_is : (turns : List Turn) (found : FaultAt) → HasLongRecord turns found → (n : ℕ) × (found.fault ≡ fault.LongRecord n)
long_is [] found long = absurd long
long_is (turn ∷ before) found long = (length (come.records_at turn.interface (turn ∷ before)) + 1, long)

-- one of the source
of_source : (turns : List Turn) (gone : List Part) (found : FaultAt) → IsWhyNoTurn turns gone found
    → (found.fault ≡ fault.Read) ⊎ ((cause : CaptureFault) × (found.fault ≡ capture_fault cause))
of_source turns gone found (inl (memory, lost, are)) = inr (capture.Memory, memory)
of_source turns gone found (inr (inl (read, named, none, are))) = inl read
of_source turns gone found (inr (inr (inl (part, one, are, wrong)))) = inr (wrong.cause, wrong.same)
of_source turns gone found (inr (inr (inr (none, are, last, long)))) = let (n, same) = long_is turns found long in inr (capture.LongRecord n, same)

-- is no write
unwritten_of : (n : ℕ) (found : Fault) → (found ≡ fault.Read) ⊎ ((cause : CaptureFault) × (found ≡ capture_fault cause)) → n ≡ with_write n found
unwritten_of n found (inl read) = subst (λ f. n ≡ with_write n f) (sym read) refl
unwritten_of n found (inr (cause, same)) =
    subst (λ f. n ≡ with_write n f) (sym same) (by_cause (λ f. n ≡ with_write n f) refl refl refl refl (λ number. refl) refl cause)

-- it is answered as it is, though a record is too long
abbrev IsAnswered : FaultAt → Option ℕ → Fault → Type 0
IsAnswered long interface found = or_long_at (Some long) (record { fault = found; interface = interface }) ≡ record { fault = found; interface = interface }

-- and isn't that too much came
source_first : (long : Option FaultAt) (found : FaultAt) → (found.fault ≡ fault.Read) ⊎ ((cause : CaptureFault) × (found.fault ≡ capture_fault cause)) → or_long_at long found ≡ found
source_first None found which = refl
source_first (Some long) found (inl read) = subst (IsAnswered long found.interface) (sym read) refl
source_first (Some long) found (inr (cause, same)) =
    subst (IsAnswered long found.interface) (sym same) (by_cause (IsAnswered long found.interface) refl refl refl refl (λ number. refl) refl cause)

-- nor is a write
write_first : (long : Option FaultAt) (found : FaultAt) → found.fault ≡ fault.Write → or_long_at long found ≡ found
write_first None found write = refl
write_first (Some long) found write = subst (IsAnswered long found.interface) (sym write) refl

-- ---- What is told of turns

-- nothing came
pub none_came : {J : Type 0} (Judged : J → List PacketFacts → List Verdict → Type 0) (wording : Wording) (begun : J) (before : Option (List Part)) (old : Option (List ℕ))
    → IsFaultOfComing Judged wording begun before before old old (record { fault = fault.Memory; interface = None })
none_came Judged wording begun before old = inl (
  refl,
  [],
  refl,
  record {
    turns = [];
    are = tt;
    given = gives_none before;
    verdicts = [];
    judged = λ some. absurd (some refl);
    count = refl;
    text = Appends-nil old;
  },
)

module _ {J L W A : Type 0} (Became : J → List PacketFacts → List Verdict → J → Type 0) (Judged : J → List PacketFacts → List Verdict → Type 0)
    (wording : L → Wording) (written : W → Option (List ℕ)) (writing : W → ℕ) (parts : A → Option (List Part)) (failures : A → ℕ) (left unread : A → Option ℕ)
    (source then : ComingCaptures A) (judge : J) (old new : ToldLines L W) where
  abbrev said_so : OneFilter J → List PacketFacts → List Verdict → OneFilter J → Type 0
  said_so begun packets said now = HasSaid Became Judged begun.inner packets said now.inner

  -- what its run is said by
  abbrev pub captures_words : Words (ComingCaptures A) (OneFilter J) (ToldLines L W) Verdict
  captures_words = words_of (HasGivenTurns parts failures) (HasGivenAllTurns parts failures left) (HasFailedBehindTurns parts failures unread) said_so
      (HasToldLines wording written writing) (HasCutLines wording written writing)

  abbrev words_in : Wording
  words_in = wording old.teller.now

  abbrev before : Option (List Part)
  before = parts source.arrivals.now

  abbrev after : Option (List Part)
  after = parts then.arrivals.now

  abbrev began : Option (List ℕ)
  began = written old.writer.now

  abbrev became : Option (List ℕ)
  became = written new.writer.now

  -- a fault of the report, whose it is, and how often devices failed
  pub record IsEnded (found : FaultAt) : Type 0 where
    pub why : IsFaultOfComing Judged words_in judge before after began became found
    pub read : failures then.arrivals.now ≡ with_read (failures source.arrivals.now) found.fault
    pub whose : found.fault ≡ fault.Read → found.interface ≡ unread then.arrivals.now
    pub write : writing new.writer.now ≡ with_write (writing old.writer.now) found.fault

  module _ (judged : List (JudgedBatch Verdict)) (each : AreEach judged) (turns : List Turn) (are : AreBatches turns (batches_of judged)) where
    turns_packets : packets_of judged ≡ come.packets_of turns
    turns_packets = packets_listed judged ∙ packets_turned turns (batches_of judged) are

    turns_count : length (said_of judged) ≡ length (come.packets_of turns)
    unfolding turns_packets
    turns_count = each_total judged each ∙ ap length turns_packets

    turns_text : text_of words_in judged ≡ lines_in words_in 1 (come.packets_of turns) (said_of judged)
    unfolding turns_packets
    turns_text = lines_behind words_in 0 judged (behind_turns turns (batches_of judged) are) each ∙ ap (λ ps. lines_in words_in 1 ps (said_of judged)) turns_packets

    turns_judged : (now : J) → HasSaid Became Judged judge (packets_of judged) (said_of judged) now → come.packets_of turns ≢ [] → Judged judge (come.packets_of turns) (said_of judged)
    unfolding turns_packets
    turns_judged now said some =
        subst (λ (ps : List PacketFacts). Judged judge ps (said_of judged)) turns_packets (said.judged (λ none. some (sym turns_packets ∙ none)))

    told_turns : (Are : List Turn → Type 0) → Are turns → (gone : List Part) → Gives before after (parts_of turns ++ gone) → (now : J)
        → HasSaid Became Judged judge (packets_of judged) (said_of judged) now → Appends began became (text_of words_in judged)
        → HasToldTurns Are Judged words_in judge before after began became gone
    unfolding turns_count turns_text turns_judged
    told_turns Are right gone given now said text = record {
      turns = turns;
      are = right;
      given = given;
      verdicts = said_of judged;
      judged = turns_judged now said;
      count = turns_count;
      text = subst (Appends began became) turns_text text;
    }

    told_front : AreTurns turns ⊎ AreTurnsToLong turns → Gives before after (parts_of turns) → (now : J)
        → HasSaid Became Judged judge (packets_of judged) (said_of judged) now → GotFront began became (text_of words_in judged)
        → HasToldFront Judged words_in judge before after began became
    unfolding turns_count turns_text turns_judged
    told_front right given now said front = record {
      turns = turns;
      are = right;
      given = given;
      verdicts = said_of judged;
      judged = turns_judged now said;
      count = turns_count;
      front = subst (GotFront began became) turns_text front;
    }

  -- ---- Why not all was told

  -- the source failed
  ended_failed : (judged : List (JudgedBatch Verdict)) → AreEach judged → (now : J) → HasSaid Became Judged judge (packets_of judged) (said_of judged) now
      → HasToldLines wording written writing old judged new → (found : FaultAt) → HasFailedBehindTurns parts failures unread source (batches_of judged) found then → IsEnded found
  unfolding told_turns
  ended_failed judged each now said lines found failed = record {
    why = by failed.gone failed.given failed.why;
    read = failed.failed;
    whose = failed.whose;
    write = lines.sound ∙ unwritten_of (writing old.writer.now) found.fault (of_source failed.turns failed.gone found failed.why);
  }
    where
      by : (gone : List Part) → Gives before after (parts_of failed.turns ++ gone) → IsWhyNoTurn failed.turns gone found
          → IsFaultOfComing Judged words_in judge before after began became found
      by gone given (inl (memory, lost, right)) =
          inl (memory, gone, lost, told_turns judged each failed.turns failed.are AreTurns right gone given now said lines.text)
      by gone given (inr (inl (read, named, none, right))) =
          inr (inl (
            read,
            named,
            told_turns judged each failed.turns failed.are AreTurns right [] (subst (λ (ps : List Part). Gives before after (parts_of failed.turns ++ ps)) none given) now said lines.text,
          ))
      by gone given (inr (inr (inl (part, one, right, wrong)))) =
          inr (inr (inl (
            part,
            told_turns judged each failed.turns failed.are AreTurns right (part ∷ []) (subst (λ (ps : List Part). Gives before after (parts_of failed.turns ++ ps)) one given) now said lines.text,
            wrong,
          )))
      by gone given (inr (inr (inr (none, right, last, long)))) =
          inr (inr (inr (inl (
            told_turns judged each failed.turns failed.are AreTurnsToLong right [] (subst (λ (ps : List Part). Gives before after (parts_of failed.turns ++ ps)) none given) now said lines.text,
            last,
            long,
          ))))

  -- a batch came, and memory ran out before it was told
  ended_lost : (judged : List (JudgedBatch Verdict)) → AreEach judged → (now : J) → HasSaid Became Judged judge (packets_of judged) (said_of judged) now
      → Appends began became (text_of words_in judged) → writing new.writer.now ≡ writing old.writer.now → (found : FaultAt) (gone : BatchFacts) → found.fault ≡ fault.Memory
      → found.interface ≡ Some gone.interface → HasGivenTurns parts failures source (batches_of judged ++ gone ∷ []) then → IsEnded found
  unfolding told_turns
  ended_lost judged each now said text sound found gone memory place gave =
      let last = last_turn gave.turns (batches_of judged) gone gave.are in
      let part : Part = record { interface = last.turn.interface; bytes = last.turn.bytes } in
      let stand = subst (λ (ts : List Turn). StandSo then.long ts then.lanes.items) last.all gave.after.stand in
      let given = subst (λ (ts : List Turn). Gives before after (parts_of ts)) last.all gave.given in
      record {
        why = inl (
          memory,
          part ∷ [],
          (place ∙ ap Some last.is.interface, refl),
          told_turns judged each last.before last.are AreTurns (right then.long last.turn last.before stand) (part ∷ []) given now said text,
        );
        read = subst (λ (f : Fault). failures then.arrivals.now ≡ with_read (failures source.arrivals.now) f) (sym memory) gave.sound;
        whose = λ read. absurd cc;
        write = subst (λ (f : Fault). writing new.writer.now ≡ with_write (writing old.writer.now) f) (sym memory) sound;
      }
    where
      right : (long : Option FaultAt) (turn : Turn) (earlier : List Turn) → StandSo long (turn ∷ earlier) then.lanes.items → AreTurns earlier
      right None turn earlier ((are, is), lanes) = are
      right (Some long) turn earlier ((are, is), last, number) = are

  -- too much came
  ended_large : (judged : List (JudgedBatch Verdict)) → AreEach judged → (now : J) → HasSaid Became Judged judge (packets_of judged) (said_of judged) now
      → HasToldLines wording written writing old judged new → HasGivenTurns parts failures source (batches_of judged) then
      → (most ≤ length judged) ⊎ (most ≤ length (said_of judged)) → IsEnded (or_long_at then.long (record { fault = fault.TooLarge; interface = None }))
  unfolding told_turns turns_count
  ended_large judged each now said lines gave many = by then.long gave.after.stand
    where
      given : Gives before after (parts_of gave.turns ++ [])
      given = subst (Gives before after) (sym (append-nil (parts_of gave.turns))) gave.given

      so_many : (most ≤ length judged) ⊎ (most ≤ length (said_of judged)) → (most ≤ length gave.turns) ⊎ (most ≤ length (come.packets_of gave.turns))
      so_many (inl p) =
          let batches = turns_many gave.turns (batches_of judged) gave.are in let listed = length-map judged (λ (one : JudgedBatch Verdict). one.batch) in inl (omega arith)
      so_many (inr p) = let count = turns_count judged each gave.turns gave.are in inr (omega arith)

      by : (long : Option FaultAt) → StandSo long gave.turns then.lanes.items → IsEnded (or_long_at long (record { fault = fault.TooLarge; interface = None }))
      by None (right, lanes) = record {
        why = inr (inr (inr (inr (inl (refl, refl, told_turns judged each gave.turns gave.are AreTurns right [] given now said lines.text, so_many many)))));
        read = gave.sound;
        whose = λ read. absurd cc;
        write = lines.sound;
      }
      by (Some long) (right, last, number) =
          let which = of_source gave.turns [] long (inr (inr (inr (refl, right, last, number)))) in
          let n = long_is gave.turns long number in
          record {
            why = inr (inr (inr (inl (told_turns judged each gave.turns gave.are AreTurnsToLong right [] given now said lines.text, last, number))));
            read = subst (λ (f : Fault). failures then.arrivals.now ≡ with_read (failures source.arrivals.now) f) (sym n.1) gave.sound;
            whose = λ read. let e : fault.LongRecord n.0 ≡ fault.Read = sym n.1 ∙ read in absurd cc;
            write = lines.sound ∙ unwritten_of (writing old.writer.now) long.fault which;
          }

  -- the report's device failed
  ended_cut : (earlier : List (JudgedBatch Verdict)) (last : JudgedBatch Verdict) → AreEach (earlier ++ last ∷ []) → (now : J)
      → HasSaid Became Judged judge (packets_of (earlier ++ last ∷ [])) (said_of (earlier ++ last ∷ [])) now
      → GotFront began became (text_of words_in (earlier ++ last ∷ [])) → (found : FaultAt) → found.fault ≡ fault.Write → found.interface ≡ Some last.batch.interface
      → writing new.writer.now ≡ with_write (writing old.writer.now) found.fault → HasGivenTurns parts failures source (batches_of (earlier ++ last ∷ [])) then → IsEnded found
  unfolding told_front
  ended_cut earlier last each now said front found write place failed gave =
      let behind = last_turn gave.turns (batches_of earlier) last.batch
      (subst (AreBatches gave.turns) (map-append (λ (one : JudgedBatch Verdict). one.batch) earlier (last ∷ [])) gave.are) in
      record {
        why = inr (inr (inr (inr (inr (
          write,
          told_front (earlier ++ last ∷ []) each gave.turns gave.are (right then.long gave.turns gave.after.stand) gave.given now said front,
          of_last gave.turns behind.turn behind.before behind.all (place ∙ ap Some behind.is.interface),
        )))));
        read = subst (λ (f : Fault). failures then.arrivals.now ≡ with_read (failures source.arrivals.now) f) (sym write) gave.sound;
        whose = λ read. absurd cc;
        write = failed;
      }
    where
      right : (long : Option FaultAt) (turns : List Turn) → StandSo long turns then.lanes.items → AreTurns turns ⊎ AreTurnsToLong turns
      right None turns (are, lanes) = inl are
      right (Some long) turns (are, last, number) = inr are

      of_last : (turns : List Turn) (turn : Turn) (front : List Turn) → turns ≡ turn ∷ front → found.interface ≡ Some turn.interface → IsOfLast turns found.interface
      of_last turns turn front all named = subst (λ (ts : List Turn). IsOfLast ts found.interface) (sym all) named

  -- the lines were cut
  ended_lines : (found : FaultAt) (which : Fault) (cut : HasCutRun captures_words source (record { inner = judge }) old then new found) → found.fault ≡ which
      → HasCutLines wording written writing old (cut.earlier ++ cut.last ∷ []) which new → IsEnded (or_long_at then.long found)
  unfolding ended_lost ended_cut
  ended_lines found fault.Memory cut memory lines =
      let same = same_from_push cut.earlier lines.earlier cut.last lines.last lines.all in
      subst IsEnded (sym (source_first then.long found (inr (capture.Memory, memory))))
      (ended_lost cut.earlier (each_front cut.earlier (cut.last ∷ []) cut.each) cut.before.0.inner cut.before.1
      (subst (λ (js : List (JudgedBatch Verdict)). Appends began became (text_of words_in js)) (sym same.0) lines.text) lines.failed found cut.last.batch memory cut.place
      (subst (λ (bs : List BatchFacts). HasGivenTurns parts failures source bs then) (map-append (λ (one : JudgedBatch Verdict). one.batch) cut.earlier (cut.last ∷ [])) cut.gave))
  ended_lines found fault.Write cut write lines =
      subst IsEnded (sym (write_first then.long found write))
      (ended_cut cut.earlier cut.last cut.each cut.said.0.inner cut.said.1 lines.text found write cut.place
      (lines.failed ∙ ap (with_write (writing old.writer.now)) (sym write)) cut.gave)
  ended_lines found which cut same lines = absurd lines.text

  -- why not all was told
  pub captures_ended : (found : FaultAt) → IsRunFault captures_words source (record { inner = judge }) old then new found → IsEnded (or_long_at then.long found)
  unfolding ended_failed ended_lost ended_large ended_lines
  captures_ended found (inl stopped) = elim stopped.why [
    | inl failed ↦ subst IsEnded (sym (source_first then.long found (of_source failed.turns failed.gone found failed.why)))
        (ended_failed stopped.judged stopped.each stopped.said.0.inner stopped.said.1 stopped.told found failed)
    | inr (inl (memory, gone, place, gave)) ↦ subst IsEnded (sym (source_first then.long found (inr (capture.Memory, memory))))
        (ended_lost stopped.judged stopped.each stopped.said.0.inner stopped.said.1 stopped.told.text stopped.told.sound found gone memory place gave)
    | inr (inr (large, gave, many)) ↦ subst (λ (f : FaultAt). IsEnded (or_long_at then.long f)) (sym large)
        (ended_large stopped.judged stopped.each stopped.said.0.inner stopped.said.1 stopped.told gave many)
  ]
  captures_ended found (inr cut) = ended_lines found found.fault cut refl cut.cut

  -- which arrivals and what it writes to it has
  pub captures_same : (found : FaultAt) → IsRunFault captures_words source (record { inner = judge }) old then new found
      → (then.arrivals.ghost_name ≡ source.arrivals.ghost_name) × (new.writer.ghost_name ≡ old.writer.ghost_name)
  captures_same found (inl stopped) = (
    elim stopped.why [ inl failed ↦ failed.same | inr (inl (memory, gone, place, gave)) ↦ gave.same | inr (inr (large, gave, many)) ↦ gave.same ],
    stopped.told.same.writer,
  )
  captures_same found (inr cut) = (cut.gave.same, cut.cut.same.writer)

  -- ---- All was told

  pub captures_told : (at : OneFilter J) (captures : List Captured) (ended : ReportedCaptures J) (truncated : Bool) → AreWhole before
      → Ran captures_words source (record { inner = judge }) old then at new captures → truncated ≡ is_truncated captures
      → ended.totals ≡ totals_with new.packets new.passed new.without_pages truncated → ended.judges ≡ at.inner → ended.cuts.items ≡ captures
      → HasToldCaptures Became Judged (wording old.teller.now) judge (parts source.arrivals.now) (parts then.arrivals.now) (written old.writer.now) (written new.writer.now) ended
  unfolding told_turns turns_packets
  captures_told at captures ended truncated whole ran cut totals judges cuts =
      let judged = ran.judged in
      let over = ran.over in
      let lines = ran.told in
      let given = subst (Gives before after) (sym (append-nil (parts_of over.turns))) over.given in
      record {
        all = told_turns judged ran.each over.turns over.are AreTurns over.right [] given at.inner ran.became lines.text;
        ended = over.ended;
        whole = whole_given before after (parts_of over.turns) over.given over.ended whole;
        stand = subst (λ (j : J). Became judge (come.packets_of over.turns) (said_of judged) j) (sym judges)
            (subst (λ (ps : List PacketFacts). Became judge ps (said_of judged) at.inner) (turns_packets judged ran.each over.turns over.are) ran.became.stand);
        cuts = cuts ∙ over.told;
        totals = totals ∙ ap (λ n. totals_with n new.passed new.without_pages truncated) lines.packets
            ∙ totals_counted new.passed new.without_pages (said_of judged) (cuts_of over.turns) truncated lines.passing lines.lacking (cut ∙ ap is_truncated over.told);
      }

-- ---- The same by what was lent

-- what the source and the lines had when they began, and when they ended
pub record LentCaptures {L W A : Type 0} (source then : ComingCaptures A) (old new : ToldLines L W) (arrivals left : A) (teller : L) (writer wrote : W) : Type 0 where
  pub comes : source.arrivals.now ≡ arrivals
  pub words : old.teller.now ≡ teller
  pub writes : old.writer.now ≡ writer
  pub left_is : then.arrivals.now ≡ left
  pub wrote_is : new.writer.now ≡ wrote

module _ {J L W A : Type 0} (Became : J → List PacketFacts → List Verdict → J → Type 0) (Judged : J → List PacketFacts → List Verdict → Type 0)
    (wording : L → Wording) (written : W → Option (List ℕ)) (writing : W → ℕ) (parts : A → Option (List Part)) (failures : A → ℕ) (left unread : A → Option ℕ)
    (source then : ComingCaptures A) (judge : J) (old new : ToldLines L W) (arrivals last : A) (teller : L) (writer wrote : W) where
  abbrev pub lent_words : Words (ComingCaptures A) (OneFilter J) (ToldLines L W) Verdict
  lent_words = captures_words Became Judged wording written writing parts failures left unread source then judge old new

  pub lent_fault : (found answer : FaultAt) → IsRunFault lent_words source (record { inner = judge }) old then new found → answer ≡ or_long_at then.long found
      → LentCaptures source then old new arrivals last teller writer wrote
      → IsFaultOfComing Judged (wording teller) judge (parts arrivals) (parts last) (written writer) (written wrote) answer
  lent_fault found answer wrong same lent =
      rw (same, ← lent.wrote_is, ← lent.left_is, ← lent.writes, ← lent.words, ← lent.comes)
      (captures_ended Became Judged wording written writing parts failures left unread source then judge old new found wrong).why

  pub lent_told : (at : OneFilter J) (captures : List Captured) (ended : ReportedCaptures J) (truncated : Bool) → AreWhole (parts arrivals)
      → Ran lent_words source (record { inner = judge }) old then at new captures → truncated ≡ is_truncated captures
      → ended.totals ≡ totals_with new.packets new.passed new.without_pages truncated → ended.judges ≡ at.inner → ended.cuts.items ≡ captures
      → LentCaptures source then old new arrivals last teller writer wrote
      → HasToldCaptures Became Judged (wording teller) judge (parts arrivals) (parts last) (written writer) (written wrote) ended
  lent_told at captures ended truncated whole ran cut totals judges cuts lent =
      rw (← lent.wrote_is, ← lent.left_is, ← lent.writes, ← lent.words, ← lent.comes)
      (captures_told Became Judged wording written writing parts failures left unread source then judge old new at captures ended truncated
      (subst (λ (a : A). AreWhole (parts a)) (sym lent.comes) whole) ran cut totals judges cuts)
