-- A run over one capture: what its relation says of the capture's bytes and records, whatever the verdicts are.
use Rattle.std.proofs.Common.{◌≡◌, ◌≢◌, ◌∙◌, ◌+◌, ◌≤◌, ◌<◌, ◌++◌, ◌⊎◌, ℕ, List, [], ◌∷◌, Option, ap, ap₂, append_assoc, arith, inl, inr, length, refl, subst, sym}
use Rattle.std.proofs.lemmas.List.{length-append, length-map, map-append}
use Rattle.std.proofs.lemmas.List.Concat.{flat_map-append}
use Rattle.packet_view.specs.Captures.{AreRecords, PacketFacts, RecordFacts, packet_at, packets_at}
use Rattle.packet_view.specs.declared.capture.Order.{Order}
use Rattle.packet_view.proofs.FrontLemmas.{records_appended, records_joined}
use Rattle.packet_view.proofs.RecordListLemmas.{records_within}
use Rattle.racl_io.specs.declared.fault.Fault.{Fault}
use Rattle.racl_io.specs.declared.fault.Fault.TheVariants as fault
use Rattle.racl_io.specs.declared.totals_and_truncation.Captured.{Captured}
use Rattle.capture_stream.specs.Parting.{rest_in}
use Rattle.capture_stream.specs.Lives.{with_read}
use Rattle.capture_stream.specs.declared.arrivals.FaultAt.{FaultAt}
use Rattle.filter_run.specs.Batches.{AreAllWhole, AreEach, BatchFacts, JudgedBatch, batches_of, packets_of, said_of}
use Rattle.filter_run.specs.OneCapture.{AreNumbered, GaveWithin, HasFailedBehind, HasGiven, HasGivenAll, HasGivenSome, IsWhy, bytes_of, records_of, start_of}
use Rattle.filter_run.specs.Ran.{HasCutRun, HasStopped, IsRunFault, Words, most, words_of}
use Rattle.filter_run.specs.Starts.{Start, most_at}
use Rattle.filter_run.specs.declared.one_capture.OneCapture.{OneCapture}
use Rattle.filter_run.proofs.CaptureLemmas.{given_far, most_few}
use Rattle.filter_run.proofs.RunLemmas.{each_total}

-- ---- Packets

-- the packets of numbered batches are those of their records
pub packets_one : {V : Type 0} (n : ℕ) (order : Order) (judged : List (JudgedBatch V)) → AreNumbered n order (batches_of judged)
    → packets_of judged ≡ packets_at 0 (records_of (batches_of judged))
packets_one n order [] are = refl
packets_one n order (one ∷ others) (behind, same, at, plain, are) =
    ap₂ (λ i ps. packets_at i one.batch.records ++ ps) at (packets_one (n + length one.batch.records) order others are)
    ∙ sym (map-append (packet_at 0) one.batch.records (records_of (batches_of others)))

-- as much was said as there are records
pub count_one : {V : Type 0} (n : ℕ) (order : Order) (judged : List (JudgedBatch V)) → AreNumbered n order (batches_of judged) → AreEach judged
    → length (said_of judged) ≡ length (records_of (batches_of judged))
count_one n order judged are each =
    each_total judged each ∙ ap length (packets_one n order judged are) ∙ length-map (records_of (batches_of judged)) (packet_at 0)

-- where there are records, there are packets
pub some_packets : {V : Type 0} (n : ℕ) (order : Order) (judged : List (JudgedBatch V)) → AreNumbered n order (batches_of judged)
    → records_of (batches_of judged) ≢ [] → packets_of judged ≢ []
some_packets n order judged are some none = some (empty (records_of (batches_of judged)) (sym (packets_one n order judged are) ∙ none))
  where
    empty : (records : List RecordFacts) → packets_at 0 records ≡ [] → records ≡ []
    empty [] e = refl
    empty (one ∷ others) e = cc

-- ---- The first batches

pub numbered_front : (n : ℕ) (order : Order) (xs ys : List BatchFacts) → AreNumbered n order (xs ++ ys) → AreNumbered n order xs
numbered_front n order [] ys are = tt
numbered_front n order (x ∷ xs) ys (behind, same, at, plain, are) = (behind, same, at, plain, numbered_front (n + length x.records) order xs ys are)

pub whole_front : (xs ys : List BatchFacts) → AreAllWhole (xs ++ ys) → AreAllWhole xs
whole_front [] ys whole = tt
whole_front (x ∷ xs) ys (here, behind) = (here, whole_front xs ys behind)

pub each_front : {V : Type 0} (xs ys : List (JudgedBatch V)) → AreEach (xs ++ ys) → AreEach xs
each_front [] ys each = tt
each_front (x ∷ xs) ys (here, behind) = (here, each_front xs ys behind)

-- their bytes are their records, whatever follows
pub records_parted : (n : ℕ) (order : Order) (batches : List BatchFacts) (rest : List ℕ) → AreNumbered n order batches → AreAllWhole batches
    → AreRecords order (bytes_of batches ++ rest) (records_of batches) rest
records_parted n order [] rest are whole = refl
records_parted n order (batch ∷ batches) rest (behind, same, at, plain, are) (here, others) =
    let first = subst (λ (o : Order). AreRecords o batch.bytes batch.records []) same here in
    subst (λ (b : List ℕ). AreRecords order b (batch.records ++ records_of batches) rest) (sym (append_assoc batch.bytes (bytes_of batches) rest))
    (records_joined order (batch.bytes ++ (bytes_of batches ++ rest)) batch.records (records_of batches) (bytes_of batches ++ rest) rest
    (records_appended order batch.bytes (bytes_of batches ++ rest) batch.records [] first) (records_parted (n + length batch.records) order batches rest are others))

-- what was read is their records, and what was given behind them
pub given_front : (start : Start) (before after : Option (List ℕ)) (batches gone : List BatchFacts) (rest : List ℕ) → AreNumbered 0 start.order batches → AreAllWhole batches
    → HasGivenSome start before after (batches ++ gone) rest → HasGivenSome start before after batches (bytes_of gone ++ rest)
given_front start before after batches gone rest are whole given =
    let spelt : start.front ++ given.read ≡ bytes_of batches ++ (bytes_of gone ++ rest) =
    given.spelt ∙ ap (λ (b : List ℕ). b ++ rest) (flat_map-append (λ (batch : BatchFacts). batch.bytes) batches gone) ∙ append_assoc (bytes_of batches) (bytes_of gone) rest in
    record {
      read = given.read;
      consumed = given.consumed;
      records = subst (λ (b : List ℕ). AreRecords start.order b (records_of batches) (bytes_of gone ++ rest)) (sym spelt)
          (records_parted 0 start.order batches (bytes_of gone ++ rest) are whole);
      spelt = spelt;
    }

-- ---- So much came

-- many batches or packets have many bytes
pub many_read : {V R : Type 0} (bytes : R → Option (List ℕ)) (failures : R → ℕ) (begun then : OneCapture R) (judged : List (JudgedBatch V))
    → (gave : HasGiven bytes failures begun (batches_of judged) then) → AreEach judged → (most ≤ length judged) ⊎ (most ≤ length (said_of judged))
    → most_at begun.input < length (rest_in begun.parting ++ gave.some.read)
many_read bytes failures begun then judged gave each many =
    let order = begun.parting.order in
    let within = records_within order (rest_in begun.parting ++ gave.some.read) (records_of (batches_of judged)) (rest_in then.parting) gave.some.records in
    let parts = gave.parts in
    let size = gave.size in
    let few = most_few begun.input in
    let listed = length-map judged (λ (one : JudgedBatch _). one.batch) in
    let count = count_one 0 order judged gave.numbered each in
    elim many [ inl p ↦ omega arith | inr p ↦ omega arith ]

-- ---- Where a run ended early

-- what was given then, and why no more was
pub record StopsBehind (start : Start) (before after : Option (List ℕ)) (batches : List BatchFacts) (found : Fault) : Type 0 where
  pub rest : List ℕ
  pub some : HasGivenSome start before after batches rest
  pub numbered : AreNumbered 0 start.order batches
  pub why : IsWhy start some.read after batches rest found

-- a fault that is no read's
pub unread_by : (n m : ℕ) (found : Fault) → (found ≡ fault.Write) ⊎ (found ≡ fault.Memory) → m ≡ n → m ≡ with_read n found
unread_by n m found (inl write) same = subst (λ (f : Fault). m ≡ with_read n f) (sym write) same
unread_by n m found (inr memory) same = subst (λ (f : Fault). m ≡ with_read n f) (sym memory) same

module _ {R J O V : Type 0} (bytes : R → Option (List ℕ)) (failures : R → ℕ) (became : J → List PacketFacts → List V → J → Type 0)
    (told : O → List (JudgedBatch V) → O → Type 0) (cut : O → List (JudgedBatch V) → Fault → O → Type 0) (source then : OneCapture R) (judge : J) (observer after : O) where
  -- what a run over it is said by
  abbrev pub one_words : Words (OneCapture R) J O V
  one_words = words_of (HasGiven bytes failures) (HasGivenAll bytes failures) (HasFailedBehind bytes failures) became told cut

  pub one_stopped : (found : FaultAt) (stopped : HasStopped one_words source judge observer then after found)
      → StopsBehind (start_of source) (bytes source.reader.now) (bytes then.reader.now) (batches_of stopped.judged) found.fault
  one_stopped found stopped =
      let order = source.parting.order in
      let batches = batches_of stopped.judged in
      elim stopped.why [
        | inl failed ↦ record { rest = failed.rest; some = failed.some; numbered = failed.numbered; why = failed.why }
        | inr (inl (memory, gone, place, gave)) ↦
            let numbered = numbered_front 0 order batches (gone ∷ []) gave.numbered in
            subst (StopsBehind (start_of source) (bytes source.reader.now) (bytes then.reader.now) batches) (sym memory) (record {
              rest = bytes_of (gone ∷ []) ++ rest_in then.parting;
              some = given_front (start_of source) (bytes source.reader.now) (bytes then.reader.now) batches (gone ∷ []) (rest_in then.parting) numbered stopped.whole gave.some;
              numbered = numbered;
              why = tt;
            })
        | inr (inr (large, gave, many)) ↦
            subst (λ (f : FaultAt). StopsBehind (start_of source) (bytes source.reader.now) (bytes then.reader.now) batches f.fault) (sym large) (record {
              rest = rest_in then.parting;
              some = gave.some;
              numbered = gave.numbered;
              why = many_read bytes failures source then stopped.judged gave stopped.each many;
            })
      ]

  -- of the batches before the last, within which an observer failed
  pub one_earlier : (found : FaultAt) (ended : HasCutRun one_words source judge observer then after found)
      → StopsBehind (start_of source) (bytes source.reader.now) (bytes then.reader.now) (batches_of ended.earlier) fault.Memory
  one_earlier found ended =
      let order = source.parting.order in
      let batches = batches_of ended.earlier in
      let last = batches_of (ended.last ∷ []) in
      let both = map-append (λ (one : JudgedBatch V). one.batch) ended.earlier (ended.last ∷ []) in
      let some = subst (λ (bs : List BatchFacts). HasGivenSome (start_of source) (bytes source.reader.now) (bytes then.reader.now) bs (rest_in then.parting)) both ended.gave.some in
      let numbered = numbered_front 0 order batches last (subst (AreNumbered 0 order) both ended.gave.numbered) in
      let whole = whole_front batches last (subst AreAllWhole both ended.whole) in
      record {
        rest = bytes_of last ++ rest_in then.parting;
        some = given_front (start_of source) (bytes source.reader.now) (bytes then.reader.now) batches last (rest_in then.parting) numbered whole some;
        numbered = numbered;
        why = tt;
      }

  -- it has the reader that it had
  pub one_same : (found : FaultAt) → IsRunFault one_words source judge observer then after found → then.reader.ghost_name ≡ source.reader.ghost_name
  one_same found (inl stopped) = elim stopped.why [
    | inl failed ↦ failed.same
    | inr (inl (memory, gone, place, gave)) ↦ gave.same
    | inr (inr (large, gave, many)) ↦ gave.same
  ]
  one_same found (inr ended) = ended.gave.same

  -- how far the reader was read
  pub one_far : (found : FaultAt) → IsRunFault one_words source judge observer then after found → GaveWithin bytes source then
  one_far found (inl stopped) = elim stopped.why [
    | inl failed ↦ failed.far
    | inr (inl (memory, gone, place, gave)) ↦ given_far bytes failures source (batches_of stopped.judged ++ gone ∷ []) then gave
    | inr (inr (large, gave, many)) ↦ given_far bytes failures source (batches_of stopped.judged) then gave
  ]
  one_far found (inr ended) = given_far bytes failures source (batches_of (ended.earlier ++ ended.last ∷ [])) then ended.gave

  -- how often the reader failed, where an observer fails by a write or for memory
  pub one_read : (found : FaultAt)
      → ((batches : List (JudgedBatch V)) → cut observer batches found.fault after → (found.fault ≡ fault.Write) ⊎ (found.fault ≡ fault.Memory))
      → IsRunFault one_words source judge observer then after found → failures then.reader.now ≡ with_read (failures source.reader.now) found.fault
  unfolding unread_by
  one_read found which (inl stopped) = elim stopped.why [
    | inl failed ↦ failed.failed
    | inr (inl (memory, gone, place, gave)) ↦ unread_by (failures source.reader.now) (failures then.reader.now) found.fault (inr memory) gave.sound
    | inr (inr (large, gave, many)) ↦ subst (λ (f : FaultAt). failures then.reader.now ≡ with_read (failures source.reader.now) f.fault) (sym large) gave.sound
  ]
  one_read found which (inr ended) =
      unread_by (failures source.reader.now) (failures then.reader.now) found.fault (which (ended.earlier ++ ended.last ∷ []) ended.cut) ended.gave.sound

-- how far the reader was read where all was given
pub all_far : {R : Type 0} (bytes : R → Option (List ℕ)) (failures : R → ℕ) (source then : OneCapture R) (batches : List BatchFacts) (captures : List Captured)
    → HasGivenAll bytes failures source batches captures then → GaveWithin bytes source then
all_far bytes failures source then batches captures all =
    let few = all.few in let both = length-append (rest_in source.parting) all.some.read in
    (all.some.read, all.some.consumed, omega arith)
