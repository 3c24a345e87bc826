-- A run: what is known between its batches, at its end and at a fault.
use Rattle.std.proofs.Common.{◌≡◌, ◌∙◌, ◌≤◌, ◌<◌, ◌+◌, ◌-◌, ◌^◌, ◌⊎◌, ℕ, List, [], ◌∷◌, ◌++◌, None, Some, ap, append-nil, append_assoc, arith, drop, flat_map, inl, inr, length, refl, subst, sym}
use Rattle.std.proofs.lemmas.List.{append_cancel_right, length-append, length-map, map-append, take-append-drop}
use Rattle.std.proofs.lemmas.List.Concat.{flat_map-append}
use Rattle.packet_view.specs.Captures.{AreRecords, PacketFacts, RecordFacts, packet_at}
use Rattle.packet_view.specs.declared.capture.Order.{Order}
use Rattle.packet_view.proofs.RecordListLemmas.{packets_count}
use Rattle.racl_io.specs.Buffers.{held_by}
use Rattle.racl_io.specs.declared.fault.Fault.{Fault}
use Rattle.racl_io.specs.declared.fault.Fault.TheVariants.{Memory, TooLarge}
use Rattle.racl_io.specs.declared.totals_and_truncation.Captured.{Captured}
use Rattle.capture_stream.specs.declared.arrivals.FaultAt.{FaultAt}
use Rattle.filter_run.specs.Batches.{AreAllWhole, AreEach, BatchFacts, IsWhole, JudgedBatch, batch_facts, batches_of, packets_in, packets_of, said_of, total}
use Rattle.filter_run.specs.Judges.{Follows, MayFollow}
use Rattle.filter_run.specs.Observers.{IsCutAt, MayHear, TellsMore}
use Rattle.filter_run.specs.Ran.{HasSaid, IsBegun, IsRunFault, Ran, Words, most}
use Rattle.filter_run.specs.Sources.{GivesMore, HasFailed, IsAllGiven, MayGive}
use Rattle.filter_run.specs.declared.batch.Batch.{Batch}
use Rattle.filter_run.specs.inner.Steps.{IsGoing}

-- what stands behind the last
pub flat_push : {X A : Type 0} (f : X → List A) (xs : List X) (x : X) → flat_map f (xs ++ x ∷ []) ≡ flat_map f xs ++ f x
flat_push f xs x = flat_map-append f xs (x ∷ []) ∙ ap (λ t. flat_map f xs ++ t) (append-nil (f x))

-- as many packets as were found
pub batch_count : (batch : Batch) → length (packets_in (batch_facts batch)) ≡ batch.found.count
batch_count batch =
    length-map (batch_facts batch).records (packet_at batch.interface) ∙ sym (packets_count batch.order batch.found.count (held_by batch.bytes))

-- as many packets as records
pub total_packets : {V : Type 0} (judged : List (JudgedBatch V)) → total (batches_of judged) ≡ length (packets_of judged)
total_packets [] = refl
total_packets (one ∷ others) =
    let both = length-append (packets_in one.batch) (packets_of others) in
    let first = length-map one.batch.records (packet_at one.batch.interface) in
    let more = total_packets others in
    omega arith

-- ---- Something is said of each packet

pub each_total : {V : Type 0} (judged : List (JudgedBatch V)) → AreEach judged → length (said_of judged) ≡ length (packets_of judged)
each_total [] each = refl
each_total (one ∷ others) (first, more) =
    let said = length-append one.said (said_of others) in
    let seen = length-append (packets_in one.batch) (packets_of others) in
    let behind = each_total others more in
    omega arith

pub each_push : {V : Type 0} (judged : List (JudgedBatch V)) (one : JudgedBatch V) → AreEach judged → length one.said ≡ length (packets_in one.batch)
    → AreEach (judged ++ one ∷ [])
each_push [] one each last = (last, tt)
each_push (first ∷ others) one (here, behind) last = (here, each_push others one behind last)

-- ---- The bytes of a batch are its records

-- the bytes of records, before those behind them
records_front : (order : Order) (bytes : List ℕ) (xs : List RecordFacts) (rest : List ℕ) → AreRecords order bytes xs rest → (whole : List ℕ) × (bytes ≡ whole ++ rest)
records_front order bytes [] rest all = ([], all)
records_front order bytes (x ∷ xs) rest (others, (header, spelt, is), all) =
    let more = records_front order others xs rest all in (
      header ++ (x.frame ++ more.0),
      spelt ∙ ap (λ (b : List ℕ). header ++ (x.frame ++ b)) more.1 ∙ ap (λ (b : List ℕ). header ++ b) (sym (append_assoc x.frame more.0 rest))
          ∙ sym (append_assoc header (x.frame ++ more.0) rest),
    )

-- without those behind them
records_alone : (order : Order) (bytes : List ℕ) (xs : List RecordFacts) (rest : List ℕ) → AreRecords order (bytes ++ rest) xs rest → AreRecords order bytes xs []
unfolding records_front
records_alone order bytes [] rest all = append_cancel_right bytes [] rest all
records_alone order bytes (x ∷ xs) rest (others, (header, spelt, is), all) =
    let front = records_front order others xs rest all in
    let behind = ap (λ (b : List ℕ). header ++ (x.frame ++ b)) front.1 ∙ ap (λ (b : List ℕ). header ++ b) (sym (append_assoc x.frame front.0 rest))
    ∙ sym (append_assoc header (x.frame ++ front.0) rest) in (
      front.0,
      (header, append_cancel_right bytes (header ++ (x.frame ++ front.0)) rest (spelt ∙ behind), is),
      records_alone order front.0 xs rest (subst (λ (b : List ℕ). AreRecords order b xs rest) front.1 all),
    )

pub batch_whole : (batch : Batch) → IsWhole batch → AreRecords batch.order (batch_facts batch).bytes (batch_facts batch).records []
unfolding records_alone
batch_whole batch whole =
    let held = held_by batch.bytes in
    let behind = drop (length held - batch.found.behind) held in
    records_alone batch.order (batch_facts batch).bytes (batch_facts batch).records behind
    (subst (λ (b : List ℕ). AreRecords batch.order b (batch_facts batch).records behind) (sym (take-append-drop (length held - batch.found.behind) held)) whole.found.records)

pub whole_push : {V : Type 0} (judged : List (JudgedBatch V)) (one : JudgedBatch V) → AreAllWhole (batches_of judged)
    → AreRecords one.batch.order one.batch.bytes one.batch.records [] → AreAllWhole (batches_of (judged ++ one ∷ []))
whole_push [] one whole last = (last, tt)
whole_push (first ∷ others) one (here, behind) last = (here, whole_push others one behind last)

-- ---- Between two batches

module _ {S J O V : Type 0} (words : Words S J O V) (source : S) (judge : J) (observer : O) where
  -- nothing came yet
  pub going_begun : IsBegun words.gave words.became words.told source judge observer → IsGoing words source judge observer source judge observer 0 0
  going_begun begun = record {
    judged = [];
    gave = begun.gave;
    became = begun.became;
    each = tt;
    whole = tt;
    told = begun.told;
    batches_are = refl;
    packets_are = refl;
  }

  module _ (now : S) (at : J) (after : O) (batches packets : ℕ) (is : IsGoing words source judge observer now at after batches packets) where
    -- the source may give more
    pub going_give : packets < most → MayGive words.gave now
    going_give below = record {
      begun = source;
      batches = batches_of is.judged;
      stand = is.gave;
      few = let e = each_total is.judged is.each in let f = is.packets_are in let t = total_packets is.judged in omega arith;
    }

    -- so many may be judged
    pub going_may : (more : ℕ) → packets < most → more < 2 ^ 63 → MayFollow words.became at more
    going_may more below few = record {
      begun = judge;
      packets = packets_of is.judged;
      said = said_of is.judged;
      stand = is.became;
      fits = let e = each_total is.judged is.each in let f = is.packets_are in omega arith;
    }

    -- an observer may be told of so many more
    pub going_hear : (more : ℕ) → packets < most → more < 2 ^ 63 → MayHear words.told after more
    going_hear more below few = record {
      begun = observer;
      batches = is.judged;
      stand = is.told;
      fits = let e = is.packets_are in omega arith;
    }

    going_said : HasSaid words judge is.judged
    going_said = (at, is.became)

    -- the source failed
    pub going_failed : (then : S) (found : FaultAt) → HasFailed words.gave words.failed now then found → IsRunFault words source judge observer then after found
    unfolding going_said
    going_failed then found failed =
        inl (record { judged = is.judged; why = inl (failed source (batches_of is.judged) is.gave); said = going_said; each = is.each; whole = is.whole; told = is.told })

    -- the judge had no memory
    pub going_unjudged : (then : S) (batch : Batch) → GivesMore words.gave now (batch_facts batch) then
        → IsRunFault words source judge observer then after (record { fault = Memory; interface = Some batch.interface })
    unfolding going_said
    going_unjudged then batch gives = inl (record {
      judged = is.judged;
      why = inr (inl (refl, batch_facts batch, refl, gives source (batches_of is.judged) is.gave));
      said = going_said;
      each = is.each;
      whole = is.whole;
      told = is.told;
    })

    -- too much came
    pub going_large : (most ≤ batches) ⊎ (most ≤ packets) → IsRunFault words source judge observer now after (record { fault = TooLarge; interface = None })
    unfolding going_said
    going_large many = inl (record {
      judged = is.judged;
      why = inr (inr (refl, is.gave, elim many [ inl p ↦ inl (subst (λ n. most ≤ n) is.batches_are p) | inr p ↦ inr (subst (λ n. most ≤ n) is.packets_are p) ]));
      said = going_said;
      each = is.each;
      whole = is.whole;
      told = is.told;
    })

    -- all came
    pub going_ended : (then : S) (captures : List Captured) → IsAllGiven words.gave words.over now captures then
        → Ran words source judge observer then at after captures
    going_ended then captures given = record {
      judged = is.judged;
      over = given source (batches_of is.judged) is.gave;
      became = is.became;
      each = is.each;
      whole = is.whole;
      told = is.told;
    }

    -- a batch came and was judged
    module _ (then : S) (next : J) (batch : BatchFacts) (said : List V) (given : GivesMore words.gave now batch then)
        (follows : Follows words.became at (packets_in batch) said next) (right : length said ≡ length (packets_in batch))
        (bytes : AreRecords batch.order batch.bytes batch.records []) where
      abbrev pub one : JudgedBatch V
      one = record { batch = batch; said = said }

      more : List (JudgedBatch V)
      more = is.judged ++ one ∷ []

      more_gave : words.gave source (batches_of more) then
      unfolding more
      more_gave = subst (λ (gs : List BatchFacts). words.gave source gs then) (sym (map-append (λ (t : JudgedBatch V). t.batch) is.judged (one ∷ [])))
          (given source (batches_of is.judged) is.gave)

      more_became : words.became judge (packets_of more) (said_of more) next
      unfolding more
      more_became =
          subst (λ (ps : List PacketFacts). words.became judge ps (said_of more) next) (sym (flat_push (λ (t : JudgedBatch V). packets_in t.batch) is.judged one))
          (subst (λ (vs : List V). words.became judge (packets_of is.judged ++ packets_in batch) vs next)
          (sym (flat_push (λ (t : JudgedBatch V). t.said) is.judged one)) (follows judge (packets_of is.judged) (said_of is.judged) is.became))

      more_each : AreEach more
      unfolding more
      more_each = each_push is.judged one is.each right

      more_whole : AreAllWhole (batches_of more)
      unfolding more
      more_whole = whole_push is.judged one is.whole bytes

      more_batches : batches + 1 ≡ length more
      unfolding more
      more_batches = let both = length-append is.judged (one ∷ []) in let e = is.batches_are in omega arith

      more_packets : packets + length said ≡ length (said_of more)
      unfolding more
      more_packets =
          let all = ap length (flat_push (λ (t : JudgedBatch V). t.said) is.judged one) in
          let both = length-append (said_of is.judged) said in
          let e = is.packets_are in
          omega arith

      -- an observer was told of it
      pub going_more : (last : O) → TellsMore words.told after one last
          → IsGoing words source judge observer then next last (batches + 1) (packets + length said)
      unfolding more more_gave more_became more_each more_whole more_batches more_packets
      going_more last tells = record {
        judged = more;
        gave = more_gave;
        became = more_became;
        each = more_each;
        whole = more_whole;
        told = tells observer is.judged is.told;
        batches_are = more_batches;
        packets_are = more_packets;
      }

      -- or it failed within it
      pub going_cut : (last : O) (fault : Fault) → IsCutAt words.told words.cut after one fault last
          → IsRunFault words source judge observer then last (record { fault = fault; interface = Some batch.interface })
      unfolding going_said more more_gave more_became more_each more_whole
      going_cut last fault cut = inr (record {
        earlier = is.judged;
        last = one;
        gave = more_gave;
        before = going_said;
        said = (next, more_became);
        each = more_each;
        whole = more_whole;
        cut = cut observer is.judged is.told;
        place = refl;
      })
