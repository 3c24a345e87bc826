-- Several captures that come: all of them after each part, at their end and at a fault.
use Rattle.std.proofs.Common.{◌≡◌, ◌≢◌, ◌∙◌, ◌≤◌, ◌<◌, ◌+◌, ℕ, List, [], ◌∷◌, ◌++◌, Option, Some, None, ap, append-nil, arith, inl, inr, length, refl, subst, sym}
use Rattle.std.specs.Prelude.{get_or, set}
use Rattle.std.proofs.lemmas.List.{length-append, length-map, set-get_or}
use Rattle.packet_view.specs.Captures.{RecordFacts, packet_at, packets_at}
use Rattle.packet_view.specs.declared.capture.CaptureFault.{CaptureFault}
use Rattle.packet_view.specs.declared.capture.CaptureFault.TheVariants as capture
use Rattle.packet_view.specs.declared.records_at_front.Stop.{Stop}
use Rattle.packet_view.specs.declared.records_at_front.Stop.TheVariants as stop
use Rattle.packet_view.proofs.RecordListLemmas.{packets_count}
use Rattle.racl_io.specs.Buffers.{held_by}
use Rattle.racl_io.specs.Faults.{capture_fault}
use Rattle.racl_io.specs.declared.fault.Fault.{Fault}
use Rattle.racl_io.specs.declared.fault.Fault.TheVariants as fault
use Rattle.racl_io.specs.declared.totals_and_truncation.Captured.{Captured}
use Rattle.capture_stream.specs.Arrivals.{Gives, Part, part_in}
use Rattle.capture_stream.specs.Lives.{with_read}
use Rattle.capture_stream.specs.declared.arrivals.Arrival.{Arrival}
use Rattle.capture_stream.specs.declared.arrivals.FaultAt.{FaultAt}
use Rattle.filter_run.specs.Batches.{BatchFacts, batch_facts, listed, total}
use Rattle.filter_run.specs.Turns.{AreTurns, HasCaptureEnded, HaveCome, IsTurn, Turn, bytes_at, cuts_of, packets_of, parts_of, records_at}
use Rattle.filter_run.specs.declared.batch.Batch.{Batch}
use Rattle.filter_run.specs.declared.coming_captures.ComingCaptures.{ComingCaptures}
use Rattle.filter_run.specs.declared.coming_captures.Lane.{Lane}
use Rattle.filter_run.specs.inner.GivenTurns.{AreAfter, AreBatches, HasFailedBehindTurns, HasGivenTurns, StandSo}
use Rattle.filter_run.specs.inner.Lanes.{AreLanes, HasWaiting, IsLane, IsShort}
use Rattle.filter_run.specs.inner.Parts.{HasTakenBytes, HasTakenPart, IsEmptyBatch, IsPartFault, WaitsSo, long_at, turn_of}
use Rattle.filter_run.proofs.ArrivalLemmas.{gives_both}
use Rattle.filter_run.proofs.LaneLemmas.{lane_come}
use Rattle.filter_run.proofs.NumberLemmas.{numbered_none}
use Rattle.filter_run.proofs.OwnLemmas.{lanes_on, own_come, own_few, own_records}
use Rattle.filter_run.proofs.PartLemmas.{empty_count, empty_records}

-- no capture's record is too long
pub after_open : {A : Type 0} (turns : List Turn) (captures : ComingCaptures A) → AreAfter turns captures → captures.long ≡ None
    → AreTurns turns × AreLanes turns captures.lanes.items
after_open turns captures after open_all = subst (λ (l : Option FaultAt). StandSo l turns captures.lanes.items) open_all after.stand

-- where nothing that they have changes but where their parts come from
pub after_same : {A : Type 0} (turns : List Turn) (old new : ComingCaptures A) → new.long ≡ old.long → new.lanes ≡ old.lanes → new.cuts ≡ old.cuts → new.packets ≡ old.packets
    → AreAfter turns old → AreAfter turns new
after_same turns old new long lanes cuts packets after = record {
  stand = subst (λ (l : Option FaultAt). StandSo l turns new.lanes.items) (sym long) (subst (λ (ls : List Lane). StandSo old.long turns ls) (sym (ap (λ v. v.items) lanes)) after.stand);
  cuts = ap (λ v. v.items) cuts ∙ after.cuts;
  packets = packets ∙ after.packets;
}

-- as many packets as all batches have
pub batches_total : (turns : List Turn) (batches : List BatchFacts) → AreBatches turns batches → total batches ≡ length (packets_of turns)
batches_total [] batches none = ap total none
batches_total (turn ∷ turns) batches (earlier, batch, all, is, are) =
    let both = length-append (packets_of turns) (packets_at turn.interface turn.records) in
    let each = length-map turn.records (packet_at turn.interface) in
    let before = batches_total turns earlier are in
    let last = ap length is.records in
    let push = total_push earlier batch in
    ap total all ∙ (omega arith)
  where
    total_push : (bs : List BatchFacts) (b : BatchFacts) → total (bs ++ b ∷ []) ≡ total bs + length b.records
    total_push [] b = omega arith
    total_push (first ∷ bs) b = let more = total_push bs b in omega arith

module _ {A : Type 0} (turns : List Turn) (old : ComingCaptures A) (after : AreAfter turns old) (open_all : old.long ≡ None) where
  pub take_lane : (i : ℕ) (lane : Lane) → i < 256 → lane ≡ get_or old.lanes.items i lane → IsLane (bytes_at i turns) (records_at i turns) lane
  take_lane i lane within there =
      subst (IsLane (bytes_at i turns) (records_at i turns)) (sym there) ((after_open turns old after open_all).1.1 i lane within)

  pub take_few : (i : ℕ) (lane : Lane) → i < 256 → lane ≡ get_or old.lanes.items i lane → lane.packets ≤ old.packets
  take_few i lane within there =
      let own = take_lane i lane within there in
      let count = own.count in
      let few = own_few i turns in
      let packets = after.packets in
      omega arith

  -- as many packets as before, and those of these records
  packets_on : (turn : Turn) (n : ℕ) → n ≡ old.packets + length turn.records → n ≡ length (packets_of (turn ∷ turns))
  packets_on turn n count =
      let before = after.packets in
      let both = length-append (packets_of turns) (packets_at turn.interface turn.records) in
      let each = length-map turn.records (packet_at turn.interface) in
      omega arith

  -- ---- A capture has ended

  still_lanes : (turn : Turn) → turn.interface < 256 → turn.bytes ≡ [] → turn.records ≡ [] → (other : Lane) → AreLanes (turn ∷ turns) old.lanes.items
  still_lanes turn within none empty other =
      let lanes = old.lanes.items in
      let lane = get_or lanes turn.interface other in
      let are = (after_open turns old after open_all).1 in
      let own : IsLane (bytes_at turn.interface turns ++ turn.bytes) (records_at turn.interface turns ++ turn.records) lane =
      subst (λ (b : List ℕ). IsLane b (records_at turn.interface turns ++ turn.records) lane)
      (sym (ap (λ (b : List ℕ). bytes_at turn.interface turns ++ b) none ∙ append-nil (bytes_at turn.interface turns)))
      (subst (λ (r : List RecordFacts). IsLane (bytes_at turn.interface turns) r lane)
      (sym (ap (λ (r : List RecordFacts). records_at turn.interface turns ++ r) empty ∙ append-nil (records_at turn.interface turns)))
      (are.1 turn.interface other within)) in
      subst (AreLanes (turn ∷ turns)) (set-get_or lanes turn.interface other) (lanes_on turn turns lanes lane within are own)

  pub end_taken : (arrival : Arrival) (other : Lane) (new : ComingCaptures A) (batch : Batch) → arrival.bytes.items ≡ [] → arrival.interface < 256
      → old.packets < 4611686018427387904 → new.long ≡ old.long → new.lanes.items ≡ old.lanes.items → new.packets ≡ old.packets
      → IsEmptyBatch arrival.interface old.packets batch
      → ((cuts : List Captured) × (new.cuts.items ≡ old.cuts.items ++ cuts)
      × HasCaptureEnded arrival.interface (bytes_at arrival.interface turns) (records_at arrival.interface turns) cuts)
      → HasTakenPart arrival turns new batch
  end_taken arrival other new batch none within few long lanes packets empty (cuts, noted, ended) =
      let turn = turn_of arrival (batch_facts batch).records cuts in
      let no_records = empty_records arrival.interface old.packets batch empty in
      let are = (after_open turns old after open_all).0 in
      let is_turn : IsTurn turns turn = record {
        come = subst (λ (b : List ℕ). HaveCome b (records_at arrival.interface turns ++ turn.records))
            (sym (ap (λ (b : List ℕ). bytes_at arrival.interface turns ++ b) none ∙ append-nil (bytes_at arrival.interface turns)))
            (subst (HaveCome (bytes_at arrival.interface turns))
            (sym (ap (λ (r : List RecordFacts). records_at arrival.interface turns ++ r) no_records ∙ append-nil (records_at arrival.interface turns)))
            (own_come turns are arrival.interface));
        more = λ some. absurd (some none);
        end = λ _. (no_records, ended);
      } in
      record {
        whole = record {
          found = empty.found;
          before = let behind = empty.behind in omega arith;
          few = let count = empty_count arrival.interface old.packets batch empty in omega arith;
          numbers = numbered_none batch empty.plain;
        };
        cuts = cuts;
        is = record { others = empty.behind ∙ after.packets; interface = empty.at; plain = ap listed empty.plain; records = refl };
        after = record {
          stand = subst (λ (l : Option FaultAt). StandSo l (turn ∷ turns) new.lanes.items) (sym (long ∙ open_all))
              ((are, is_turn), subst (AreLanes (turn ∷ turns)) (sym lanes) (still_lanes turn within none no_records other));
          cuts = noted ∙ ap (λ (c : List Captured). c ++ cuts) after.cuts;
          packets = packets_on turn new.packets (let size = ap length no_records in omega arith);
        };
      }

  -- ---- Some bytes of it came

  module _ (arrival : Arrival) (ready : Lane) (batch : Batch) (some : arrival.bytes.items ≢ []) (within : arrival.interface < 256)
      (taken : HasTakenBytes arrival (bytes_at arrival.interface turns) (records_at arrival.interface turns) old.packets ready batch) where
    turn : Turn
    turn = turn_of arrival (batch_facts batch).records []

    stand_short : IsShort ready.order (held_by ready.window) → StandSo None (turn ∷ turns) (set old.lanes.items arrival.interface ready)
    unfolding turn
    stand_short short =
        let lane : IsLane (bytes_at arrival.interface turns ++ arrival.bytes.items) (records_at arrival.interface turns ++ (batch_facts batch).records) ready =
        record { waiting = taken.waiting; short = short; count = taken.count } in
        let (are, lanes) = after_open turns old after open_all in (
          (are, record { come = lane_come _ _ ready lane; more = λ _. refl; end = λ none. absurd (some none) }),
          lanes_on turn turns old.lanes.items ready within lanes lane,
        )

    stand_so : (stop_at : Stop) → WaitsSo stop_at ready.order (held_by ready.window)
        → StandSo (long_at stop_at arrival.interface ready.packets) (turn ∷ turns) (set old.lanes.items arrival.interface ready)
    unfolding turn stand_short
    stand_so stop.End waits = stand_short waits
    stand_so stop.Truncated waits = stand_short waits
    stand_so stop.TooLong (order, same, long) =
        let are = subst (λ o. HasWaiting o (bytes_at arrival.interface turns ++ arrival.bytes.items)
        (records_at arrival.interface turns ++ (batch_facts batch).records) (held_by ready.window)) same taken.waiting in (
          ((after_open turns old after open_all).0, record { more = some; uncut = refl; long = (order, held_by ready.window, are, long) }),
          refl,
          ap (λ n. fault.LongRecord (n + 1)) taken.count ∙ ap (λ (r : List RecordFacts). fault.LongRecord (length r + 1)) (sym (own_records turn turns)),
        )

    -- there are not too many packets
    pub bytes_few : old.packets < 4611686018427387904 → ready.packets < 9223372036854775808
    bytes_few few =
        let own = own_few arrival.interface turns in
        let packets = after.packets in
        let both = length-append (records_at arrival.interface turns) (batch_facts batch).records in
        let more = packets_count batch.order batch.found.count (held_by batch.bytes) in
        let count = taken.count in
        let short = taken.few in
        omega arith

    pub bytes_taken : (new : ComingCaptures A) → old.packets < 4611686018427387904 → new.long ≡ long_at batch.found.stop arrival.interface ready.packets
        → new.lanes.items ≡ set old.lanes.items arrival.interface ready → new.cuts ≡ old.cuts → new.packets ≡ old.packets + batch.found.count
        → HasTakenPart arrival turns new batch
    unfolding turn stand_so
    bytes_taken new few long lanes cuts packets = record {
      whole = record {
        found = taken.found;
        before = let behind = taken.behind in omega arith;
        few = let short = taken.few in omega arith;
        numbers = numbered_none batch taken.plain;
      };
      cuts = [];
      is = record { others = taken.behind ∙ after.packets; interface = taken.at; plain = ap listed taken.plain; records = refl };
      after = record {
        stand = subst (λ (l : Option FaultAt). StandSo l (turn ∷ turns) new.lanes.items) (sym long)
            (subst (λ (ls : List Lane). StandSo (long_at batch.found.stop arrival.interface ready.packets) (turn ∷ turns) ls) (sym lanes)
            (stand_so batch.found.stop taken.waits));
        cuts = ap (λ v. v.items) cuts ∙ after.cuts ∙ sym (append-nil (cuts_of turns));
        packets = packets_on turn new.packets (packets ∙ ap (λ n. old.packets + n) (packets_count batch.order batch.found.count (held_by batch.bytes)));
      };
    }

-- ---- From one batch to the next

-- what holds of these faults holds of a capture's
pub by_cause : (P : Fault → Type 0) → P fault.Short → P fault.Magic → P fault.Version → P fault.LinkType → ((n : ℕ) → P (fault.LongRecord n)) → P fault.Memory
    → (cause : CaptureFault) → P (capture_fault cause)
by_cause P short magic version link long memory capture.Short = short
by_cause P short magic version link long memory capture.Magic = magic
by_cause P short magic version link long memory capture.Version = version
by_cause P short magic version link long memory capture.LinkType = link
by_cause P short magic version link long memory (capture.LongRecord number) = long number
by_cause P short magic version link long memory capture.Memory = memory

-- where a part can't be taken, no capture couldn't be read
taken_fault : (arrival : Arrival) (turns : List Turn) (found : Fault) → IsPartFault arrival turns found → (n : ℕ) → n ≡ with_read n found
taken_fault arrival turns found (inl memory) n = subst (λ f. n ≡ with_read n f) (sym memory) refl
taken_fault arrival turns found (inr wrong) n =
    subst (λ f. n ≡ with_read n f) (sym wrong.same) (by_cause (λ f. n ≡ with_read n f) refl refl refl refl (λ number. refl) refl wrong.cause)

unread_fault : (found : Fault) → ((n : ℕ) → n ≡ with_read n found) → found ≢ fault.Read
unread_fault found same = λ read. let more : 0 ≡ 0 + 1 = subst (λ f. 0 ≡ with_read 0 f) read (same 0) in absurd (omega arith)

module _ {A : Type 0} (parts : A → Option (List Part)) (failures : A → ℕ) (left unread : A → Option ℕ) (begun : ComingCaptures A) (batches : List BatchFacts)
    (old : ComingCaptures A) (is : HasGivenTurns parts failures begun batches old) where
  -- there is room for more
  pub given_few : total batches < 4611686018427387904 → old.packets < 4611686018427387904
  given_few few =
      let all = batches_total is.turns batches is.are in let packets = is.after.packets in omega arith

  module _ (open_all : old.long ≡ None) (new : ComingCaptures A) (name : new.arrivals.ghost_name ≡ old.arrivals.ghost_name) where
    gives_all : (gone : List Part) → Gives (parts old.arrivals.now) (parts new.arrivals.now) gone → Gives (parts begun.arrivals.now) (parts new.arrivals.now) (parts_of is.turns ++ gone)
    gives_all gone more = gives_both (parts begun.arrivals.now) (parts old.arrivals.now) (parts new.arrivals.now) (parts_of is.turns) gone is.given more

    module _ (arrival : Arrival) (gives : Gives (parts old.arrivals.now) (parts new.arrivals.now) (part_in arrival ∷ [])) (sound : failures new.arrivals.now ≡ failures old.arrivals.now)
        (last : ComingCaptures A) (same : last.arrivals ≡ new.arrivals) where
      given_parts : Gives (parts begun.arrivals.now) (parts last.arrivals.now) (parts_of is.turns ++ part_in arrival ∷ [])
      unfolding gives_all
      given_parts = subst (λ a. Gives (parts begun.arrivals.now) (parts a.now) (parts_of is.turns ++ part_in arrival ∷ [])) (sym same) (gives_all (part_in arrival ∷ []) gives)

      -- it couldn't be taken
      pub given_untaken : (found : Fault) → IsPartFault arrival is.turns found
          → HasFailedBehindTurns parts failures unread begun batches (record { fault = found; interface = Some arrival.interface }) last
      unfolding given_parts
      given_untaken found why =
          let right = (after_open is.turns old is.after open_all).0 in
          record {
            same = ap (λ a. a.ghost_name) same ∙ name ∙ is.same;
            turns = is.turns;
            gone = part_in arrival ∷ [];
            are = is.are;
            given = given_parts;
            why = elim why [ inl memory ↦ inl (memory, (refl, refl), right) | inr wrong ↦ inr (inr (inl (part_in arrival, refl, right, wrong))) ];
            failed = ap (λ a. failures a.now) same ∙ sound ∙ is.sound ∙ taken_fault arrival is.turns found why (failures begun.arrivals.now);
            whose = λ read. absurd (unread_fault found (taken_fault arrival is.turns found why) read);
          }

      -- it was taken
      pub given_more : (batch : Batch) → HasTakenPart arrival is.turns last batch → HasGivenTurns parts failures begun (batches ++ batch_facts batch ∷ []) last
      unfolding given_parts
      given_more batch taken = record {
        same = ap (λ a. a.ghost_name) same ∙ name ∙ is.same;
        turns = turn_of arrival (batch_facts batch).records taken.cuts ∷ is.turns;
        are = (batches, batch_facts batch, refl, taken.is, is.are);
        given = given_parts;
        after = taken.after;
        few = is.few;
        sound = ap (λ a. failures a.now) same ∙ sound ∙ is.sound;
      }
