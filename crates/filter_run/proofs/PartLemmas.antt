-- A part of one of several captures: the batch that it makes whole, and what it adds to the capture's lane.
use Rattle.std.proofs.Common.{◌≡◌, ◌∙◌, ◌≤◌, ◌<◌, ◌+◌, ℕ, List, [], ◌∷◌, ◌++◌, None, Option, Some, ap, arith, inl, inr, length, refl, subst, sym}
use Rattle.std.proofs.lemmas.List.{length-append}
use Rattle.packet_view.specs.Captures.{AreRecords, RecordFacts}
use Rattle.packet_view.specs.Fronts.{Stops}
use Rattle.packet_view.specs.RecordLists.{records_from}
use Rattle.packet_view.specs.declared.capture.Order.{Order}
use Rattle.packet_view.specs.declared.records_at_front.Stop.{Stop}
use Rattle.packet_view.specs.declared.records_at_front.Stop.TheVariants as stop
use Rattle.packet_view.proofs.RecordListLemmas.{packets_count, records_few}
use Rattle.racl_io.specs.Buffers.{held_by}
use Rattle.capture_stream.specs.Found.{HaveFound, behind_of}
use Rattle.capture_stream.specs.declared.arrivals.Arrival.{Arrival}
use Rattle.capture_stream.specs.declared.found_records.Found.{Found}
use Rattle.filter_run.specs.Batches.{batch_facts}
use Rattle.filter_run.specs.declared.batch.Batch.{Batch}
use Rattle.filter_run.specs.declared.coming_captures.Lane.{Lane}
use Rattle.filter_run.specs.declared.coming_captures.Waiting.{Waiting}
use Rattle.filter_run.specs.inner.Lanes.{HasWaiting}
use Rattle.filter_run.specs.inner.Parts.{HasPartedLane, HasTakenBytes, IsEmptyBatch, WaitsSo}
use Rattle.filter_run.proofs.LaneLemmas.{headed_joined}

-- no more records are found than there are bytes
pub found_few : (order : Order) (bytes : List ℕ) (found : Found) → HaveFound order bytes found → found.count ≤ length bytes
found_few order bytes found have =
    let size = have.size in let few = records_few order found.count bytes in omega arith

-- the whole records that waited are the batch
pub lane_parted : (waiting : Waiting) (others : ℕ) (lane ready : Lane) (batch : Batch) → batch.others ≡ others → batch.interface ≡ waiting.interface → batch.numbers ≡ None
    → batch.order ≡ waiting.order → held_by batch.bytes ≡ waiting.bytes.items → HaveFound waiting.order waiting.bytes.items batch.found
    → length waiting.bytes.items < 4611686018427387904 → held_by ready.window ≡ behind_of waiting.bytes.items batch.found → ready.order ≡ Some waiting.order
    → ready.packets ≡ lane.packets + batch.found.count → HasPartedLane waiting others lane ready batch
lane_parted waiting others lane ready batch behind at plain same held have short rest order count =
    let records : records_from batch.order batch.found.count (held_by batch.bytes) ≡ records_from waiting.order batch.found.count waiting.bytes.items =
    ap (λ (o : Order). records_from o batch.found.count (held_by batch.bytes)) same ∙ ap (λ (b : List ℕ). records_from waiting.order batch.found.count b) held in
    record {
      found = subst (λ (o : Order). HaveFound o (held_by batch.bytes) batch.found) (sym same)
          (subst (λ (b : List ℕ). HaveFound waiting.order b batch.found) (sym held) have);
      at = at;
      plain = plain;
      behind = behind;
      few = let few = found_few waiting.order waiting.bytes.items batch.found have in omega arith;
      records = subst (λ (b : List ℕ). AreRecords waiting.order waiting.bytes.items (batch_facts batch).records b) (sym rest)
          (subst (λ (rs : List RecordFacts). AreRecords waiting.order waiting.bytes.items rs (behind_of waiting.bytes.items batch.found)) (sym records) have.records);
      stops = subst (λ (b : List ℕ). Stops waiting.order b batch.found.stop) (sym rest) have.stop;
      order = order;
      count = count ∙ ap (λ n. lane.packets + n) (packets_count batch.order batch.found.count (held_by batch.bytes));
    }

-- what waits then
waits_so : (stop_at : Stop) (order : Order) (rest : List ℕ) → Stops order rest stop_at → WaitsSo stop_at (Some order) rest
waits_so stop.End order rest none = inl none
waits_so stop.Truncated order rest cut = inr cut
waits_so stop.TooLong order rest long = (order, refl, long)

-- of a capture whose header is whole some bytes came
pub bytes_parted : (arrival : Arrival) (waiting : Waiting) → waiting.interface ≡ arrival.interface → (bytes : List ℕ) (records : List RecordFacts) (others : ℕ) (lane ready : Lane)
    (batch : Batch) → lane.packets ≡ length records → HasWaiting (Some waiting.order) (bytes ++ arrival.bytes.items) records waiting.bytes.items
    → HasPartedLane waiting others lane ready batch → HasTakenBytes arrival bytes records others ready batch
bytes_parted arrival waiting same bytes records others lane ready batch count waits parted =
    let more = (batch_facts batch).records in
    let all = headed_joined waiting.order (bytes ++ arrival.bytes.items) records more waiting.bytes.items (held_by ready.window) waits parted.records in
    record {
      found = parted.found;
      at = parted.at ∙ same;
      plain = parted.plain;
      behind = parted.behind;
      few = parted.few;
      waiting = subst (λ (o : Option Order). HasWaiting o (bytes ++ arrival.bytes.items) (records ++ more) (held_by ready.window)) (sym parted.order) all;
      waits = subst (λ (o : Option Order). WaitsSo batch.found.stop o (held_by ready.window)) (sym parted.order)
          (waits_so batch.found.stop waiting.order (held_by ready.window) parted.stops);
      count = let both = length-append records more in let now = parted.count in omega arith;
    }

-- ---- A batch without packets

none_in : (xs : List RecordFacts) → length xs ≡ 0 → xs ≡ []
none_in [] none = refl
none_in (x ∷ xs) none = absurd (omega (arith, none))

pub empty_count : (interface others : ℕ) (batch : Batch) → IsEmptyBatch interface others batch → batch.found.count ≡ 0
empty_count interface others batch is =
    let few = found_few batch.order (held_by batch.bytes) batch.found is.found in let size = ap length is.held in omega arith

pub empty_records : (interface others : ℕ) (batch : Batch) → IsEmptyBatch interface others batch → (batch_facts batch).records ≡ []
empty_records interface others batch is =
    none_in (batch_facts batch).records (sym (packets_count batch.order batch.found.count (held_by batch.bytes)) ∙ empty_count interface others batch is)
