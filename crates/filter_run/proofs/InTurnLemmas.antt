-- Captures whose bytes are at hand, given one after the other.
use Rattle.std.proofs.Common.{◌≡◌, ◌∙◌, ◌≤◌, ◌<◌, ◌+◌, ◌++◌, ◌^◌, ℕ, zero, suc, List, [], ◌∷◌, None, ap, arith, drop, flat_map, length, max, refl, subst, sym, true}
use Rattle.std.specs.Prelude.{get_or}
use Rattle.std.proofs.lemmas.List.{length-append}
use Rattle.packet_view.specs.Captures.{AreRecords, End, HasFileHeader, IsCapture, IsEnd, PacketFacts, RecordFacts, Truncated, Whole, end_of}
use Rattle.packet_view.specs.RecordLists.{records_from}
use Rattle.packet_view.specs.declared.capture.Order.{Order}
use Rattle.packet_view.specs.declared.records_at_front.Stop.TheVariants as stop
use Rattle.packet_view.proofs.RecordLemmas as at
use Rattle.packet_view.proofs.RecordLemmas.{records_once}
use Rattle.packet_view.proofs.RecordListLemmas.{packets_count, records_within}
use Rattle.racl_io.specs.Buffers.{held_by}
use Rattle.racl_io.specs.CapturePackets.{HavePacketsTold}
use Rattle.racl_io.specs.declared.capture_bytes.CaptureBytes.{CaptureBytes}
use Rattle.racl_io.specs.declared.totals_and_truncation.Captured.{Captured}
use Rattle.capture_stream.specs.Found.{HaveFound, behind_of}
use Rattle.capture_stream.specs.declared.found_records.Found.{Found}
use Rattle.capture_shards.specs.OwnRecords.{latest_of}
use Rattle.capture_shards.proofs.OwnRecordLemmas.{stop_none}
use Rattle.filter_run.specs.Batches.{BatchFacts, batch_facts, listed, packets_in, total}
use Rattle.filter_run.specs.CapturesInTurn.{AreInTurn, AreReadable, HasGivenAllInTurn, HasGivenInTurn, HasReadCapture, IsOfCapture}
use Rattle.filter_run.specs.Sources.{GivesMore, IsAllGiven, MayGive}
use Rattle.filter_run.specs.declared.batch.Batch.{Batch}
use Rattle.filter_run.specs.declared.captures_in_turn.CapturesInTurn.{CapturesInTurn}
use Rattle.filter_run.proofs.NumberLemmas.{numbered_none}
use Rattle.filter_run.proofs.RunLemmas.{flat_push}
use Rattle.filter_run.proofs.ShardedLemmas.{latest_both, total_push}

-- ---- One capture

end_none : (order : Order) (rest : List ℕ) (end : End) → IsEnd order rest end → at.HasNoRecord order rest
end_none order rest Whole is = stop_none order rest stop.End is
end_none order rest Truncated is = stop_none order rest stop.Truncated is

-- what is found behind its header are its records, where no other order has a header there
pub found_only : (bytes : List ℕ) (order : Order) (found : Found) → ((other : Order) → HasFileHeader other bytes → other ≡ order) → HaveFound order (drop 24 bytes) found
    → (records : List RecordFacts) (end : End) → IsCapture bytes records end → records_from order found.count (drop 24 bytes) ≡ records
found_only bytes order found one have records end (other, rest, header, all, stops) =
    let same = one other header in
    (records_once order (drop 24 bytes) (records_from order found.count (drop 24 bytes)) records (behind_of (drop 24 bytes) found) rest have.records
    (stop_none order (behind_of (drop 24 bytes) found) found.stop have.stop) (subst (λ (o : Order). AreRecords o (drop 24 bytes) records rest) same all)
    (end_none order rest end (subst (λ (o : Order). IsEnd o rest end) same stops))).0

-- it is a batch
pub capture_read : (capture : CaptureBytes) (batch : Batch) → length (held_by batch.bytes) < 2 ^ 63 → batch.others < 2 ^ 63 → batch.interface ≡ capture.interface
    → batch.numbers ≡ None → held_by batch.bytes ≡ drop 24 capture.bytes.items → HaveFound batch.order (held_by batch.bytes) batch.found
    → ((other : Order) → HasFileHeader other capture.bytes.items → other ≡ batch.order) → HasReadCapture batch.others capture batch
capture_read capture batch few others interface plain held found one = (
  record {
    found = found;
    before = others;
    few =
        let within = records_within batch.order (held_by batch.bytes) (batch_facts batch).records (behind_of (held_by batch.bytes) batch.found) found.records in
        let count = packets_count batch.order batch.found.count (held_by batch.bytes) in
        omega arith;
    numbers = numbered_none batch plain;
  },
  record {
    behind = refl;
    interface = interface;
    plain = ap listed plain;
    only = λ records end is.
        ap (records_from batch.order batch.found.count) held
        ∙ found_only capture.bytes.items batch.order batch.found one (subst (λ (b : List ℕ). HaveFound batch.order b batch.found) held found) records end is;
  },
)

-- ---- All of them

-- each is a capture
readable_at : (captures : List CaptureBytes) (told : List Captured) (packets : List PacketFacts) → HavePacketsTold captures told packets → (i : ℕ) (other : CaptureBytes)
    → i < length captures → (records : List RecordFacts) × (end : End) × IsCapture (get_or captures i other).bytes.items records end
readable_at [] told packets have i other below = absurd (omega (arith, below))
readable_at (capture ∷ captures) told packets (mine, rest, captured, others, ps, cs, is, more) zero other below = (is.records.0, end_of is.truncated, is.records.1)
readable_at (capture ∷ captures) told packets (mine, rest, captured, others, ps, cs, is, more) (suc i) other below =
    readable_at captures others rest more i other (omega (arith, below))

-- the next one is a batch more
in_turn_push : (n : ℕ) (captures : List CaptureBytes) (batches : List BatchFacts) (other : CaptureBytes) (batch : BatchFacts) → length batches < length captures
    → AreInTurn n captures batches → IsOfCapture (n + total batches) (get_or captures (length batches) other) batch → AreInTurn n captures (batches ++ batch ∷ [])
in_turn_push n [] batches other batch below are is = absurd (omega (arith, below))
in_turn_push n (capture ∷ captures) [] other batch below are is = let e : n + 0 ≡ n = omega arith in (subst (λ k. IsOfCapture k capture batch) e is, tt)
in_turn_push n (capture ∷ captures) (first ∷ batches) other batch below (here, are) is =
    let e : n + (length first.records + total batches) ≡ n + length first.records + total batches = omega arith in (
      here,
      in_turn_push (n + length first.records) captures batches other batch (omega (arith, below)) are
          (subst (λ k. IsOfCapture k (get_or captures (length batches) other) batch) e is),
    )

-- no more batches than captures
in_turn_few : (n : ℕ) (captures : List CaptureBytes) (batches : List BatchFacts) → AreInTurn n captures batches → length batches ≤ length captures
in_turn_few n captures [] are = omega arith
in_turn_few n [] (batch ∷ batches) are = absurd are
in_turn_few n (capture ∷ captures) (batch ∷ batches) (here, are) = let more = in_turn_few (n + length batch.records) captures batches are in omega arith

-- none was given
pub in_turn_none : (begun : CapturesInTurn) → AreReadable begun.captures.now → begun.given ≡ 0 → begun.packets ≡ 0 → begun.latest ≡ 0 → HasGivenInTurn begun [] begun
in_turn_none begun readable given packets latest = record {
  captures = refl;
  noted = refl;
  readable = readable;
  turns = tt;
  given = given;
  packets = packets;
  latest = λ asked. latest;
}

module _ (old : CapturesInTurn) where
  -- what may be read next
  pub next_readable : MayGive HasGivenInTurn old → old.given < length old.captures.now → (other : CaptureBytes)
      → (records : List RecordFacts) × (end : End) × IsCapture (get_or old.captures.now old.given other).bytes.items records end
  next_readable may below other =
      let is = may.stand in
      let (told, packets, have) = subst AreReadable (ap (λ c. c.now) (sym is.captures)) is.readable in
      readable_at old.captures.now told packets have old.given other below

  pub next_few : MayGive HasGivenInTurn old → old.packets < 4611686018427387904
  next_few may = let few = may.few in let count = may.stand.packets in omega arith

  -- it was given
  pub in_turn_gives : (now : CapturesInTurn) (other : CaptureBytes) (batch : BatchFacts) → old.given < length old.captures.now
      → IsOfCapture old.packets (get_or old.captures.now old.given other) batch → now.captures ≡ old.captures → now.noted ≡ old.noted → now.given ≡ old.given + 1
      → now.packets ≡ old.packets + length batch.records → (old.noted ≡ true → now.latest ≡ max old.latest (latest_of (packets_in batch)))
      → GivesMore HasGivenInTurn old batch now
  in_turn_gives now other batch below of captures noted given packets latest begun batches is =
      let same = ap (λ c. c.now) is.captures in
      let count : old.packets ≡ 0 + total batches = let e = is.packets in omega arith in
      let fewer : length batches < length begun.captures.now = let places = is.given in let size = ap length same in omega arith in
      record {
        captures = captures ∙ is.captures;
        noted = noted ∙ is.noted;
        readable = is.readable;
        turns = in_turn_push 0 begun.captures.now batches other batch fewer is.turns
            (subst (λ k. IsOfCapture k (get_or begun.captures.now (length batches) other) batch) count
            (subst (λ i. IsOfCapture old.packets (get_or begun.captures.now i other) batch) is.given
            (subst (λ (cs : List CaptureBytes). IsOfCapture old.packets (get_or cs old.given other) batch) same of)));
        given = let before = is.given in let pushed = length-append batches (batch ∷ []) in omega arith;
        packets = let before = is.packets in let pushed = total_push batches batch in omega arith;
        latest = λ asked.
            let before = is.latest asked in
            let next = latest (is.noted ∙ asked) in
            let both = ap latest_of (flat_push packets_in batches batch) ∙ latest_both (flat_map packets_in batches) (packets_in batch) in
            omega arith;
      }

  -- none is left
  pub in_turn_ends : (captures : List Captured) → length old.captures.now ≤ old.given → captures ≡ [] → IsAllGiven HasGivenInTurn HasGivenAllInTurn old captures old
  in_turn_ends captures past none begun batches is =
      let few = in_turn_few 0 begun.captures.now batches is.turns in
      let places = is.given in
      let size = ap (λ c. length c.now) is.captures in
      record { gave = is; all = omega arith; none = none }
