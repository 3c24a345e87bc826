-- A capture is read in one way: with its packets and end, or with its first fault.
use Rattle.std.proofs.Common.{◌≡◌, ◌∙◌, ◌+◌, ◌++◌, ℕ, List, [], ◌∷◌, drop, length, Result, Ok, Err, refl, sym, ap, subst}
use Rattle.std.specs.Prelude.{IfOk, IfErr, MatchResult}
use Rattle.packet_view.specs.declared.capture.Order.{Order}
use Rattle.packet_view.specs.declared.capture.CheckedCapture.{CheckedCapture}
use Rattle.packet_view.specs.declared.capture.CaptureFault.{CaptureFault}
use Rattle.packet_view.specs.declared.capture.CaptureFault.TheVariants as fault
use Rattle.packet_view.specs.CheckedCaptures.{records_of}
use Rattle.packet_view.specs.Captures.{AreRecords, End, HasFileHeader, HasRecord, IsCapture, IsCaptureFault, IsEnd, IsHeaderFault, IsTooLong, PieceFacts, Nothing, Cut, TooLong, PacketFacts, RecordFacts, Truncated, Whole, end_of, packets_at}
use Rattle.packet_view.specs.inner.RecordSteps.{Checks, part_of}
use Rattle.packet_view.proofs.RecordLemmas.{IsStop, HasNoRecord, part_only, records_once}

pub fault_of_header : (bytes : List ℕ) (found : CaptureFault) → IsHeaderFault bytes found → IsCaptureFault bytes found
fault_of_header bytes fault.Short h = h
fault_of_header bytes fault.Magic h = h
fault_of_header bytes fault.Version h = h
fault_of_header bytes fault.LinkType h = h
fault_of_header bytes (fault.LongRecord number) h = absurd h
fault_of_header bytes fault.Memory h = absurd h

-- what stands where the whole records end
part_at : End → PieceFacts
part_at Whole = Nothing
part_at Truncated = Cut

end_part : (order : Order) (rest : List ℕ) (end : End) → IsEnd order rest end → part_at end ≡ part_of order rest
unfolding part_at
end_part order rest Whole h = part_only order rest Nothing h
end_part order rest Truncated h = part_only order rest Cut h

end_stops : (order : Order) (rest : List ℕ) (end : End) → IsEnd order rest end → HasNoRecord order rest
unfolding part_at
end_stops order rest Whole h = record { stops = subst IsStop (end_part order rest Whole h) tt }
end_stops order rest Truncated h = record { stops = subst IsStop (end_part order rest Truncated h) tt }

long_stops : (order : Order) (rest : List ℕ) → IsTooLong order rest → HasNoRecord order rest
long_stops order rest h = record { stops = subst IsStop (part_only order rest TooLong h) tt }

same_end : (order : Order) (rest : List ℕ) (end other : End) → IsEnd order rest end → IsEnd order rest other → end ≡ other
unfolding part_at
same_end order rest Whole Whole h g = refl
same_end order rest Truncated Truncated h g = refl
same_end order rest Whole Truncated h g = let e = end_part order rest Whole h in let f = end_part order rest Truncated g in cc
same_end order rest Truncated Whole h g = let e = end_part order rest Truncated h in let f = end_part order rest Whole g in cc

not_both : (order : Order) (rest : List ℕ) (end : End) → IsEnd order rest end → IsTooLong order rest → ⊥
unfolding part_at
not_both order rest Whole h long = let e = end_part order rest Whole h in let f = part_only order rest TooLong long in cc
not_both order rest Truncated h long = let e = end_part order rest Truncated h in let f = part_only order rest TooLong long in cc

-- the header is in one order, and has no fault
pub record IsHeaderOf (order : Order) (bytes : List ℕ) : Type 0 where
  pub right : HasFileHeader order bytes
  pub one : (other : Order) → HasFileHeader other bytes → other ≡ order
  pub none : (found : CaptureFault) → IsHeaderFault bytes found → ⊥

module _ (order : Order) (bytes : List ℕ) (header : IsHeaderOf order bytes) where
  pub checks_ok : (result : Result CheckedCapture CaptureFault) → Checks order (drop 24 bytes) result
      → IfOk result (λ checked. IsCapture bytes (records_of checked.records) (end_of checked.truncated))
  checks_ok (Ok checked) (rest, all, end) = (order, rest, header.right, all, end)
  checks_ok (Err found) h = tt

  pub checks_fault : (result : Result CheckedCapture CaptureFault) → Checks order (drop 24 bytes) result → IfErr result (IsCaptureFault bytes)
  checks_fault (Ok checked) h = tt
  checks_fault (Err (fault.LongRecord number)) (packets, rest, all, long, count) = (order, packets, rest, header.right, all, long, count)
  checks_fault (Err fault.Memory) h = absurd h
  checks_fault (Err fault.Short) h = absurd h
  checks_fault (Err fault.Magic) h = absurd h
  checks_fault (Err fault.Version) h = absurd h
  checks_fault (Err fault.LinkType) h = absurd h

  -- whole records and their end are all that a capture says
  pub ended_accepts : (packets : List RecordFacts) (rest : List ℕ) (end : End) → AreRecords order (drop 24 bytes) packets rest → IsEnd order rest end
      → (others : List RecordFacts) (last : End) → IsCapture bytes others last → (packets ≡ others) × (end ≡ last)
  ended_accepts packets rest end all stop others last (other, left, right, same, ends) =
      let e = header.one other right in
      let all_too : AreRecords order (drop 24 bytes) others left = rw (← e) same in
      let ends_too : IsEnd order left last = rw (← e) ends in
      let once = records_once order (drop 24 bytes) packets others rest left all (end_stops order rest end stop) all_too (end_stops order left last ends_too) in
      (once.0, same_end order left end last (rw (← once.1) stop) ends_too)

  -- before a record that is too long, whole records are no capture
  pub long_is_wrong : (packets : List RecordFacts) (rest : List ℕ) → AreRecords order (drop 24 bytes) packets rest → IsTooLong order rest
      → (others : List RecordFacts) (end : End) → IsCapture bytes others end → ⊥
  long_is_wrong packets rest all long others end (other, left, right, same, stop) =
      let e = header.one other right in
      let all_too : AreRecords order (drop 24 bytes) others left = rw (← e) same in
      let stop_too : IsEnd order left end = rw (← e) stop in
      let once = records_once order (drop 24 bytes) packets others rest left all (long_stops order rest long) all_too (end_stops order left end stop_too) in
      not_both order left end stop_too (rw (← once.1) long)

  -- whole records and their end have no fault
  pub ended_is_right : (packets : List RecordFacts) (rest : List ℕ) (end : End) → AreRecords order (drop 24 bytes) packets rest → IsEnd order rest end
      → (found : CaptureFault) → IsCaptureFault bytes found → ⊥
  ended_is_right packets rest end all stop (fault.LongRecord number) (other, others, left, right, same, long, count) =
      let e = header.one other right in
      long_is_wrong others left (rw (← e) same) (rw (← e) long) packets end (order, rest, header.right, all, stop)
  ended_is_right packets rest end all stop fault.Short h = header.none fault.Short h
  ended_is_right packets rest end all stop fault.Magic h = header.none fault.Magic h
  ended_is_right packets rest end all stop fault.Version h = header.none fault.Version h
  ended_is_right packets rest end all stop fault.LinkType h = header.none fault.LinkType h
  ended_is_right packets rest end all stop fault.Memory h = h

  -- the fault of whole records before a record that is too long is that record
  pub long_refuses : (packets : List RecordFacts) (rest : List ℕ) → AreRecords order (drop 24 bytes) packets rest → IsTooLong order rest
      → (found : CaptureFault) → IsCaptureFault bytes found → found ≡ fault.LongRecord (length packets + 1)
  long_refuses packets rest all long (fault.LongRecord number) (other, others, left, right, same, long_other, count) =
      let e = header.one other right in
      let all_too : AreRecords order (drop 24 bytes) others left = rw (← e) same in
      let long_too : IsTooLong order left = rw (← e) long_other in
      let once = records_once order (drop 24 bytes) packets others rest left all (long_stops order rest long) all_too (long_stops order left long_too) in
      ap fault.LongRecord (count ∙ ap (λ (ps : List RecordFacts). length ps + 1) (sym once.0))
  long_refuses packets rest all long fault.Short h = absurd (header.none fault.Short h)
  long_refuses packets rest all long fault.Magic h = absurd (header.none fault.Magic h)
  long_refuses packets rest all long fault.Version h = absurd (header.none fault.Version h)
  long_refuses packets rest all long fault.LinkType h = absurd (header.none fault.LinkType h)
  long_refuses packets rest all long fault.Memory h = absurd h

  pub checks_accepts : (result : Result CheckedCapture CaptureFault) → Checks order (drop 24 bytes) result → (packets : List RecordFacts) (end : End) → IsCapture bytes packets end
      → MatchResult result (λ checked. (records_of checked.records ≡ packets) × (end_of checked.truncated ≡ end)) (λ _. ⊥)
  checks_accepts (Ok checked) (rest, all, stop) packets end is = ended_accepts (records_of checked.records) rest (end_of checked.truncated) all stop packets end is
  checks_accepts (Err (fault.LongRecord number)) (packets, rest, all, long, count) others end is = long_is_wrong packets rest all long others end is
  checks_accepts (Err fault.Memory) h packets end is = h
  checks_accepts (Err fault.Short) h packets end is = h
  checks_accepts (Err fault.Magic) h packets end is = h
  checks_accepts (Err fault.Version) h packets end is = h
  checks_accepts (Err fault.LinkType) h packets end is = h

  pub checks_refuses : (result : Result CheckedCapture CaptureFault) → Checks order (drop 24 bytes) result → (found : CaptureFault) → IsCaptureFault bytes found
      → result ≡ Err found
  checks_refuses (Ok checked) (rest, all, stop) found is = absurd (ended_is_right (records_of checked.records) rest (end_of checked.truncated) all stop found is)
  checks_refuses (Err (fault.LongRecord number)) (packets, rest, all, long, count) found is =
      ap Err (ap fault.LongRecord count ∙ sym (long_refuses packets rest all long found is))
  checks_refuses (Err fault.Memory) h found is = absurd h
  checks_refuses (Err fault.Short) h found is = absurd h
  checks_refuses (Err fault.Magic) h found is = absurd h
  checks_refuses (Err fault.Version) h found is = absurd h
  checks_refuses (Err fault.LinkType) h found is = absurd h

-- a capture of a packet has a record
pub has_record : (bytes : List ℕ) (number : ℕ) (records : List RecordFacts) (end : End) (before behind : List PacketFacts) (packet : PacketFacts)
    → IsCapture bytes records end → before ++ packet ∷ behind ≡ packets_at number records → HasRecord bytes
has_record bytes number [] end [] behind packet is e = absurd (let f : ⊥ = cc in f)
has_record bytes number [] end (x ∷ xs) behind packet is e = absurd (let f : ⊥ = cc in f)
has_record bytes number (first ∷ records) end before behind packet (order, rest, header, (others, one, all), stop) e = (order, first, others, header, one)
