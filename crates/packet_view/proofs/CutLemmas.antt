-- A capture has one reading, and cut anywhere after its header it is a capture of the front of its packets.
use Rattle.std.proofs.Common.{◌≡◌, ◌∙◌, ◌≤◌, ◌<◌, ◌+◌, ◌-◌, ℕ, List, [], ◌∷◌, ◌++◌, length, take, drop, refl, sym, ap, subst, inl, inr, ◌⊎◌, arith, append_assoc}
use Rattle.std.proofs.lemmas.Bool.{cases_lt, cases_eq}
use Rattle.std.proofs.lemmas.List.{drop-take, length-append, length-take-le, nil_from_length, take-append-drop, take_all}
use Rattle.std.proofs.Math.Seq.{take-append-add, take-length}
use Rattle.std.proofs.Math.Numerals.{add-one}
use Rattle.packet_view.specs.declared.capture.CaptureFault.{CaptureFault}
use Rattle.packet_view.specs.declared.capture.CaptureFault.TheVariants as fault
use Rattle.packet_view.specs.declared.capture.Order.{Order}
use Rattle.packet_view.specs.declared.capture.Order.TheVariants.{Little, LittleNanos, Big, BigNanos}
use Rattle.packet_view.specs.Bytes.{AreBytes}
use Rattle.packet_view.specs.Captures.{AreRecords, End, HasFileHeader, HasMagic, IsCapture, IsCaptureFault, IsEnd, IsHeaderFault, IsRecord, RecordFacts, Truncated, Whole, kept_length, kept_limit, link_type, number_from, version}
use Rattle.packet_view.proofs.CaptureLemmas.{IsHeaderOf, ended_accepts, ended_is_right}
use Rattle.packet_view.proofs.FrontLemmas.{HaveOneHead, head_appended, header_too}
use Rattle.packet_view.proofs.RecordLemmas.{number_from-append, number_from-take}

-- no four bytes are a magic number with the low byte first and with the high byte first
magic_apart : (bytes : List ℕ) (little big : ℕ) → AreBytes bytes → number_from Little 0 4 bytes ≡ little → number_from Big 0 4 bytes ≡ big
    → (little ≡ 0xa1b2c3d4) ⊎ (little ≡ 0xa1b23c4d) → (big ≡ 0xa1b2c3d4) ⊎ (big ≡ 0xa1b23c4d) → ⊥
magic_apart bytes little big fits low high (inl one) (inl other) = omega (arith, fits 0, fits 1, fits 2, fits 3)
magic_apart bytes little big fits low high (inl one) (inr other) = omega (arith, fits 0, fits 1, fits 2, fits 3)
magic_apart bytes little big fits low high (inr one) (inl other) = omega (arith, fits 0, fits 1, fits 2, fits 3)
magic_apart bytes little big fits low high (inr one) (inr other) = omega (arith, fits 0, fits 1, fits 2, fits 3)

pub one_order : (bytes : List ℕ) → AreBytes bytes → (order other : Order) → HasMagic order bytes → HasMagic other bytes → order ≡ other
one_order bytes fits Little Little h g = refl
one_order bytes fits Little LittleNanos h g = absurd (omega (arith, h, g))
one_order bytes fits Little Big h g = absurd (magic_apart bytes _ _ fits h g (inl refl) (inl refl))
one_order bytes fits Little BigNanos h g = absurd (magic_apart bytes _ _ fits h g (inl refl) (inr refl))
one_order bytes fits LittleNanos Little h g = absurd (omega (arith, h, g))
one_order bytes fits LittleNanos LittleNanos h g = refl
one_order bytes fits LittleNanos Big h g = absurd (magic_apart bytes _ _ fits h g (inr refl) (inl refl))
one_order bytes fits LittleNanos BigNanos h g = absurd (magic_apart bytes _ _ fits h g (inr refl) (inr refl))
one_order bytes fits Big Little h g = absurd (magic_apart bytes _ _ fits g h (inl refl) (inl refl))
one_order bytes fits Big LittleNanos h g = absurd (magic_apart bytes _ _ fits g h (inr refl) (inl refl))
one_order bytes fits Big Big h g = refl
one_order bytes fits Big BigNanos h g = absurd (omega (arith, h, g))
one_order bytes fits BigNanos Little h g = absurd (magic_apart bytes _ _ fits g h (inl refl) (inr refl))
one_order bytes fits BigNanos LittleNanos h g = absurd (magic_apart bytes _ _ fits g h (inr refl) (inr refl))
one_order bytes fits BigNanos Big h g = absurd (omega (arith, h, g))
one_order bytes fits BigNanos BigNanos h g = refl

pub no_fault : (bytes : List ℕ) → AreBytes bytes → (order : Order) → HasFileHeader order bytes → (found : CaptureFault) → IsHeaderFault bytes found → ⊥
no_fault bytes fits order header fault.Short short = omega (arith, header.whole, short)
no_fault bytes fits order header fault.Magic (long, none) = none order header.magic
no_fault bytes fits order header fault.Version (long, other, magic, newer) =
    newer (subst (λ o. version o bytes ≡ 2) (one_order bytes fits order other header.magic magic) header.two)
no_fault bytes fits order header fault.LinkType (long, other, magic, two, foreign) =
    foreign (subst (λ o. link_type o bytes ≡ 1) (one_order bytes fits order other header.magic magic) header.ethernet)
no_fault bytes fits order header (fault.LongRecord number) h = h
no_fault bytes fits order header fault.Memory h = h

pub header_of : (bytes : List ℕ) → AreBytes bytes → (order : Order) → HasFileHeader order bytes → IsHeaderOf order bytes
header_of bytes fits order header = record {
  right = header;
  one = λ other h. one_order bytes fits other order h.magic header.magic;
  none = no_fault bytes fits order header;
}

pub one_reading : (bytes : List ℕ) (packets others : List RecordFacts) (end other : End) → AreBytes bytes → IsCapture bytes packets end → IsCapture bytes others other
    → (packets ≡ others) × (end ≡ other)
one_reading bytes packets others end other fits (order, rest, header, all, stop) is =
    ended_accepts order bytes (header_of bytes fits order header) packets rest end all stop others other is

pub no_fault_too : (bytes : List ℕ) (packets : List RecordFacts) (end : End) (found : CaptureFault) → AreBytes bytes → IsCapture bytes packets end
    → IsCaptureFault bytes found → ⊥
no_fault_too bytes packets end found fits (order, rest, header, all, stop) is =
    ended_is_right order bytes (header_of bytes fits order header) packets rest end all stop found is

-- the front of a record is a cut one, or nothing
short_front : (order : Order) (bytes : List ℕ) (kept : ℕ) → kept ≤ length bytes
    → (16 ≤ length bytes → (kept_length order bytes ≤ kept_limit) × (kept < 16 + kept_length order bytes)) → (end : End) × IsEnd order (take kept bytes) end
short_front order bytes kept within fits =
    let size : length (take kept bytes) ≡ kept = length-take-le kept bytes within in
    elim (cases_eq kept 0) [
      | inl none ↦ (Whole, nil_from_length (take kept bytes) (size ∙ none))
      | inr some ↦ elim (cases_lt kept 16) [
        | inl short ↦ (Truncated, inl (omega arith, omega arith))
        | inr long ↦
            let limits = fits (omega arith) in
            let same : kept_length order bytes ≡ kept_length order (take kept bytes) = number_from-take order 8 4 kept bytes (omega arith) within in
            (Truncated, inr (omega arith, omega arith, omega arith))
      ]
    ]

-- a cut of what is left after whole records
cut_end : (order : Order) (rest : List ℕ) (end : End) (kept : ℕ) → IsEnd order rest end → kept ≤ length rest → (last : End) × IsEnd order (take kept rest) last
cut_end order rest Whole kept none within = short_front order rest kept within (λ long. let size : length rest ≡ 0 = ap length none in absurd (omega arith))
cut_end order rest Truncated kept (inl short) within = short_front order rest kept within (λ long. absurd (omega arith))
cut_end order rest Truncated kept (inr cut) within = short_front order rest kept within (λ long. (cut.1, omega (arith, cut.2)))

any_cut_end : (order : Order) (rest : List ℕ) (end : End) (kept : ℕ) → IsEnd order rest end → (last : End) × IsEnd order (take kept rest) last
any_cut_end order rest end kept h =
    elim (cases_lt kept (length rest)) [
      | inl less ↦ cut_end order rest end kept h (omega arith)
      | inr all ↦ (end, rw (take_all kept rest all) h)
    ]

-- a cut inside the first record
cut_first : (order : Order) (header frame others : List ℕ) (moment micros kept : ℕ) → IsRecord order header (record { moment = moment; micros = micros; frame = frame }) → kept < 16 + length frame
    → (last : End) × IsEnd order (take kept (header ++ (frame ++ others))) last
cut_first order header frame others moment micros kept r less =
    let size : length (header ++ (frame ++ others)) ≡ 16 + (length frame + length others) = simp (length-append, r.sixteen) refl in
    let same : kept_length order (header ++ (frame ++ others)) ≡ length frame = number_from-append order 8 4 header (frame ++ others) (omega (arith, r.sixteen)) ∙ sym r.kept in
    short_front order (header ++ (frame ++ others)) kept (omega arith) (λ long. (omega (arith, r.limit), omega arith))

-- a cut after the first record
cut_after : (header frame others : List ℕ) (kept more : ℕ) → length header ≡ 16 → kept ≡ 16 + length frame + more
    → take kept (header ++ (frame ++ others)) ≡ header ++ (frame ++ take more others)
cut_after header frame others kept more sixteen is =
    let size : kept ≡ length (header ++ frame) + more = simp (length-append, sixteen) is in
    ap (λ (bytes : List ℕ). take kept bytes) (sym (append_assoc header frame others)) ∙ ap (λ (n : ℕ). take n ((header ++ frame) ++ others)) size
    ∙ take-append-add (header ++ frame) others more ∙ append_assoc header frame (take more others)

cut_records : (order : Order) (packets : List RecordFacts) (bytes rest : List ℕ) (end : End) (kept : ℕ) → AreRecords order bytes packets rest → IsEnd order rest end
    → (count : ℕ) × (left : List ℕ) × (last : End) × AreRecords order (take kept bytes) (take count packets) left × IsEnd order left last
cut_records order [] bytes rest end kept all stop =
    let cut = any_cut_end order rest end kept stop in
    (0, take kept rest, cut.0, ap (take kept) all, cut.1)
cut_records order (packet ∷ packets) bytes rest end kept (others, (header, spelt, r), all) stop =
    elim (cases_lt kept (16 + length packet.frame)) [
      | inl less ↦
          let cut = cut_first order header packet.frame others packet.moment packet.micros kept r less in
          (0, take kept (header ++ (packet.frame ++ others)), cut.0, ap (take kept) spelt, cut.1)
      | inr enough ↦
          let more : ℕ = kept - (16 + length packet.frame) in
          let later = cut_records order packets others rest end more all stop in (
            later.0 + 1,
            later.1,
            later.2,
            rw add-one (take more others, (header, ap (take kept) spelt ∙ cut_after header packet.frame others kept more r.sixteen (omega arith), r), later.3),
            later.4,
          )
    ]

-- a cut leaves the header
header_stays : (order : Order) (bytes : List ℕ) (kept : ℕ) → HasFileHeader order bytes → 24 ≤ kept → kept ≤ length bytes → HasFileHeader order (take kept bytes)
header_stays order bytes kept header long within =
    let front : 24 ≤ length (take kept bytes) = let size = length-take-le kept bytes within in omega arith in
    header_too bytes (take kept bytes)
    (subst (λ (b : List ℕ). HaveOneHead b (take kept bytes)) (take-append-drop kept bytes) (head_appended (take kept bytes) (drop kept bytes) front)) order header

within_bytes : (bytes : List ℕ) (packets : List RecordFacts) (end : End) (kept : ℕ) → IsCapture bytes packets end → 24 ≤ kept → kept ≤ length bytes
    → (count : ℕ) × (last : End) × IsCapture (take kept bytes) (take count packets) last
within_bytes bytes packets end kept (order, rest, header, all, stop) long within =
    let cut = cut_records order packets (drop 24 bytes) rest end (kept - 24) all stop in
    let sum : kept ≡ 24 + (kept - 24) = omega arith in
    let behind : drop 24 (take kept bytes) ≡ take (kept - 24) (drop 24 bytes) = ap (λ (n : ℕ). drop 24 (take n bytes)) sum ∙ drop-take 24 (kept - 24) bytes in
    let records = subst (λ (b : List ℕ). AreRecords order b (take cut.0 packets) cut.1) (sym behind) cut.3 in
    (cut.0, cut.2, (order, cut.1, header_stays order bytes kept header long within, records, cut.4))

pub cut_capture : (bytes : List ℕ) (packets : List RecordFacts) (end : End) (kept : ℕ) → IsCapture bytes packets end → 24 ≤ kept
    → (count : ℕ) × (last : End) × IsCapture (take kept bytes) (take count packets) last
cut_capture bytes packets end kept h long =
    elim (cases_lt kept (length bytes)) [
      | inl less ↦ within_bytes bytes packets end kept h long (omega arith)
      | inr all ↦ (length packets, end, rw (take_all kept bytes all, take-length) h)
    ]
