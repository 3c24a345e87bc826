-- An IPv4 packet is what the code reads, and a malformed one isn't read.
use Rattle.std.proofs.Common.{◌≡◌, ◌≢◌, ◌⊎◌, ◌∙◌, ◌≤◌, ◌<◌, ◌-◌, ℕ, true, false, List, ◌++◌, length, take, drop, Some, None, refl, sym, ap, inl, inr, arith}
use Rattle.std.specs.List.{slice_range}
use Rattle.std.proofs.lemmas.Bool.{cond-true, cond-false, eq-eqb, ne_eqb, cases_lt, cases_eq}
use Rattle.std.proofs.lemmas.Bool.Decides.{nat_tests}
use Rattle.std.proofs.lemmas.List.{drop_at, length-drop, length-take-le, take-append-drop, take_at}
use Rattle.std.proofs.lemmas.List.Folds.{drop_split}
use Rattle.packet_view.specs.declared.tuple.Family.TheVariants.{V4}
use Rattle.packet_view.specs.Ipv4.{Carries, HasIpv4Header, HasPayload, IsMalformed, dest, fragment_offset, header_length, protocol, source, total_length, version}
use Rattle.packet_view.specs.IpPackets.{Upper, LaterFragment, Payload, extent}
use Rattle.packet_view.proofs.IpPacketLemmas.{extent_holds, extent_within}
use Rattle.packet_view.specs.inner.FrameSteps.{IpPacketFacts, is_malformed_v4, packet_of_v4, upper_of_v4}

abbrev read : List ℕ → Upper → IpPacketFacts
read bytes upper = record { family = V4; source = source bytes; dest = dest bytes; upper = upper }

right_header : (bytes : List ℕ) → HasIpv4Header bytes → is_malformed_v4 bytes ≡ false
right_header bytes h = grind (arith, nat_tests, h.holds_header)

wrong_header : (bytes : List ℕ) → IsMalformed bytes → is_malformed_v4 bytes ≡ true
wrong_header bytes h = grind (arith, nat_tests)

-- the total length, where it is wrong and where it isn't
pub total_cases : (total header : ℕ) → ((total ≢ 0) × (total < header)) ⊎ ((total ≡ 0) ⊎ (header ≤ total))
total_cases total header =
    elim (cases_eq total 0) [
      | inl zero ↦ inr (inl zero)
      | inr some ↦ elim (cases_lt total header) [
        | inl less ↦ inl (some, less)
        | inr holds ↦ inr (inr holds)
      ]
    ]

header_cases : (bytes : List ℕ) → IsMalformed bytes ⊎ HasIpv4Header bytes
header_cases bytes =
    elim (cases_lt (length bytes) 20) [
      | inl short ↦ inl (inl short)
      | inr least ↦ elim (cases_eq (version bytes) 4) [
        | inr other ↦ inl (inr (inl other))
        | inl four ↦ elim (cases_lt (header_length bytes) 20) [
          | inl small ↦ inl (inr (inr (inl small)))
          | inr five_words ↦ elim (cases_lt (length bytes) (header_length bytes)) [
            | inl cut ↦ inl (inr (inr (inr (inl cut))))
            | inr whole ↦ elim (total_cases (total_length bytes) (header_length bytes)) [
              | inl less ↦ inl (inr (inr (inr (inr less))))
              | inr holds ↦ inr (record { least = least; four = four; five_words = five_words; whole = whole; holds_header = holds })
            ]
          ]
        ]
      ]
    ]

payload_only : (bytes payload : List ℕ) → HasPayload bytes payload → slice_range bytes (header_length bytes) (extent (total_length bytes) (length bytes)) ≡ payload
payload_only bytes payload h =
    let behind : drop (header_length bytes) bytes ≡ payload ++ h.trailer = ap (drop (header_length bytes)) h.spelt ∙ drop_at h.header (payload ++ h.trailer) (header_length bytes) h.header_end in
    let size : length payload ≡ extent (total_length bytes) (length bytes) - header_length bytes = omega (arith, h.header_end, h.packet_end) in
    ap (take (extent (total_length bytes) (length bytes) - header_length bytes)) behind ∙ take_at payload h.trailer (extent (total_length bytes) (length bytes) - header_length bytes) size

pub payload_shown : (bytes : List ℕ) → HasIpv4Header bytes → HasPayload bytes (slice_range bytes (header_length bytes) (extent (total_length bytes) (length bytes)))
payload_shown bytes h =
    let order = extent_holds (header_length bytes) (total_length bytes) (length bytes) h.whole h.holds_header in
    let within = extent_within (total_length bytes) (length bytes) in
    let front : length (take (header_length bytes) bytes) ≡ header_length bytes = length-take-le (header_length bytes) bytes h.whole in
    let size : length (slice_range bytes (header_length bytes) (extent (total_length bytes) (length bytes))) ≡ extent (total_length bytes) (length bytes) - header_length bytes =
    length-take-le (extent (total_length bytes) (length bytes) - header_length bytes) (drop (header_length bytes) bytes) (simp length-drop (omega arith)) in
    record {
      header = take (header_length bytes) bytes;
      trailer = drop (extent (total_length bytes) (length bytes)) bytes;
      spelt = sym (ap (λ (rest : List ℕ). take (header_length bytes) bytes ++ rest) (sym (drop_split bytes (header_length bytes) (extent (total_length bytes) (length bytes)) order))
          ∙ take-append-drop (header_length bytes) bytes);
      header_end = front;
      packet_end = omega arith;
    }

is_read : (bytes : List ℕ) → HasIpv4Header bytes → packet_of_v4 bytes ≡ Some (read bytes (upper_of_v4 bytes))
is_read bytes h = cond-false (is_malformed_v4 bytes) _ _ (right_header bytes h)

pub carries_only : (bytes : List ℕ) (upper : Upper) → Carries bytes upper → packet_of_v4 bytes ≡ Some (read bytes upper)
carries_only bytes (LaterFragment proto) (h, later, is) =
    is_read bytes h ∙ ap (λ (u : Upper). Some (read bytes u)) (cond-false _ _ _ (ne_eqb (fragment_offset bytes) 0 later) ∙ ap LaterFragment (sym is))
carries_only bytes (Payload proto payload) (h, first, is, p) =
    let found : Payload (protocol bytes) (slice_range bytes (header_length bytes) (extent (total_length bytes) (length bytes))) ≡ Payload proto payload =
    let e = payload_only bytes payload p in cc in
    is_read bytes h ∙ ap (λ (u : Upper). Some (read bytes u)) (cond-true _ _ _ (eq-eqb (fragment_offset bytes) 0 first) ∙ found)

pub malformed_only : (bytes : List ℕ) → IsMalformed bytes → packet_of_v4 bytes ≡ None
malformed_only bytes h = cond-true (is_malformed_v4 bytes) _ _ (wrong_header bytes h)

-- every packet is one or the other
pub data Reading (bytes : List ℕ) : Type 0 where
  Right : (upper : Upper) → Carries bytes upper → packet_of_v4 bytes ≡ Some (read bytes upper) → Reading bytes
  Wrong : IsMalformed bytes → packet_of_v4 bytes ≡ None → Reading bytes

carries : (bytes : List ℕ) → HasIpv4Header bytes → (upper : Upper) × Carries bytes upper
carries bytes h =
    elim (cases_eq (fragment_offset bytes) 0) [
      | inl first ↦ (Payload (protocol bytes) (slice_range bytes (header_length bytes) (extent (total_length bytes) (length bytes))), (h, first, refl, payload_shown bytes h))
      | inr later ↦ (LaterFragment (protocol bytes), (h, later, refl))
    ]

pub cases : (bytes : List ℕ) → Reading bytes
cases bytes =
    elim (header_cases bytes) [
      | inl wrong ↦ Wrong wrong (malformed_only bytes wrong)
      | inr right ↦ let u = carries bytes right in Right u.0 u.1 (carries_only bytes u.0 u.1)
    ]
