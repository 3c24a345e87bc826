-- An IPv6 packet is what the code reads, and a malformed one isn't read.
use Rattle.std.proofs.Common.{◌≡◌, ◌≢◌, ◌⊎◌, ◌∙◌, ◌≤◌, ◌<◌, ◌+◌, ◌-◌, ◌*◌, ◌/◌, ℕ, zero, suc, true, false, cond, not, ◌&&◌, ◌==◌, nat_lt, List, [], ◌∷◌, ◌++◌, length, take, drop, Some, None, refl, sym, ap, subst, inl, inr, arith, lit≤, append_assoc}
use Rattle.std.specs.List.{concat, slice_index}
use Rattle.std.specs.Option.{option_map}
use Rattle.std.proofs.lemmas.Bool.{cond-true, cond-false, lt-ltb, le-ltb, eq-eqb, ne_eqb, cases_lt, cases_eq, cases_Bool, not_from_true, not_from_false, and_left, and_right}
use Rattle.std.proofs.lemmas.Bool.Decides.{nat_tests}
use Rattle.std.proofs.lemmas.List.{drop-append-le, drop_at, get_or_append_left, length-append, length-drop, length-take-le, take-append-drop, take_at}
use Rattle.byteorder.specs.Endian.{big_number}
use Rattle.byteorder.specs.Numbers.{big_from-append}
use Rattle.packet_view.specs.declared.tuple.Family.TheVariants.{V6}
use Rattle.packet_view.specs.Ipv6.{Carries, IsChain, IsMalformed, IsSkipped, Skips, dest, extension_length, fragment_offset, is_extension, next_header, payload_length, source, version}
use Rattle.packet_view.specs.IpPackets.{Upper, LaterFragment, Payload, extent}
use Rattle.packet_view.specs.inner.FrameSteps.{IpPacketFacts, Skipped, Last, after_header, header_of, is_malformed_v6, packet_of_v6, walk}
use Rattle.packet_view.proofs.IpPacketLemmas.{extent_within}
use Rattle.packet_view.proofs.Walks.{walk_ends, walk_skips, walk_full, walk_last}

-- no extension header has less than eight bytes
at_least_eight : (number : ℕ) (bytes : List ℕ) → 8 ≤ extension_length number bytes
at_least_eight number bytes = grind (arith, nat_tests)

-- a header's length and offset are its own, whatever follows
length_of_front : (number : ℕ) (header behind : List ℕ) → 2 ≤ length header → extension_length number (header ++ behind) ≡ extension_length number header
length_of_front number header behind h =
    ap (λ m. cond (number == 44) 8 ((m + 1) * 8)) (get_or_append_left header behind 0 1 (omega arith))

offset_of_front : (header behind : List ℕ) → 4 ≤ length header → fragment_offset (header ++ behind) ≡ fragment_offset header
offset_of_front header behind h =
    ap (λ (bytes : List ℕ). big_number 2 bytes / 8) (drop-append-le 2 header behind (omega arith))
    ∙ ap (λ (n : ℕ). n / 8) (big_from-append 2 (drop 2 header) behind (simp length-drop (omega arith)))

step_last : (number : ℕ) (bytes : List ℕ) → is_extension number ≡ false → Last (Some (Payload number bytes)) ≡ header_of number bytes
step_last number bytes h = sym (cond-true (not (is_extension number)) _ _ (not_from_false (is_extension number) h))

step_cut : (number : ℕ) (bytes : List ℕ) → is_extension number ≡ true → length bytes < extension_length number bytes → Last None ≡ header_of number bytes
step_cut number bytes h short =
    sym (cond-false (not (is_extension number)) _ _ (not_from_true (is_extension number) h)
    ∙ cond-true (nat_lt (length bytes) (extension_length number bytes)) _ _ (lt-ltb (length bytes) (extension_length number bytes) short))

-- the fragment header of a later fragment ends the chain
step_later : (header rest : List ℕ) → length header ≡ 8 → fragment_offset header ≢ 0 → Last (Some (LaterFragment (slice_index header 0))) ≡ header_of 44 (header ++ rest)
step_later header rest size later =
    let long : 8 ≤ length (header ++ rest) = simp length-append (omega (arith, size)) in
    let offset : fragment_offset (header ++ rest) ≢ 0 = λ zero. later (sym (offset_of_front header rest (omega (arith, size))) ∙ zero) in
    let number : slice_index (header ++ rest) 0 ≡ slice_index header 0 = get_or_append_left header rest 0 0 (omega (arith, size)) in
    sym (cond-false (nat_lt (length (header ++ rest)) 8) _ _ (le-ltb (length (header ++ rest)) 8 long)
    ∙ cond-true (not (fragment_offset (header ++ rest) == 0)) _ _ (not_from_false _ (ne_eqb (fragment_offset (header ++ rest)) 0 offset))
    ∙ ap (λ (n : ℕ). Last (Some (LaterFragment n))) number)

-- a skipped header is no later fragment's
not_later : (number : ℕ) (header behind : List ℕ) → IsSkipped number header → 4 ≤ length header → ((number == 44) && not (fragment_offset (header ++ behind) == 0)) ≡ false
not_later number header behind h long =
    elim (cases_eq number 44) [
      | inl fragment ↦ and_right (number == 44) _ (not_from_true _ (eq-eqb (fragment_offset (header ++ behind)) 0 (offset_of_front header behind long ∙ h.first_fragment fragment)))
      | inr other ↦ and_left (number == 44) _ (ne_eqb number 44 other)
    ]

step_skipped : (number : ℕ) (header behind : List ℕ) → IsSkipped number header → Skipped (slice_index header 0) behind ≡ header_of number (header ++ behind)
step_skipped number header behind h =
    let least : 8 ≤ length header = rw h.whole (at_least_eight number header) in
    let size : extension_length number (header ++ behind) ≡ length header = length_of_front number header behind (omega arith) ∙ sym h.whole in
    let long : extension_length number (header ++ behind) ≤ length (header ++ behind) = rw (size, length-append) (omega arith) in
    let next : slice_index (header ++ behind) 0 ≡ slice_index header 0 = get_or_append_left header behind 0 0 (omega arith) in
    let rest : drop (extension_length number (header ++ behind)) (header ++ behind) ≡ behind = drop_at header behind (extension_length number (header ++ behind)) (sym size) in
    sym (cond-false (not (is_extension number)) _ _ (not_from_true (is_extension number) h.known)
    ∙ cond-false (nat_lt (length (header ++ behind)) (extension_length number (header ++ behind))) _ _ (le-ltb (length (header ++ behind)) (extension_length number (header ++ behind)) long)
    ∙ cond-false ((number == 44) && not (fragment_offset (header ++ behind) == 0)) _ _ (not_later number header behind h (omega arith)) ∙ cc)

-- the walk over skipped headers goes on after them
walk_past : (skipped : List (List ℕ)) (total n number next : ℕ) (rest : List ℕ) → total ≡ length skipped + n → IsChain number skipped next
    → walk n next rest ≡ walk total number (concat skipped ++ rest)
walk_past [] total n number next rest count chain = let same : n ≡ total = omega arith in ap (λ m. walk m next rest) same ∙ ap (λ m. walk total m rest) (sym chain)
walk_past (header ∷ skipped) total n number next rest count (one, chain) =
    walk_past skipped (length skipped + n) n (slice_index header 0) next rest refl chain
    ∙ rw (append_assoc header (concat skipped) rest) (walk_skips total (length skipped + n) number (header ++ (concat skipped ++ rest)) (slice_index header 0) (concat skipped ++ rest) (omega (arith, count)) (step_skipped number header (concat skipped ++ rest) one))

-- the end of a walk, however many headers may still be skipped
at_last : (n number : ℕ) (bytes : List ℕ) → is_extension number ≡ false → Some (Payload number bytes) ≡ walk n number bytes
at_last zero number bytes h = walk_last 0 number bytes refl h
at_last (suc n) number bytes h = walk_ends (suc n) n number bytes (Some (Payload number bytes)) (omega arith) (step_last number bytes h)

at_cut : (n number : ℕ) (bytes : List ℕ) → is_extension number ≡ true → length bytes < extension_length number bytes → None ≡ walk n number bytes
at_cut zero number bytes h cut = walk_full 0 number bytes refl h
at_cut (suc n) number bytes h cut = walk_ends (suc n) n number bytes None (omega arith) (step_cut number bytes h cut)

walk_first : (skipped : List (List ℕ)) (n number next : ℕ) (rest : List ℕ) → length skipped ≤ n → IsChain number skipped next → is_extension next ≡ false
    → walk n number (concat skipped ++ rest) ≡ Some (Payload next rest)
walk_first skipped n number next rest few chain last =
    sym (at_last (n - length skipped) next rest last ∙ walk_past skipped n (n - length skipped) number next rest (omega arith) chain)

walk_later : (skipped : List (List ℕ)) (n number : ℕ) (header rest : List ℕ) → length skipped < n → IsChain number skipped 44 → length header ≡ 8
    → fragment_offset header ≢ 0 → walk n number (concat skipped ++ (header ++ rest)) ≡ Some (LaterFragment (slice_index header 0))
walk_later skipped n number header rest few chain size later =
    sym (walk_ends (n - length skipped) (n - length skipped - 1) 44 (header ++ rest) (Some (LaterFragment (slice_index header 0))) (omega arith) (step_later header rest size later)
    ∙ walk_past skipped n (n - length skipped) number 44 (header ++ rest) (omega arith) chain)

walk_fails : (skipped : List (List ℕ)) (n number next : ℕ) (rest : List ℕ) → length skipped ≤ n → IsChain number skipped next → is_extension next ≡ true
    → (length skipped ≡ n) ⊎ (length rest < extension_length next rest) → walk n number (concat skipped ++ rest) ≡ None
walk_fails skipped n number next rest few chain known (inl full) =
    sym (walk_full 0 next rest refl known ∙ walk_past skipped n 0 number next rest (omega arith) chain)
walk_fails skipped n number next rest few chain known (inr cut) =
    sym (at_cut (n - length skipped) next rest known cut ∙ walk_past skipped n (n - length skipped) number next rest (omega arith) chain)

-- how a walk can end
data Walked (n number : ℕ) (bytes : List ℕ) : Type 0 where
  Arrives : (skipped : List (List ℕ)) (next : ℕ) (rest : List ℕ) → bytes ≡ concat skipped ++ rest → length skipped ≤ n → IsChain number skipped next
      → is_extension next ≡ false → Walked n number bytes
  Meets : (skipped : List (List ℕ)) (header rest : List ℕ) → bytes ≡ concat skipped ++ (header ++ rest) → length skipped < n → IsChain number skipped 44
      → length header ≡ 8 → fragment_offset header ≢ 0 → Walked n number bytes
  Fails : (skipped : List (List ℕ)) (next : ℕ) (rest : List ℕ) → bytes ≡ concat skipped ++ rest → length skipped ≤ n → IsChain number skipped next
      → is_extension next ≡ true → (length skipped ≡ n) ⊎ (length rest < extension_length next rest) → Walked n number bytes

-- one skipped header in front
longer : (n number : ℕ) (header behind : List ℕ) → IsSkipped number header → Walked n (slice_index header 0) behind → Walked (suc n) number (header ++ behind)
longer n number header behind one (Arrives skipped next rest spelt few chain last) =
    Arrives (header ∷ skipped) next rest (ap (λ (b : List ℕ). header ++ b) spelt ∙ sym (append_assoc header (concat skipped) rest)) (omega arith) (one, chain) last
longer n number header behind one (Meets skipped fragment rest spelt few chain size later) =
    Meets (header ∷ skipped) fragment rest (ap (λ (b : List ℕ). header ++ b) spelt ∙ sym (append_assoc header (concat skipped) (fragment ++ rest))) (omega arith) (one, chain) size later
longer n number header behind one (Fails skipped next rest spelt few chain known fault) =
    Fails (header ∷ skipped) next rest (ap (λ (b : List ℕ). header ++ b) spelt ∙ sym (append_assoc header (concat skipped) rest)) (omega arith) (one, chain) known
    (elim fault [ inl full ↦ inl (omega arith) | inr cut ↦ inr cut ])

-- an extension header that is whole is skipped or is a later fragment's
data Extension (number : ℕ) (bytes : List ℕ) : Type 0 where
  Skips_it : (header behind : List ℕ) → bytes ≡ header ++ behind → IsSkipped number header → Extension number bytes
  Later_it : (header rest : List ℕ) → number ≡ 44 → bytes ≡ header ++ rest → length header ≡ 8 → fragment_offset header ≢ 0 → Extension number bytes

extension : (number : ℕ) (bytes : List ℕ) → extension_length number bytes ≤ length bytes → is_extension number ≡ true → Extension number bytes
extension number bytes whole known =
    let size : ℕ = extension_length number bytes in
    let header : List ℕ = take size bytes in
    let behind : List ℕ = drop size bytes in
    let spelt : bytes ≡ header ++ behind = sym (take-append-drop size bytes) in
    let count : length header ≡ size = length-take-le size bytes whole in
    let least : 8 ≤ size = at_least_eight number bytes in
    let own : length header ≡ extension_length number header =
    count ∙ ap (extension_length number) spelt ∙ length_of_front number header behind (omega arith) in
    elim (cases_eq number 44) [
      | inl fragment ↦ elim (cases_eq (fragment_offset header) 0) [
        | inl first ↦ Skips_it header behind spelt (record { known = known; whole = own; first_fragment = λ _. first })
        | inr later ↦ Later_it header behind fragment spelt (count ∙ cond-true (number == 44) 8 _ (eq-eqb number 44 fragment)) later
      ]
      | inr other ↦ Skips_it header behind spelt (record { known = known; whole = own; first_fragment = λ fragment. absurd (other fragment) })
    ]

past_extension : (n number : ℕ) (bytes : List ℕ) → ((next : ℕ) (behind : List ℕ) → Walked n next behind) → Extension number bytes → Walked (suc n) number bytes
past_extension n number bytes rest (Skips_it header behind spelt one) =
    subst (λ (b : List ℕ). Walked (suc n) number b) (sym spelt) (longer n number header behind one (rest (slice_index header 0) behind))
past_extension n number bytes rest (Later_it header behind fragment spelt size later) =
    Meets [] header behind spelt (omega arith) fragment size later

walked : (n number : ℕ) (bytes : List ℕ) → Walked n number bytes
walked zero number bytes =
    elim (cases_Bool (is_extension number)) [
      | inl known ↦ Fails [] number bytes refl (lit≤ tt) refl known (inl refl)
      | inr last ↦ Arrives [] number bytes refl (lit≤ tt) refl last
    ]
walked (suc n) number bytes =
    elim (cases_Bool (is_extension number)) [
      | inl known ↦ elim (cases_lt (length bytes) (extension_length number bytes)) [
        | inl cut ↦ Fails [] number bytes refl (omega arith) refl known (inr cut)
        | inr whole ↦ past_extension n number bytes (λ next behind. walked n next behind) (extension number bytes whole known)
      ]
      | inr last ↦ Arrives [] number bytes refl (omega arith) refl last
    ]

abbrev read : List ℕ → Upper → IpPacketFacts
read bytes upper = record { family = V6; source = source bytes; dest = dest bytes; upper = upper }

-- what the skipped headers and the rest make up
region : (packet : List ℕ) (skipped : List (List ℕ)) (next : ℕ) (rest : List ℕ) → Skips packet skipped next rest → after_header packet ≡ concat skipped ++ rest
region packet skipped next rest h =
    ap (take (extent (payload_length packet) (length packet - 40))) (ap (drop 40) h.spelt ∙ drop_at h.header ((concat skipped ++ rest) ++ h.trailer) 40 h.header_end)
    ∙ take_at (concat skipped ++ rest) h.trailer (extent (payload_length packet) (length packet - 40)) h.packet_end

long_enough : (packet : List ℕ) (skipped : List (List ℕ)) (next : ℕ) (rest : List ℕ) → Skips packet skipped next rest → 40 ≤ length packet
long_enough packet skipped next rest h = rw h.spelt (simp length-append (omega (arith, h.header_end)))

skips : (packet : List ℕ) (skipped : List (List ℕ)) (next : ℕ) (rest : List ℕ) → 40 ≤ length packet → after_header packet ≡ concat skipped ++ rest
    → length skipped ≤ 8 → IsChain (next_header packet) skipped next → Skips packet skipped next rest
skips packet skipped next rest long spelt few chain =
    let size : ℕ = extent (payload_length packet) (length packet - 40) in
    let within : size ≤ length packet - 40 = extent_within (payload_length packet) (length packet - 40) in
    record {
      header = take 40 packet;
      trailer = drop size (drop 40 packet);
      spelt = sym (ap (λ (b : List ℕ). take 40 packet ++ (b ++ drop size (drop 40 packet))) (sym spelt)
          ∙ ap (λ (b : List ℕ). take 40 packet ++ b) (take-append-drop size (drop 40 packet)) ∙ take-append-drop 40 packet);
      header_end = length-take-le 40 packet long;
      packet_end = ap length (sym spelt) ∙ length-take-le size (drop 40 packet) (simp length-drop within);
      chain = chain;
      at_most_eight = few;
    }

is_read : (bytes : List ℕ) → 40 ≤ length bytes → version bytes ≡ 6 → packet_of_v6 bytes ≡ option_map (read bytes) (walk 8 (next_header bytes) (after_header bytes))
is_read bytes long six = cond-false (is_malformed_v6 bytes) _ _ (grind (arith, nat_tests))

pub carries_only : (bytes : List ℕ) (upper : Upper) → Carries bytes upper → packet_of_v6 bytes ≡ Some (read bytes upper)
carries_only bytes (LaterFragment proto) (six, skipped, header, rest, h, few, size, later, is) =
    is_read bytes (long_enough bytes skipped 44 (header ++ rest) h) six
    ∙ ap (option_map (read bytes)) (ap (walk 8 (next_header bytes)) (region bytes skipped 44 (header ++ rest) h)
    ∙ walk_later skipped 8 (next_header bytes) header rest few h.chain size later ∙ ap (λ (n : ℕ). Some (LaterFragment n)) (sym is))
carries_only bytes (Payload proto payload) (six, skipped, h, last) =
    is_read bytes (long_enough bytes skipped proto payload h) six
    ∙ ap (option_map (read bytes)) (ap (walk 8 (next_header bytes)) (region bytes skipped proto payload h)
    ∙ walk_first skipped 8 (next_header bytes) proto payload h.at_most_eight h.chain last)

malformed_chain : (bytes : List ℕ) (skipped : List (List ℕ)) (next : ℕ) (rest : List ℕ) → Skips bytes skipped next rest → is_extension next ≡ true
    → (length skipped ≡ 8) ⊎ (length rest < extension_length next rest) → version bytes ≡ 6 → packet_of_v6 bytes ≡ None
malformed_chain bytes skipped next rest h known fault six =
    is_read bytes (long_enough bytes skipped next rest h) six
    ∙ ap (option_map (read bytes)) (ap (walk 8 (next_header bytes)) (region bytes skipped next rest h)
    ∙ walk_fails skipped 8 (next_header bytes) next rest h.at_most_eight h.chain known fault)

pub malformed_only : (bytes : List ℕ) → IsMalformed bytes → packet_of_v6 bytes ≡ None
malformed_only bytes (inl short) = cond-true (is_malformed_v6 bytes) _ _ (grind (arith, nat_tests))
malformed_only bytes (inr (inl other)) = cond-true (is_malformed_v6 bytes) _ _ (grind (arith, nat_tests))
malformed_only bytes (inr (inr (skipped, next, rest, h, known, fault))) =
    elim (cases_eq (version bytes) 6) [
      | inl six ↦ malformed_chain bytes skipped next rest h known fault six
      | inr other ↦ cond-true (is_malformed_v6 bytes) _ _ (grind (arith, nat_tests))
    ]

-- every packet is one or the other
pub data Reading (bytes : List ℕ) : Type 0 where
  Right : (upper : Upper) → Carries bytes upper → packet_of_v6 bytes ≡ Some (read bytes upper) → Reading bytes
  Wrong : IsMalformed bytes → packet_of_v6 bytes ≡ None → Reading bytes

right : (bytes : List ℕ) (upper : Upper) → Carries bytes upper → Reading bytes
right bytes upper h = Right upper h (carries_only bytes upper h)

wrong : (bytes : List ℕ) → IsMalformed bytes → Reading bytes
wrong bytes h = Wrong h (malformed_only bytes h)

by_walk : (bytes : List ℕ) → 40 ≤ length bytes → version bytes ≡ 6 → Walked 8 (next_header bytes) (after_header bytes) → Reading bytes
by_walk bytes long six (Arrives skipped next rest spelt few chain last) =
    right bytes (Payload next rest) (six, skipped, skips bytes skipped next rest long spelt few chain, last)
by_walk bytes long six (Meets skipped header rest spelt few chain size later) =
    right bytes (LaterFragment (slice_index header 0))
    (six, skipped, header, rest, skips bytes skipped 44 (header ++ rest) long spelt (omega arith) chain, few, size, later, refl)
by_walk bytes long six (Fails skipped next rest spelt few chain known fault) =
    wrong bytes (inr (inr (skipped, next, rest, skips bytes skipped next rest long spelt few chain, known, fault)))

pub cases : (bytes : List ℕ) → Reading bytes
cases bytes =
    elim (cases_lt (length bytes) 40) [
      | inl short ↦ wrong bytes (inl short)
      | inr long ↦ elim (cases_eq (version bytes) 6) [
        | inl six ↦ by_walk bytes long six (walked 8 (next_header bytes) (after_header bytes))
        | inr other ↦ wrong bytes (inr (inl other))
      ]
    ]
