-- Packets that are taken one after another, or put into places and taken from there.
use Rattle.std.proofs.Common.{◌≡◌, ◌∙◌, ◌<◌, ◌≤◌, ◌+◌, ◌-◌, ◌++◌, ℕ, zero, suc, List, [], ◌∷◌, Option, Some, None, add-one, append_assoc, ap, ap₂, arith, refl}
use Rattle.std.proofs.Common.{drop, length, map, slice_index_or, slice_set, sym, take}
use Rattle.std.proofs.Math.Seq.{take-append_seam}
use Rattle.std.proofs.lemmas.List.{drop-take, drop_all, drop_more, get_or-take, length-drop, length-map, length-take-le, map-append}
use Rattle.std.proofs.lemmas.List.{take-append-drop, take_at, take_more_set, take_rest}
use Rattle.packet_view.specs.declared.packet.Packet.{Packet}
use Rattle.packet_view.specs.Captures.{PacketFacts, Takes, packet_facts}

-- ---- What is left behind packets that were taken

left_behind_next : {X : Type 0} (xs ys : List X) (at : ℕ) (x : X) → drop at xs ≡ x ∷ ys → drop (suc at) xs ≡ ys
left_behind_next [] ys zero x e = absurd (let f : ⊥ = cc in f)
left_behind_next [] ys (suc at) x e = absurd (let f : ⊥ = cc in f)
left_behind_next (y ∷ xs) ys zero x e = cc
left_behind_next (y ∷ xs) ys (suc at) x e = left_behind_next xs ys at x e

pub left_behind : {X : Type 0} (xs ys : List X) (at : ℕ) (x : X) → drop at xs ≡ x ∷ ys → drop (at + 1) xs ≡ ys
left_behind xs ys at x e = ap (λ k. drop k xs) (add-one at) ∙ left_behind_next xs ys at x e

nothing_left : {X : Type 0} (xs : List X) (at : ℕ) → drop at xs ≡ [] → drop (suc at) xs ≡ []
nothing_left [] zero none = refl
nothing_left [] (suc at) none = refl
nothing_left (x ∷ xs) zero none = absurd (let f : ⊥ = cc in f)
nothing_left (x ∷ xs) (suc at) none = nothing_left xs at none

-- one packet more is taken, or none is left
pub one_less : (packets before after : List PacketFacts) (at : ℕ) (taken : Option Packet) → before ≡ drop at packets
    → Takes before taken after → after ≡ drop (at + 1) packets
one_less packets before after at None is takes =
    takes.1 ∙ sym (ap (λ k. drop k packets) (add-one at) ∙ nothing_left packets at (sym is ∙ takes.0))
one_less packets before after at (Some packet) is takes =
    sym (left_behind packets after at (packet_facts packet) (sym is ∙ takes))

-- where none is left behind some, none is left behind more
pub none_behind : {X : Type 0} (xs : List X) (at count : ℕ) → drop at xs ≡ [] → at ≤ count → drop count xs ≡ []
none_behind xs at count none past =
    let size = length-drop at xs in
    let empty = ap length none in
    drop_all count xs (omega arith)

-- ---- Places

-- the packet at the front of those that are left is put behind those that were found
pub found_more : (found : List Packet) (count : ℕ) (packet : Packet) (left others all : List PacketFacts)
    → count < length found → map packet_facts (take count found) ++ left ≡ all → left ≡ packet_facts packet ∷ others
    → map packet_facts (take (count + 1) (slice_set found count packet)) ++ others ≡ all
found_more found count packet left others all room so_far front =
    ap (λ (ps : List Packet). map packet_facts ps ++ others) (take_more_set found count packet room)
    ∙ ap (λ (ps : List PacketFacts). ps ++ others) (map-append packet_facts (take count found) (packet ∷ []))
    ∙ append_assoc (map packet_facts (take count found)) (packet_facts packet ∷ []) others
    ∙ ap (λ (ps : List PacketFacts). map packet_facts (take count found) ++ ps) (sym front)
    ∙ so_far

-- where none was put and none is left, none was given
pub found_none : (found : List Packet) (count : ℕ) (left all : List PacketFacts) → count ≡ 0
    → map packet_facts (take count found) ++ left ≡ all → left ≡ [] → all ≡ []
found_none found count left all none so_far empty =
    sym so_far ∙ ap (λ n. map packet_facts (take n found) ++ left) none ∙ empty

-- so many packets of a list are copied, and the others are left
pub found_listed : (count : ℕ) (listed copied behind : List Packet) → count ≤ length listed → copied ≡ take count listed
    → map packet_facts (take count (copied ++ behind))
    ++ map packet_facts (take (length listed - count) (drop count listed))
    ≡ map packet_facts listed
found_listed count listed copied behind fits copy =
    let size : length copied ≡ count = ap length copy ∙ length-take-le count listed fits in
    ap₂ (λ (ps qs : List Packet). map packet_facts ps ++ map packet_facts qs)
    (take_at copied behind count size ∙ copy) (take_rest listed count)
    ∙ sym (map-append packet_facts (take count listed) (drop count listed))
    ∙ ap (map packet_facts) (take-append-drop count listed)

-- the packet at a place is the first of those from there on
pub found_at : (found : List Packet) (at end : ℕ) (unused : Packet) (left : List PacketFacts)
    → at < end → end ≤ length found → map packet_facts (drop at (take end found)) ++ left
    ≡ packet_facts (slice_index_or found at unused) ∷ (map packet_facts (drop (at + 1) (take end found)) ++ left)
found_at found at end unused left more fits =
    let size = length-take-le end found fits in
    ap (λ (ps : List Packet). map packet_facts ps ++ left) (drop_more (take end found) at unused (omega arith))
    ∙ ap (λ (p : Packet). packet_facts p ∷ (map packet_facts (drop (at + 1) (take end found)) ++ left))
    (get_or-take end found at unused more)

-- the packets that were found and are not yet taken, in front of those that are left
pub found_front : (found : List Packet) (at end : ℕ) (rest : List PacketFacts) → at ≤ end → end ≤ length found
    → map packet_facts (take (end - at) (drop at found)) ≡ take (end - at) (map packet_facts (drop at (take end found)) ++ rest)
found_front found at end rest order inside =
    let e : at + (end - at) ≡ end = omega arith in
    let same : drop at (take end found) ≡ take (end - at) (drop at found) =
    ap (λ n. drop at (take n found)) (sym e) ∙ drop-take at (end - at) found in
    let size : length (map packet_facts (take (end - at) (drop at found))) ≡ end - at =
    length-map (take (end - at) (drop at found)) packet_facts
    ∙ length-take-le (end - at) (drop at found) (let d = length-drop at found in omega arith) in
    sym (ap (λ xs. take (end - at) (map packet_facts xs ++ rest)) same
    ∙ ap (λ n. take n (map packet_facts (take (end - at) (drop at found)) ++ rest)) (sym size)
    ∙ take-append_seam (map packet_facts (take (end - at) (drop at found))) rest)
