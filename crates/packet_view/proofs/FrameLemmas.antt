-- A frame is what the code finds it to be, and nothing else.
use Rattle.std.proofs.Common.{◌≡◌, ◌∙◌, ℕ, ◌==◌, List, Option, Some, None, refl, sym, ap, subst, inl, inr}
use Rattle.std.specs.List.{slice_range}
use Rattle.std.specs.Str.{bytes_eq}
use Rattle.std.proofs.lemmas.Bool.{cond-true, cond-false, cond_both, ne_eqb, cases_eq, both_ways, false_from_ne_true}
use Rattle.std.proofs.lemmas.Option.{same_Some}
use Rattle.std.proofs.lemmas.Slice.Eq.{bytes_eq-Decides}
use Rattle.packet_view.specs.declared.tuple.Direction.{Direction}
use Rattle.packet_view.specs.declared.tuple.Direction.TheVariants.{Inbound, Outbound}
use Rattle.packet_view.specs.declared.tuple.Family.{Family}
use Rattle.packet_view.specs.declared.tuple.Family.TheVariants.{V4, V6}
use Rattle.packet_view.specs.declared.tuple.Fields.{Fields}
use Rattle.packet_view.specs.declared.tuple.Fields.TheVariants.{Absent}
use Rattle.packet_view.specs.declared.tuple.Mac.{Mac}
use Rattle.packet_view.specs.Ethernet.{IsEthernet}
use Rattle.packet_view.specs.Frames.{Carries, HasDirection, Ip, IsFrame, IsMalformed, IsTuple, Malformed, NotIp, Short, FrameFacts, dest_of, ether_type, source_of}
use Rattle.packet_view.specs.Interfaces.{Interface}
use Rattle.packet_view.specs.inner.FrameSteps.{IpPacketFacts, direction_of, fields_of, packet_of_v4, packet_of_v6, view_of, view_of_content, view_of_packet, view_of_upper, way_of, with_fields}
use Rattle.packet_view.specs.IpPackets.{Payload, LaterFragment, Upper}
use Rattle.packet_view.specs.Tuples.{TupleFacts}
use Rattle.packet_view.proofs.EthernetLemmas as ethernet
use Rattle.packet_view.proofs.Ipv4Lemmas as ipv4
use Rattle.packet_view.proofs.Ipv6Lemmas as ipv6
use Rattle.packet_view.proofs.TransportLemmas as transport

-- the source address that a frame has
abbrev source : List ℕ → List ℕ
source frame = slice_range frame 6 12

own_source : (frame : List ℕ) (mac : Mac) → ◌≡◌ {A = Option Mac} (Some mac) (Some (record { 0 = source frame })) → source frame ≡ mac.0
own_source frame mac h = ap (λ (m : Mac). m.0) (sym (same_Some mac (record { 0 = source frame }) h))

direction_shown : (frame : List ℕ) (own : Option Mac) → HasDirection (source frame) own (direction_of frame own)
direction_shown frame None = λ e. cc
direction_shown frame (Some mac) =
    let decides = bytes_eq-Decides (source frame) mac.0 in
    cond_both (bytes_eq (source frame) mac.0) _ _ (HasDirection (source frame) (Some mac))
    (λ same. ap (λ (address : List ℕ). Some (record { 0 = address })) (sym (decides.0 same)))
    (λ differ own_is. both_ways _ differ (decides.1 (own_source frame mac own_is)))

direction_only : (frame : List ℕ) (own : Option Mac) (direction : Direction) → HasDirection (source frame) own direction → direction_of frame own ≡ direction
direction_only frame None Inbound h = refl
direction_only frame None Outbound h = cc
direction_only frame (Some mac) Inbound h =
    let decides = bytes_eq-Decides (source frame) mac.0 in
    cond-false _ _ _ (false_from_ne_true (bytes_eq (source frame) mac.0) (λ same. h (ap (λ (address : List ℕ). Some (record { 0 = address })) (sym (decides.0 same)))))
direction_only frame (Some mac) Outbound h =
    let decides = bytes_eq-Decides (source frame) mac.0 in
    cond-true _ _ _ (decides.1 (own_source frame mac h))

-- the packet under a family
abbrev pub packet_of : Family → List ℕ → Option IpPacketFacts
packet_of V4 bytes = packet_of_v4 bytes
packet_of V6 bytes = packet_of_v6 bytes

abbrev pub read : Family → List ℕ → Upper → IpPacketFacts
read family bytes upper = record { family = family; source = source_of family bytes; dest = dest_of family bytes; upper = upper }

carries_only : (family : Family) (bytes : List ℕ) (upper : Upper) → Carries family bytes upper → packet_of family bytes ≡ Some (read family bytes upper)
carries_only V4 bytes upper h = ipv4.carries_only bytes upper h
carries_only V6 bytes upper h = ipv6.carries_only bytes upper h

pub malformed_only : (family : Family) (bytes : List ℕ) → IsMalformed family bytes → packet_of family bytes ≡ None
malformed_only V4 bytes h = ipv4.malformed_only bytes h
malformed_only V6 bytes h = ipv6.malformed_only bytes h

pub data Reading (family : Family) (bytes : List ℕ) : Type 0 where
  Right : (upper : Upper) → Carries family bytes upper → packet_of family bytes ≡ Some (read family bytes upper) → Reading family bytes
  Wrong : IsMalformed family bytes → packet_of family bytes ≡ None → Reading family bytes

of_v4 : (bytes : List ℕ) → ipv4.Reading bytes → Reading V4 bytes
of_v4 bytes (ipv4.Right upper h e) = Right upper h e
of_v4 bytes (ipv4.Wrong h e) = Wrong h e

of_v6 : (bytes : List ℕ) → ipv6.Reading bytes → Reading V6 bytes
of_v6 bytes (ipv6.Right upper h e) = Right upper h e
of_v6 bytes (ipv6.Wrong h e) = Wrong h e

pub reading : (family : Family) (bytes : List ℕ) → Reading family bytes
reading V4 bytes = of_v4 bytes (ipv4.cases bytes)
reading V6 bytes = of_v6 bytes (ipv6.cases bytes)

-- a frame that carries the family
under_type : (family : Family) (frame : List ℕ) (at : Interface) (packet : List ℕ)
    → view_of_content frame at (Some (ether_type family, packet)) ≡ view_of_packet (way_of frame at) (packet_of family packet)
under_type V4 frame at packet = refl
under_type V6 frame at packet = refl

pub carried : (frame source : List ℕ) (at : Interface) (family : Family) (packet : List ℕ) → IsEthernet frame source (ether_type family) packet
    → view_of frame at ≡ view_of_packet (way_of frame at) (packet_of family packet)
carried frame source at family packet e =
    ap (view_of_content frame at) (ethernet.whole_only frame source (ether_type family) packet e).0 ∙ under_type family frame at packet

-- a right packet's view
pub right_view : (frame source : List ℕ) (at : Interface) (family : Family) (packet : List ℕ) (upper : Upper) → IsEthernet frame source (ether_type family) packet
    → Carries family packet upper → view_of frame at ≡ view_of_upper (way_of frame at) (read family packet upper) upper
right_view frame source at family packet upper e h =
    carried frame source at family packet e ∙ ap (view_of_packet (way_of frame at)) (carries_only family packet upper h)

-- a tuple by its parts
abbrev of_parts : TupleFacts → ℕ → ℕ → ℕ → Fields → TupleFacts
of_parts tuple number from to fields =
    record { interface = number; family = tuple.family; source = from; dest = to; proto = tuple.proto; fields = fields }

by_parts : (tuple : TupleFacts) (number from to : ℕ) (fields : Fields) → tuple.interface ≡ number → tuple.source ≡ from → tuple.dest ≡ to
    → tuple.fields ≡ fields → of_parts tuple number from to fields ≡ tuple
by_parts tuple number from to fields number_is source_is dest_is fields_is =
    let parts : of_parts tuple number from to fields ≡ of_parts tuple tuple.interface tuple.source tuple.dest tuple.fields = cc in
    parts

pub tuple_view : (frame source : List ℕ) (at : Interface) (packet : List ℕ) (tuple : TupleFacts) → IsEthernet frame source (ether_type tuple.family) packet → IsTuple at.number packet tuple
    → view_of frame at ≡ Ip (direction_of frame at.own) tuple
tuple_view frame source at packet tuple e (number_is, source_is, dest_is, inl (h, absent)) =
    right_view frame source at tuple.family packet (LaterFragment tuple.proto) e h
    ∙ ap (Ip (direction_of frame at.own)) (by_parts tuple at.number (source_of tuple.family packet) (dest_of tuple.family packet) Absent number_is source_is dest_is absent)
tuple_view frame source at packet tuple e (number_is, source_is, dest_is, inr (payload, h, fields)) =
    right_view frame source at tuple.family packet (Payload tuple.proto payload) e h
    ∙ ap (with_fields (way_of frame at) (read tuple.family packet (Payload tuple.proto payload)) tuple.proto) (transport.fields_only tuple.family tuple.proto payload tuple.fields fields)
    ∙ ap (Ip (direction_of frame at.own)) (by_parts tuple at.number (source_of tuple.family packet) (dest_of tuple.family packet) tuple.fields number_is source_is dest_is refl)

pub goes_in : (frame source : List ℕ) (at : Interface) (direction : Direction) (kind : ℕ) (content : List ℕ) → IsEthernet frame source kind content
    → HasDirection source at.own direction → direction_of frame at.own ≡ direction
goes_in frame source at direction kind content e h =
    let same = (ethernet.whole_only frame source kind content e).1 in
    direction_only frame at.own direction (subst (λ (address : List ℕ). HasDirection address at.own direction) (sym same) h)

-- every frame has a way
pub goes_of : (frame source : List ℕ) (at : Interface) (kind : ℕ) (content : List ℕ) → IsEthernet frame source kind content → HasDirection source at.own (direction_of frame at.own)
goes_of frame source at kind content e =
    let same = (ethernet.whole_only frame source kind content e).1 in
    subst (λ (address : List ℕ). HasDirection address at.own (direction_of frame at.own)) same (direction_shown frame at.own)

pub view_only : (frame : List ℕ) (at : Interface) (view : FrameFacts) → IsFrame frame at view → view ≡ view_of frame at
view_only frame at NotIp (source, kind, content, e, no_v4, no_v6) =
    sym (ap (view_of_content frame at) (ethernet.whole_only frame source kind content e).0
    ∙ cond-false (kind == 0x0800) _ _ (ne_eqb kind 0x0800 no_v4) ∙ cond-false (kind == 0x86dd) _ _ (ne_eqb kind 0x86dd no_v6))
view_only frame at Malformed (inl cut) = sym (ap (view_of_content frame at) (ethernet.cut_only frame cut))
view_only frame at Malformed (inr (source, family, packet, e, bad)) =
    sym (carried frame source at family packet e ∙ ap (view_of_packet (way_of frame at)) (malformed_only family packet bad))
view_only frame at Short (source, family, packet, e, proto, payload, h, short) =
    sym (right_view frame source at family packet (Payload proto payload) e h
    ∙ ap (with_fields (way_of frame at) (read family packet (Payload proto payload)) proto) (transport.short_only family proto payload short))
view_only frame at (Ip direction tuple) (source, packet, e, goes, is_tuple) =
    sym (tuple_view frame source at packet tuple e is_tuple ∙ ap (λ d. Ip d tuple) (goes_in frame source at direction (ether_type tuple.family) packet e goes))

-- the other way, over each layer's cases
shown_fields : (frame : List ℕ) (at : Interface) (family : Family) (packet : List ℕ) (proto : ℕ) (payload : List ℕ) → IsEthernet frame (source frame) (ether_type family) packet
    → Carries family packet (Payload proto payload) → transport.Reading family proto payload
    → IsFrame frame at (with_fields (way_of frame at) (read family packet (Payload proto payload)) proto (fields_of family proto payload))
shown_fields frame at family packet proto payload e h (transport.Has fields has is) =
    subst (λ (f : Option Fields). IsFrame frame at (with_fields (way_of frame at) (read family packet (Payload proto payload)) proto f)) (sym is)
    (source frame, packet, e, direction_shown frame at.own, (refl, refl, refl, inr (payload, h, has)))
shown_fields frame at family packet proto payload e h (transport.Short short is) =
    subst (λ (f : Option Fields). IsFrame frame at (with_fields (way_of frame at) (read family packet (Payload proto payload)) proto f)) (sym is)
    (source frame, family, packet, e, proto, payload, h, short)

shown_upper : (frame : List ℕ) (at : Interface) (family : Family) (packet : List ℕ) (upper : Upper) → IsEthernet frame (source frame) (ether_type family) packet
    → Carries family packet upper → IsFrame frame at (view_of_upper (way_of frame at) (read family packet upper) upper)
shown_upper frame at family packet (LaterFragment proto) e h = (source frame, packet, e, direction_shown frame at.own, (refl, refl, refl, inl (h, refl)))
shown_upper frame at family packet (Payload proto payload) e h =
    shown_fields frame at family packet proto payload e h (transport.cases family proto payload)

shown_packet : (frame : List ℕ) (at : Interface) (family : Family) (packet : List ℕ) → IsEthernet frame (source frame) (ether_type family) packet → Reading family packet
    → IsFrame frame at (view_of_packet (way_of frame at) (packet_of family packet))
shown_packet frame at family packet e (Right upper h is) =
    subst (λ (p : Option IpPacketFacts). IsFrame frame at (view_of_packet (way_of frame at) p)) (sym is) (shown_upper frame at family packet upper e h)
shown_packet frame at family packet e (Wrong bad is) =
    subst (λ (p : Option IpPacketFacts). IsFrame frame at (view_of_packet (way_of frame at) p)) (sym is) (inr (source frame, family, packet, e, bad))

shown_family : (frame : List ℕ) (at : Interface) (family : Family) (kind : ℕ) (content : List ℕ) → IsEthernet frame (source frame) kind content → kind ≡ ether_type family
    → IsFrame frame at (view_of_content frame at (Some (kind, content)))
shown_family frame at family kind content e is =
    let there : IsEthernet frame (source frame) (ether_type family) content = subst (λ (k : ℕ). IsEthernet frame (source frame) k content) is e in
    subst (λ (view : FrameFacts). IsFrame frame at view)
    (sym (ap (λ (k : ℕ). view_of_content frame at (Some (k, content))) is ∙ under_type family frame at content))
    (shown_packet frame at family content there (reading family content))

shown_content : (frame : List ℕ) (at : Interface) (kind : ℕ) (content : List ℕ) → IsEthernet frame (source frame) kind content
    → IsFrame frame at (view_of_content frame at (Some (kind, content)))
shown_content frame at kind content e =
    elim (cases_eq kind (ether_type V4)) [
      | inl v4 ↦ shown_family frame at V4 kind content e v4
      | inr no_v4 ↦ elim (cases_eq kind (ether_type V6)) [
        | inl v6 ↦ shown_family frame at V6 kind content e v6
        | inr no_v6 ↦ subst (λ (view : FrameFacts). IsFrame frame at view)
            (sym (cond-false (kind == 0x0800) _ _ (ne_eqb kind 0x0800 no_v4) ∙ cond-false (kind == 0x86dd) _ _ (ne_eqb kind 0x86dd no_v6)))
            (source frame, kind, content, e, no_v4, no_v6)
      ]
    ]

shown_frame : (frame : List ℕ) (at : Interface) → ethernet.Content frame → IsFrame frame at (view_of frame at)
shown_frame frame at (ethernet.IsWhole kind content e is) =
    subst (λ (c : Option (ℕ × List ℕ)). IsFrame frame at (view_of_content frame at c)) (sym is) (shown_content frame at kind content e)
shown_frame frame at (ethernet.Ends cut is) =
    subst (λ (c : Option (ℕ × List ℕ)). IsFrame frame at (view_of_content frame at c)) (sym is) (inl cut)

pub view_shown : (frame : List ℕ) (at : Interface) → IsFrame frame at (view_of frame at)
view_shown frame at = shown_frame frame at (ethernet.content_cases frame)
