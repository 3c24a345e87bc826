-- A frame that passes the tests for a plain one is a packet of TCP or UDP whose numbers stand at fixed places.
use Rattle.std.proofs.Common.{◌≡◌, ◌⊎◌, ◌∙◌, ◌≤◌, ◌<◌, ◌+◌, ◌*◌, ◌-◌, ◌/◌, ◌%◌, ℕ, List, ◌++◌, length, take, drop, get_or, Some, refl, sym, ap, ap₂, subst, inl, inr, arith}
use Rattle.std.specs.List.{slice_index, slice_range}
use Rattle.std.proofs.lemmas.Bool.{cond-false, le-ltb}
use Rattle.std.proofs.lemmas.Bool.Decides.{nat_tests}
use Rattle.std.proofs.lemmas.List.{drop-drop, drop_at, get_or-append-add, get_or-drop, get_or_append_left, length-drop, take_rest}
use Rattle.std.specs.Option.{option_and_then}
use Rattle.byteorder.specs.Endian.{big_number}
use Rattle.packet_view.specs.declared.tuple.Direction.{Direction}
use Rattle.packet_view.specs.declared.tuple.Family.TheVariants.{V4}
use Rattle.packet_view.specs.declared.tuple.Fields.{Fields}
use Rattle.packet_view.specs.declared.tuple.Fields.TheVariants.{Absent, Icmp, Ports, Tcp}
use Rattle.packet_view.specs.declared.plain_packet.PlainPacket.{PlainPacket}
use Rattle.packet_view.specs.Bytes.{number_from}
use Rattle.packet_view.specs.Frames.{FrameFacts, Ip, IsFrame}
use Rattle.packet_view.specs.Interfaces.{Interface}
use Rattle.packet_view.specs.Ipv4.{Carries, HasIpv4Header, HasPayload, header_length, protocol, total_length}
use Rattle.packet_view.specs.Ipv4 as header
use Rattle.packet_view.specs.IpPackets.{Payload, extent}
use Rattle.packet_view.specs.PlainFrames.{ArePortsOf, IsPlain, IsTupleOf}
use Rattle.packet_view.specs.Transport.{HasFields}
use Rattle.packet_view.specs.Tuples.{TupleFacts}
use Rattle.packet_view.specs.inner.FrameSteps.{after_tag, content_of, direction_of, view_of, view_of_content, view_of_packet, way_of, with_fields}
use Rattle.packet_view.proofs.FrameLemmas.{read, tuple_view, view_shown}
use Rattle.packet_view.proofs.Ipv4Lemmas.{carries_only, payload_shown, total_cases}
use Rattle.packet_view.proofs.IpPacketLemmas.{number_from-append}
use Rattle.packet_view.proofs.TransportLemmas.{fields_only}

-- the number that is read from this place of a frame on
abbrev number_at : ℕ → ℕ → List ℕ → ℕ
number_at place width frame = big_number width (take (length frame - place) (drop place frame))

-- how much of the frame's packet belongs to it
abbrev pub end_of : List ℕ → ℕ
end_of frame = extent (number_at 16 2 frame) (length frame - 14)

-- the tests of a plain frame, and the numbers that are read of it
pub record IsRead (frame : List ℕ) (packet : PlainPacket) : Type 0 where
  pub long : 38 ≤ length frame
  pub kind : number_at 12 2 frame ≡ 0x0800
  pub first : slice_index frame 14 ≡ 0x45
  pub offset : number_at 20 2 frame % 8192 ≡ 0
  pub fields : ((packet.proto ≡ 6) × (34 ≤ end_of frame) × (packet.flags ≡ slice_index frame 47))
      ⊎ ((packet.proto ≡ 17) × (24 ≤ end_of frame) × (packet.flags ≡ 0))
  pub source : packet.source ≡ number_at 26 4 frame
  pub dest : packet.dest ≡ number_at 30 4 frame
  pub from : packet.from ≡ number_at 34 2 frame
  pub to : packet.to ≡ number_at 36 2 frame
  pub proto : packet.proto ≡ slice_index frame 23

in_frame : (frame : List ℕ) (place width : ℕ) → number_at place width frame ≡ number_from place width frame
in_frame frame place width = ap (big_number width) (take_rest frame place)

-- a number of the packet stands in the frame behind its header
in_packet : (frame : List ℕ) (place width : ℕ)
    → number_at (14 + place) width frame ≡ number_from place width (drop 14 frame)
in_packet frame place width = in_frame frame (14 + place) width ∙ ap (big_number width) (sym (drop-drop place 14 frame))

-- a number of the payload stands in the packet behind its header
in_payload : (bytes payload : List ℕ) → HasPayload bytes payload → (place width : ℕ) → place + width ≤ length payload
    → number_from place width payload ≡ number_from (header_length bytes + place) width bytes
in_payload bytes payload h place width fits =
    let behind : drop (header_length bytes) bytes ≡ payload ++ h.trailer =
    ap (drop (header_length bytes)) h.spelt
    ∙ drop_at h.header (payload ++ h.trailer) (header_length bytes) h.header_end in
    sym (number_from-append place width payload h.trailer fits)
    ∙ ap (number_from place width) (sym behind) ∙ ap (big_number width) (drop-drop place (header_length bytes) bytes)

-- so does a byte of it
byte_in_payload : (bytes payload : List ℕ) → HasPayload bytes payload → (place : ℕ) → place < length payload
    → slice_index payload place ≡ slice_index bytes (header_length bytes + place)
byte_in_payload bytes payload h place inside =
    sym (ap (λ bs. get_or bs (header_length bytes + place) 0) h.spelt
    ∙ ap (λ n. get_or (h.header ++ (payload ++ h.trailer)) (n + place) 0) (sym h.header_end)
    ∙ get_or-append-add h.header (payload ++ h.trailer) place 0
    ∙ get_or_append_left payload h.trailer 0 place inside)

-- the content of an untagged frame
untagged : (frame : List ℕ) → 14 ≤ length frame → number_from 12 2 frame ≡ 0x0800
    → content_of frame ≡ Some (0x0800, drop 14 frame)
untagged frame long kind =
    cond-false _ _ _ (le-ltb (length frame) 14 long)
    ∙ ap (λ n. option_and_then (λ (c : ℕ × List ℕ). after_tag c.0 c.1) (after_tag n (drop 14 frame))) kind

-- the five-tuple of an IPv4 packet
abbrev tuple_of : ℕ → List ℕ → ℕ → Fields → TupleFacts
tuple_of number bytes proto fields =
    record { interface = number; family = V4; source = header.source bytes; dest = header.dest bytes; proto = proto; fields = fields }

-- an untagged frame of IPv4 is its packet
carried : (frame : List ℕ) (at : Interface) (proto : ℕ) (payload : List ℕ) (fields : Fields)
    → content_of frame ≡ Some (0x0800, drop 14 frame) → Carries (drop 14 frame) (Payload proto payload)
    → HasFields V4 proto payload fields
    → IsFrame frame at (Ip (direction_of frame at.own) (tuple_of at.number (drop 14 frame) proto fields))
carried frame at proto payload fields content carries has =
    let way = way_of frame at in
    let upper = Payload proto payload in
    subst (λ (view : FrameFacts). IsFrame frame at view)
    (ap (view_of_content frame at) content ∙ ap (view_of_packet way) (carries_only (drop 14 frame) upper carries)
    ∙ ap (with_fields way (read V4 (drop 14 frame) upper) proto) (fields_only V4 proto payload fields has))
    (view_shown frame at)

-- a total length up to which the header is there
holds_header : (total there : ℕ) → 20 ≤ extent total there → (total ≡ 0) ⊎ (20 ≤ total)
holds_header total there enough = elim (total_cases total 20) [
  | inl (some, less) ↦ absurd (grind (arith, nat_tests))
  | inr holds ↦ holds
]

-- the packet of an untagged frame, and its payload
abbrev bytes_of : List ℕ → List ℕ
bytes_of frame = drop 14 frame

abbrev payload_of : List ℕ → List ℕ
payload_of bytes = slice_range bytes (header_length bytes) (extent (total_length bytes) (length bytes))

module _ (frame : List ℕ) (packet : PlainPacket) (h : IsRead frame packet) where
  first_byte : slice_index (bytes_of frame) 0 ≡ 0x45
  first_byte = get_or-drop 14 frame 0 0 ∙ h.first

  header_is : header_length (bytes_of frame) ≡ 20
  header_is = ap (λ (b : ℕ). b % 16 * 4) first_byte

  size_is : length (bytes_of frame) ≡ length frame - 14
  size_is = length-drop 14 frame

  total_is : total_length (bytes_of frame) ≡ number_at 16 2 frame
  total_is = sym (in_packet frame 2 2)

  end_is : extent (total_length (bytes_of frame)) (length (bytes_of frame)) ≡ end_of frame
  end_is = ap₂ extent total_is size_is

  enough : 24 ≤ end_of frame
  enough = elim h.fields [
    | inl (tcp, long, _) ↦ omega arith
    | inr (udp, long, _) ↦ long
  ]

  right : HasIpv4Header (bytes_of frame)
  right =
      let size = size_is in
      let twenty = header_is in
      let long = h.long in
      let total = total_length (bytes_of frame) in
      let holds : 20 ≤ extent total (length (bytes_of frame)) = omega (arith, end_is, enough) in
      record {
        least = omega arith;
        four = ap (λ (b : ℕ). b / 16) first_byte;
        five_words = omega arith;
        whole = omega arith;
        holds_header = subst (λ (n : ℕ). (total ≡ 0) ⊎ (n ≤ total)) (sym header_is)
            (holds_header total (length (bytes_of frame)) holds);
      }

  shown : HasPayload (bytes_of frame) (payload_of (bytes_of frame))
  shown = payload_shown (bytes_of frame) right

  payload_size : 20 + length (payload_of (bytes_of frame)) ≡ end_of frame
  payload_size = omega (arith, shown.header_end, shown.packet_end, header_is, end_is)

  carries : Carries (bytes_of frame) (Payload (protocol (bytes_of frame)) (payload_of (bytes_of frame)))
  carries = (right, ap (λ (n : ℕ). n % 8192) (sym (in_packet frame 6 2)) ∙ h.offset, refl, shown)

  proto_is : packet.proto ≡ protocol (bytes_of frame)
  proto_is = h.proto ∙ sym (get_or-drop 14 frame 9 0)

  from_is : packet.from ≡ number_from 0 2 (payload_of (bytes_of frame))
  from_is =
      let fits : 0 + 2 ≤ length (payload_of (bytes_of frame)) = omega (arith, payload_size, enough) in
      h.from ∙ in_packet frame 20 2
      ∙ sym (in_payload (bytes_of frame) _ shown 0 2 fits
      ∙ ap (λ (n : ℕ). number_from (n + 0) 2 (bytes_of frame)) header_is)

  to_is : packet.to ≡ number_from 2 2 (payload_of (bytes_of frame))
  to_is =
      let fits : 2 + 2 ≤ length (payload_of (bytes_of frame)) = omega (arith, payload_size, enough) in
      h.to ∙ in_packet frame 22 2
      ∙ sym (in_payload (bytes_of frame) _ shown 2 2 fits
      ∙ ap (λ (n : ℕ). number_from (n + 2) 2 (bytes_of frame)) header_is)

  flags_is : 14 ≤ length (payload_of (bytes_of frame)) → packet.flags ≡ slice_index frame 47
      → slice_index (payload_of (bytes_of frame)) 13 ≡ packet.flags
  flags_is enough_of_tcp flags =
      byte_in_payload (bytes_of frame) _ shown 13 (omega arith)
      ∙ ap (λ (n : ℕ). slice_index (bytes_of frame) (n + 13)) header_is
      ∙ get_or-drop 14 frame 33 0 ∙ sym flags

  of_fields : (at : Interface) (fields : Fields)
      → HasFields V4 (protocol (bytes_of frame)) (payload_of (bytes_of frame)) fields → ArePortsOf packet fields
      → (way : Direction) × (tuple : TupleFacts) × IsFrame frame at (Ip way tuple) × IsTupleOf packet tuple
  of_fields at fields has ports =
      let content = untagged frame (omega (arith, h.long)) (sym (in_frame frame 12 2) ∙ h.kind) in (
        direction_of frame at.own,
        tuple_of at.number (bytes_of frame) (protocol (bytes_of frame)) fields,
        carried frame at (protocol (bytes_of frame)) (payload_of (bytes_of frame)) fields content carries has,
        record {
          family = refl;
          source = sym (h.source ∙ in_packet frame 12 4);
          dest = sym (h.dest ∙ in_packet frame 16 4);
          proto = sym proto_is;
          ports = ports;
        },
      )

  pub is_plain : IsPlain frame packet
  is_plain = λ at. elim h.fields [
    | inl (tcp, long, flags) ↦
        let enough_of_tcp : 14 ≤ length (payload_of (bytes_of frame)) = omega (arith, payload_size, long) in
        of_fields at (Tcp packet.from packet.to (slice_index (payload_of (bytes_of frame)) 13))
        (sym proto_is ∙ tcp, enough_of_tcp, from_is, to_is, refl) (tcp, refl, refl, flags_is enough_of_tcp flags)
    | inr (udp, long, none) ↦
        let enough_of_udp : 4 ≤ length (payload_of (bytes_of frame)) = omega (arith, payload_size, long) in
        of_fields at (Ports packet.from packet.to)
        (sym proto_is ∙ udp, enough_of_udp, from_is, to_is) (udp, refl, refl, none)
  ]

fields_one : (packet : PlainPacket) (fields others : Fields) → ArePortsOf packet fields → ArePortsOf packet others
    → fields ≡ others
fields_one packet Absent others is are = absurd is
fields_one packet (Icmp kind code) others is are = absurd is
fields_one packet (Ports from to) Absent is are = absurd are
fields_one packet (Ports from to) (Icmp kind code) is are = absurd are
fields_one packet (Ports from to) (Ports first last) (_, a, b, _) (_, c, d, _) =
    ap₂ Ports (a ∙ sym c) (b ∙ sym d)
fields_one packet (Ports from to) (Tcp first last flags) (udp, _, _, _) (tcp, _, _, _) = absurd (omega arith)
fields_one packet (Tcp from to flags) Absent is are = absurd are
fields_one packet (Tcp from to flags) (Icmp kind code) is are = absurd are
fields_one packet (Tcp from to flags) (Ports first last) (tcp, _, _, _) (udp, _, _, _) = absurd (omega arith)
fields_one packet (Tcp from to flags) (Tcp first last more) (_, a, b, c) (_, d, e, f) =
    let one : ◌≡◌ {A = Fields} (Tcp from to flags) (Tcp first last more) = cc in
    one

-- a plain packet says one five-tuple at one interface
tuple_one : (packet : PlainPacket) (tuple other : TupleFacts) → tuple.interface ≡ other.interface
    → IsTupleOf packet tuple → IsTupleOf packet other → tuple ≡ other
tuple_one packet tuple other interface is are =
    let fields = fields_one packet tuple.fields other.fields is.ports are.ports in
    let family = is.family ∙ sym are.family in
    let source = is.source ∙ sym are.source in
    let dest = is.dest ∙ sym are.dest in
    let proto = is.proto ∙ sym are.proto in
    let parts : ◌≡◌ {A = TupleFacts}
    (record { interface = tuple.interface; family = tuple.family; source = tuple.source; dest = tuple.dest; proto = tuple.proto; fields = tuple.fields })
    (record { interface = other.interface; family = other.family; source = other.source; dest = other.dest; proto = other.proto; fields = other.fields }) =
    cc in
    parts

-- so it is what the frame turns out to be
pub plain_view : (frame : List ℕ) (at : Interface) (packet : PlainPacket) (tuple : TupleFacts) → IsPlain frame packet
    → tuple.interface ≡ at.number → IsTupleOf packet tuple → view_of frame at ≡ Ip (direction_of frame at.own) tuple
plain_view frame at packet tuple plain number is =
    let (way, other, (source, bytes, ethernet, goes, of), are) = plain at in
    tuple_view frame source at bytes other ethernet of
    ∙ ap (Ip (direction_of frame at.own)) (tuple_one packet other tuple (of.0 ∙ sym number) are is)
