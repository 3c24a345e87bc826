-- What each step of the code makes of the bytes, which `Frames` says whole. The two are proved to agree.
use Rattle.std.specs.Prelude.{ℕ, zero, suc, ◌-◌, Bool, not, ◌&&◌, ◌||◌, ◌==◌, nat_lt, if◌then◌else◌, List, length, take, drop, slice_index, slice_range, Option, Some, None, option_map, option_and_then}
use Rattle.std.specs.Borrow.{Bor}
use Rattle.std.specs.Str.{bytes_eq}
use Rattle.packet_view.specs.declared.tuple.Direction.{Direction}
use Rattle.packet_view.specs.declared.tuple.Direction.TheVariants.{Inbound, Outbound}
use Rattle.packet_view.specs.declared.tuple.Family.{Family}
use Rattle.packet_view.specs.declared.tuple.Family.TheVariants.{V4, V6}
use Rattle.packet_view.specs.declared.tuple.Fields.{Fields}
use Rattle.packet_view.specs.declared.tuple.Fields.TheVariants.{Absent, Ports, Tcp, Icmp}
use Rattle.packet_view.specs.declared.tuple.Mac.{Mac}
use Rattle.packet_view.specs.declared.ip_packet.Upper.{Upper}
use Rattle.packet_view.specs.declared.ip_packet.Upper.TheVariants as upper
use Rattle.packet_view.specs.declared.ip_packet.IpPacket.{IpPacket}
use Rattle.packet_view.specs.declared.ipv6.Header.{Header}
use Rattle.packet_view.specs.declared.ipv6.Header.TheVariants as header
use Rattle.packet_view.specs.Addresses.{icmp_of}
use Rattle.packet_view.specs.Bytes.{number_from}
use Rattle.packet_view.specs.Ethernet.{is_tag_type}
use Rattle.packet_view.specs.Frames.{FrameFacts, NotIp, Malformed, Short, Ip}
use Rattle.packet_view.specs.Interfaces.{Interface}
use Rattle.packet_view.specs.Ipv4 as ipv4
use Rattle.packet_view.specs.Ipv6 as ipv6
use Rattle.packet_view.specs.IpPackets as carried
use Rattle.packet_view.specs.IpPackets.{extent}

-- a type and the bytes under it, as values
abbrev pub contents : Option (ℕ × Bor (List ℕ)) → Option (ℕ × List ℕ)
contents found = option_map (λ c. (c.0, c.1.now)) found

-- after a tag, where one stands
abbrev pub after_tag : ℕ → List ℕ → Option (ℕ × List ℕ)
after_tag kind content =
    if is_tag_type kind then (if nat_lt (length content) 4 then None else Some (number_from 2 2 content, drop 4 content))
    else Some (kind, content)

abbrev pub content_of : List ℕ → Option (ℕ × List ℕ)
content_of frame =
    if nat_lt (length frame) 14 then None
    else option_and_then (λ c. after_tag c.0 c.1) (after_tag (number_from 12 2 frame) (drop 14 frame))

-- an `IpPacket` as a value
pub record IpPacketFacts : Type 0 where
  pub family : Family
  pub source : ℕ
  pub dest : ℕ
  pub upper : carried.Upper

abbrev pub upper_of : Upper → carried.Upper
upper_of (upper.LaterFragment proto) = carried.LaterFragment proto
upper_of (upper.Payload proto payload) = carried.Payload proto payload.now

abbrev pub uppers : Option Upper → Option carried.Upper
uppers found = option_map upper_of found

abbrev pub packets : Option IpPacket → Option IpPacketFacts
packets found = option_map (λ p. record { family = p.family; source = p.source; dest = p.dest; upper = upper_of p.upper }) found

-- the tests of an IPv4 header
abbrev pub is_malformed_v4 : List ℕ → Bool
is_malformed_v4 bytes =
    nat_lt (length bytes) 20 || not (ipv4.version bytes == 4) || nat_lt (ipv4.header_length bytes) 20
    || nat_lt (length bytes) (ipv4.header_length bytes)
    || (not (ipv4.total_length bytes == 0) && nat_lt (ipv4.total_length bytes) (ipv4.header_length bytes))

abbrev pub upper_of_v4 : List ℕ → carried.Upper
upper_of_v4 bytes =
    if ipv4.fragment_offset bytes == 0
    then carried.Payload (ipv4.protocol bytes) (slice_range bytes (ipv4.header_length bytes) (extent (ipv4.total_length bytes) (length bytes)))
    else carried.LaterFragment (ipv4.protocol bytes)

abbrev pub packet_of_v4 : List ℕ → Option IpPacketFacts
packet_of_v4 bytes =
    if is_malformed_v4 bytes then None
    else Some (record { family = V4; source = ipv4.source bytes; dest = ipv4.dest bytes; upper = upper_of_v4 bytes })

-- what stands under a number: a skipped header, or the end of the chain
pub data HeaderFacts : Type 0 where
  Skipped : ℕ → List ℕ → HeaderFacts
  Last : Option carried.Upper → HeaderFacts

abbrev pub header_facts : Header → HeaderFacts
header_facts (header.Skipped next bytes) = Skipped next bytes.now
header_facts (header.Last upper) = Last (uppers upper)

abbrev pub header_of : ℕ → List ℕ → HeaderFacts
header_of number bytes =
    if not (ipv6.is_extension number) then Last (Some (carried.Payload number bytes))
    else (if nat_lt (length bytes) (ipv6.extension_length number bytes) then Last None
    else (if (number == 44) && not (ipv6.fragment_offset bytes == 0) then Last (Some (carried.LaterFragment (slice_index bytes 0)))
    else Skipped (slice_index bytes 0) (drop (ipv6.extension_length number bytes) bytes)))

abbrev pub go_on : (ℕ → List ℕ → Option carried.Upper) → HeaderFacts → Option carried.Upper
go_on walk (Skipped next bytes) = walk next bytes
go_on walk (Last upper) = upper

-- one header after another, at most so many
unfoldable pub walk : ℕ → ℕ → List ℕ → Option carried.Upper
walk zero number bytes = if ipv6.is_extension number then None else Some (carried.Payload number bytes)
walk (suc n) number bytes = go_on (walk n) (header_of number bytes)

abbrev pub is_malformed_v6 : List ℕ → Bool
is_malformed_v6 bytes = nat_lt (length bytes) 40 || not (ipv6.version bytes == 6)

-- the bytes after the first forty, up to the packet's end
abbrev pub after_header : List ℕ → List ℕ
after_header bytes = take (extent (ipv6.payload_length bytes) (length bytes - 40)) (drop 40 bytes)

abbrev pub packet_of_v6 : List ℕ → Option IpPacketFacts
packet_of_v6 bytes =
    if is_malformed_v6 bytes then None
    else option_map (λ u. record { family = V6; source = ipv6.source bytes; dest = ipv6.dest bytes; upper = u })
    (walk 8 (ipv6.next_header bytes) (after_header bytes))

abbrev pub fields_of : Family → ℕ → List ℕ → Option Fields
fields_of family proto payload =
    if proto == 6
    then (if nat_lt (length payload) 14 then None
    else Some (Tcp (number_from 0 2 payload) (number_from 2 2 payload) (slice_index payload 13)))
    else (if proto == 17
    then (if nat_lt (length payload) 4 then None else Some (Ports (number_from 0 2 payload) (number_from 2 2 payload)))
    else (if proto == icmp_of family
    then (if nat_lt (length payload) 2 then None else Some (Icmp (slice_index payload 0) (slice_index payload 1)))
    else Some Absent))

-- which way a packet goes, at the interface with this number
pub record Way : Type 0 where
  pub number : ℕ
  pub direction : Direction

abbrev pub with_fields : Way → IpPacketFacts → ℕ → Option Fields → FrameFacts
with_fields way packet proto None = Short
with_fields way packet proto (Some fields) =
    Ip way.direction (record {
      interface = way.number;
      family = packet.family;
      source = packet.source;
      dest = packet.dest;
      proto = proto;
      fields = fields;
    })

abbrev pub view_of_upper : Way → IpPacketFacts → carried.Upper → FrameFacts
view_of_upper way packet (carried.LaterFragment proto) = with_fields way packet proto (Some Absent)
view_of_upper way packet (carried.Payload proto payload) = with_fields way packet proto (fields_of packet.family proto payload)

abbrev pub view_of_packet : Way → Option IpPacketFacts → FrameFacts
view_of_packet way None = Malformed
view_of_packet way (Some packet) = view_of_upper way packet packet.upper

abbrev pub direction_of : List ℕ → Option Mac → Direction
direction_of frame None = Inbound
direction_of frame (Some mac) = if bytes_eq (slice_range frame 6 12) mac.0 then Outbound else Inbound

abbrev pub way_of : List ℕ → Interface → Way
way_of frame at = record { number = at.number; direction = direction_of frame at.own }

abbrev pub view_of_content : List ℕ → Interface → Option (ℕ × List ℕ) → FrameFacts
view_of_content frame at None = Malformed
view_of_content frame at (Some content) =
    if content.0 == 0x0800 then view_of_packet (way_of frame at) (packet_of_v4 content.1)
    else (if content.0 == 0x86dd then view_of_packet (way_of frame at) (packet_of_v6 content.1) else NotIp)

abbrev pub view_of : List ℕ → Interface → FrameFacts
view_of frame at = view_of_content frame at (content_of frame)
