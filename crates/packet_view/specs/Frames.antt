-- What a frame turns out to be, by cases on its bytes.
use Rattle.std.specs.Prelude.{◌≡◌, ◌≢◌, ◌≤◌, ◌⊎◌, ℕ, ◌+◌, List, length, Option, Some}
use Rattle.packet_view.specs.declared.tuple.Direction.{Direction}
use Rattle.packet_view.specs.declared.tuple.Direction.TheVariants.{Inbound, Outbound}
use Rattle.packet_view.specs.declared.tuple.Family.{Family}
use Rattle.packet_view.specs.declared.tuple.Family.TheVariants.{V4, V6}
use Rattle.packet_view.specs.declared.tuple.Fields.TheVariants.{Absent}
use Rattle.packet_view.specs.declared.tuple.Mac.{Mac}
use Rattle.packet_view.specs.declared.frame.Frame.{Frame}
use Rattle.packet_view.specs.declared.frame.Frame.TheVariants as frame
use Rattle.packet_view.specs.Ethernet.{IsEthernet, IsCutFrame}
use Rattle.packet_view.specs.Interfaces.{Interface}
use Rattle.packet_view.specs.Ipv4 as ipv4
use Rattle.packet_view.specs.Ipv6 as ipv6
use Rattle.packet_view.specs.IpPackets.{Upper, LaterFragment, Payload}
use Rattle.packet_view.specs.Transport.{HasFields, IsShort}
use Rattle.packet_view.specs.Tuples.{TupleFacts, tuple_facts}

-- a `Frame` as a value, its tuple without what the type keeps
pub data FrameFacts : Type 0 where
  NotIp : FrameFacts
  Malformed : FrameFacts
  Short : FrameFacts
  Ip : Direction → TupleFacts → FrameFacts

abbrev pub frame_facts : Frame → FrameFacts
frame_facts frame.NotIp = NotIp
frame_facts frame.Malformed = Malformed
frame_facts frame.Short = Short
frame_facts (frame.Ip direction tuple) = Ip direction (tuple_facts tuple)

-- the type under which an Ethernet frame carries the family
abbrev pub ether_type : Family → ℕ
ether_type V4 = 0x0800
ether_type V6 = 0x86dd

abbrev pub IsMalformed : Family → List ℕ → Type 0
IsMalformed V4 packet = ipv4.IsMalformed packet
IsMalformed V6 packet = ipv6.IsMalformed packet

abbrev pub Carries : Family → List ℕ → Upper → Type 0
Carries V4 packet upper = ipv4.Carries packet upper
Carries V6 packet upper = ipv6.Carries packet upper

abbrev pub source_of : Family → List ℕ → ℕ
source_of V4 packet = ipv4.source packet
source_of V6 packet = ipv6.source packet

abbrev pub dest_of : Family → List ℕ → ℕ
dest_of V4 packet = ipv4.dest packet
dest_of V6 packet = ipv6.dest packet

-- a frame from the interface's own address goes out, every other comes in
abbrev pub HasDirection : List ℕ → Option Mac → Direction → Type 0
HasDirection source own Outbound = own ≡ Some (record { 0 = source })
HasDirection source own Inbound = own ≢ Some (record { 0 = source })

-- a fragment other than the first has no fields, whatever its bytes
abbrev pub IsTuple : ℕ → List ℕ → TupleFacts → Type 0
IsTuple number packet tuple =
    (tuple.interface ≡ number) × (tuple.source ≡ source_of tuple.family packet) × (tuple.dest ≡ dest_of tuple.family packet)
    × ((Carries tuple.family packet (LaterFragment tuple.proto) × (tuple.fields ≡ Absent))
    ⊎ ((payload : List ℕ) × Carries tuple.family packet (Payload tuple.proto payload) × HasFields tuple.family tuple.proto payload tuple.fields))

-- The cases, each by the bytes alone: another type, headers cut or wrong, a payload that ends before the protocol's
-- fields, and a packet with its way and five-tuple. That packet is of the interface where its frame was seen.
abbrev pub IsFrame : List ℕ → Interface → FrameFacts → Type 0
IsFrame frame at NotIp =
    (source : List ℕ) × (kind : ℕ) × (content : List ℕ) × IsEthernet frame source kind content
    × (kind ≢ ether_type V4) × (kind ≢ ether_type V6)
IsFrame frame at Malformed =
    IsCutFrame frame
    ⊎ ((source : List ℕ) × (family : Family) × (packet : List ℕ) × IsEthernet frame source (ether_type family) packet × IsMalformed family packet)
IsFrame frame at Short =
    (source : List ℕ) × (family : Family) × (packet : List ℕ) × IsEthernet frame source (ether_type family) packet
    × (proto : ℕ) × (payload : List ℕ) × Carries family packet (Payload proto payload) × IsShort family proto payload
IsFrame frame at (Ip direction tuple) =
    (source packet : List ℕ) × IsEthernet frame source (ether_type tuple.family) packet × HasDirection source at.own direction
    × IsTuple at.number packet tuple

-- the packet declares its length, and ends there within its bytes
abbrev pub EndsWithin : Family → List ℕ → Type 0
EndsWithin V4 packet = (ipv4.total_length packet ≢ 0) × (ipv4.total_length packet ≤ length packet)
EndsWithin V6 packet = (ipv6.payload_length packet ≢ 0) × (40 + ipv6.payload_length packet ≤ length packet)
