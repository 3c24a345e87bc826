-- What a plain frame's packet says, by what the frame turns out to be (RFC 791, RFC 9293, RFC 768).
use Rattle.std.specs.Prelude.{◌≡◌, ◌≤◌, ◌<◌, ◌⊎◌, ℕ, List, length, slice_index, slice_range}
use Rattle.packet_view.specs.declared.tuple.Direction.{Direction}
use Rattle.packet_view.specs.declared.tuple.Family.TheVariants.{V4}
use Rattle.packet_view.specs.declared.tuple.Fields.{Fields}
use Rattle.packet_view.specs.declared.tuple.Fields.TheVariants.{Absent, Ports, Tcp, Icmp}
use Rattle.packet_view.specs.declared.plain_packet.PlainPacket.{PlainPacket}
use Rattle.packet_view.specs.declared.plain_packet.PlainFrame.{PlainFrame}
use Rattle.packet_view.specs.Bytes.{number_from}
use Rattle.packet_view.specs.Frames.{IsFrame, Ip}
use Rattle.packet_view.specs.Interfaces.{Interface}
use Rattle.packet_view.specs.Tuples.{TupleFacts}

-- a packet of TCP, or one of UDP, which has no flags
abbrev pub IsTcpOrUdp : PlainPacket → Type 0
IsTcpOrUdp packet = (packet.proto ≡ 6) ⊎ ((packet.proto ≡ 17) × (packet.flags ≡ 0))

-- fields with the packet's ports, and flags where it is one of TCP, of its protocol
abbrev pub ArePortsOf : PlainPacket → Fields → Type 0
ArePortsOf packet Absent = ⊥
ArePortsOf packet (Ports from to) = (packet.proto ≡ 17) × (from ≡ packet.from) × (to ≡ packet.to) × (packet.flags ≡ 0)
ArePortsOf packet (Tcp from to flags) =
    (packet.proto ≡ 6) × (from ≡ packet.from) × (to ≡ packet.to) × (flags ≡ packet.flags)
ArePortsOf packet (Icmp kind code) = ⊥

-- a five-tuple of IPv4 that says what the packet says
pub record IsTupleOf (packet : PlainPacket) (tuple : TupleFacts) : Type 0 where
  pub family : tuple.family ≡ V4
  pub source : tuple.source ≡ packet.source
  pub dest : tuple.dest ≡ packet.dest
  pub proto : tuple.proto ≡ packet.proto
  pub ports : ArePortsOf packet tuple.fields

-- at every interface the frame is a packet of such a five-tuple
abbrev pub IsPlain : List ℕ → PlainPacket → Type 0
IsPlain frame packet =
    (at : Interface)
    → (way : Direction) × (tuple : TupleFacts) × IsFrame frame at (Ip way tuple) × IsTupleOf packet tuple

-- the number of the address that a frame comes from: that of its bytes from the seventh to the twelfth (IEEE 802.3)
pub record IsSender (frame : List ℕ) (sender : ℕ) : Type 0 where
  pub long : 12 ≤ length frame
  pub number : sender ≡ number_from 0 6 (slice_range frame 6 12)
  pub bytes : (place : ℕ) → place < 6 → slice_index (slice_range frame 6 12) place < 256

-- what a plain frame has, wherever it is seen
pub record IsPlainFrame (frame : List ℕ) (said : PlainFrame) : Type 0 where
  pub packet : IsPlain frame said.packet
  pub kind : IsTcpOrUdp said.packet
  pub sender : IsSender frame said.sender
