-- Which packets take part in sessions, and the key of a flow in its family's table. The types of an
-- echo are of RFC 792 and RFC 4443; the order of the ends and the layout of a key are this project's.
use Rattle.std.specs.Prelude.{◌≡◌, ◌≢◌, ◌<◌, ◌⊎◌, ℕ, ◌+◌, ◌*◌, ◌/◌, ◌%◌, ◌^◌, Bool, true, false, ◌||◌, ◌&&◌, ◌==◌, nat_lt, nat_le, min, max, if◌then◌else◌, [], ◌∷◌, Option, Some, None}
use Rattle.packet_view.specs.declared.tuple.Family.{Family}
use Rattle.packet_view.specs.declared.tuple.Family.TheVariants.{V4, V6}
use Rattle.packet_view.specs.declared.tuple.Fields.{Fields}
use Rattle.packet_view.specs.declared.tuple.Fields.TheVariants.{Absent, Ports, Tcp, Icmp}
use Rattle.packet_view.specs.Tuples.{TupleFacts}
use Rattle.session_state.specs.declared.flow_end.End.{End}
use Rattle.session_state.specs.declared.flow.Flow.{Flow}
use Rattle.session_state.specs.declared.flow.FlowKey.{FlowKey}
use Rattle.session_state.specs.declared.flow.FlowKey.TheVariants.{Four, Six}

-- the type of an echo request
abbrev pub request_type : Family → ℕ
request_type V4 = 8
request_type V6 = 128

-- the type of an echo reply
abbrev pub reply_type : Family → ℕ
reply_type V4 = 0
reply_type V6 = 129

abbrev pub source_port : Fields → ℕ
source_port Absent = 0
source_port (Ports from to) = from
source_port (Tcp from to flags) = from
source_port (Icmp kind code) = 0

abbrev pub dest_port : Fields → ℕ
dest_port Absent = 0
dest_port (Ports from to) = to
dest_port (Tcp from to flags) = to
dest_port (Icmp kind code) = 0

-- the end that a packet comes from; without ports its port is 0
abbrev pub sender_of : TupleFacts → End
sender_of packet = record { address = packet.source; port = source_port packet.fields }

-- the end that a packet goes to
abbrev pub receiver_of : TupleFacts → End
receiver_of packet = record { address = packet.dest; port = dest_port packet.fields }

abbrev pub IsEchoRequest : TupleFacts → Type 0
IsEchoRequest packet = (code : ℕ) × (packet.fields ≡ Icmp (request_type packet.family) code)

abbrev pub IsEchoReply : TupleFacts → Type 0
IsEchoReply packet = (code : ℕ) × (packet.fields ≡ Icmp (reply_type packet.family) code)

-- an end is lesser than another by address, and then by port
abbrev pub Precedes : End → End → Type 0
Precedes one other = (one.address < other.address) ⊎ ((one.address ≡ other.address) × (one.port < other.port))

-- the last word of a key: the first end's port from bit 48, the other's from bit 32, the protocol from
-- bit 24, the interface's number in bits 0 to 7
abbrev pub ports_word : End → End → ℕ → ℕ → ℕ
ports_word first second proto number = first.port * 2 ^ 48 + second.port * 2 ^ 32 + proto * 2 ^ 24 + number

-- the key of a flow between two ends, at the interface with this number
abbrev pub key_of : Family → End → End → ℕ → ℕ → FlowKey
key_of V4 first second proto number =
    Four ((first.address * 2 ^ 32 + second.address) ∷ ports_word first second proto number ∷ [])
key_of V6 first second proto number =
    Six ((first.address / 2 ^ 64) ∷ (first.address % 2 ^ 64) ∷ (second.address / 2 ^ 64) ∷ (second.address % 2 ^ 64)
    ∷ ports_word first second proto number ∷ [])

-- both ends in an order in which the lesser one stands first
abbrev pub LesserFirst : End → End → End → End → Type 0
LesserFirst sender receiver first second =
    ((first ≡ sender) × (second ≡ receiver) × (Precedes receiver sender → ⊥))
    ⊎ ((first ≡ receiver) × (second ≡ sender) × (Precedes sender receiver → ⊥))

-- the ends of a packet's flow in the order of its key: of TCP and UDP the lesser one first, of an
-- echo the one that asks
abbrev pub StandAs : TupleFacts → Fields → End → End → Type 0
StandAs packet Absent first second = ⊥
StandAs packet (Ports from to) first second = LesserFirst (sender_of packet) (receiver_of packet) first second
StandAs packet (Tcp from to flags) first second = LesserFirst (sender_of packet) (receiver_of packet) first second
StandAs packet (Icmp kind code) first second =
    ((kind ≡ request_type packet.family) × (first ≡ sender_of packet) × (second ≡ receiver_of packet))
    ⊎ ((kind ≡ reply_type packet.family) × (first ≡ receiver_of packet) × (second ≡ sender_of packet))

-- the flow of a packet: its key, its sender's side, and whether it may start a session
pub record IsFlow (packet : TupleFacts) (flow : Flow) : Type 0 where
  pub first : End
  pub second : End
  pub ends : StandAs packet packet.fields first second
  pub key : flow.key ≡ key_of packet.family first second packet.proto packet.interface
  pub first_side : sender_of packet ≡ first → flow.side ≡ 0
  pub second_side : sender_of packet ≢ first → flow.side ≡ 1
  pub reply : IsEchoReply packet → flow.starts ≡ false
  pub other : (IsEchoReply packet → ⊥) → flow.starts ≡ true

-- What follows computes the flow that `IsFlow` names.

-- the side of a sender, where `first` stands first
abbrev pub side_of : End → End → ℕ
side_of first sender = if (sender.address == first.address) && (sender.port == first.port) then 0 else 1

-- the flow of a packet whose ends stand in this order
abbrev pub oriented : TupleFacts → End → End → Bool → Flow
oriented packet first second starts =
    record {
      key = key_of packet.family first second packet.proto packet.interface;
      side = side_of first (sender_of packet);
      starts = starts;
    }

-- the test of the order: the other end isn't lesser
abbrev pub stands_first : End → End → Bool
stands_first one other =
    nat_lt one.address other.address || ((one.address == other.address) && nat_le one.port other.port)

-- the end that a number stands for in IPv4: the address, and 16 bits for the port below it
abbrev pub end_of_number : ℕ → End
end_of_number n = record { address = n / 2 ^ 16; port = n % 2 ^ 16 }

-- the flow of an IPv4 packet with ports whose ends these numbers stand for, at an interface: the lesser number stands
-- first
abbrev pub flow_by_number : ℕ → ℕ → ℕ → ℕ → Flow
flow_by_number proto interface from to =
    record {
      key = key_of V4 (end_of_number (min from to)) (end_of_number (max from to)) proto interface;
      side = if nat_lt to from then 1 else 0;
      starts = true;
    }

-- the flow of a packet with ports
abbrev pub flow_by_order : TupleFacts → Flow
flow_by_order packet =
    if stands_first (sender_of packet) (receiver_of packet)
    then oriented packet (sender_of packet) (receiver_of packet) true
    else oriented packet (receiver_of packet) (sender_of packet) true

-- the flow of an ICMP packet, where it is an echo
abbrev pub echo_flow : TupleFacts → ℕ → Option Flow
echo_flow packet kind =
    if kind == request_type packet.family
    then Some (oriented packet (sender_of packet) (receiver_of packet) true)
    else (if kind == reply_type packet.family
    then Some (oriented packet (receiver_of packet) (sender_of packet) false)
    else None)

abbrev pub flow_with : TupleFacts → Fields → Option Flow
flow_with packet Absent = None
flow_with packet (Ports from to) = Some (flow_by_order packet)
flow_with packet (Tcp from to flags) = Some (flow_by_order packet)
flow_with packet (Icmp kind code) = echo_flow packet kind

-- the flow of a packet, where it takes part in sessions
abbrev pub flow_of : TupleFacts → Option Flow
flow_of packet = flow_with packet packet.fields
