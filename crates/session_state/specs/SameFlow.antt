-- When two packets are of one flow, said of the packets themselves.
use Rattle.std.specs.Prelude.{◌≡◌, ◌<◌, ◌⊎◌, ℕ, ◌^◌, IsTrue}
use Rattle.packet_view.specs.Addresses.{address_limit, fields_suit}
use Rattle.packet_view.specs.Tuples.{TupleFacts}
use Rattle.packet_view.specs.declared.tuple.Fields.{Fields}
use Rattle.packet_view.specs.declared.tuple.Fields.TheVariants.{Absent, Ports, Tcp, Icmp}
use Rattle.session_state.specs.declared.flow.Flow.{Flow}
use Rattle.session_state.specs.Flows.{IsEchoReply, IsEchoRequest, IsFlow, dest_port, receiver_of, sender_of, source_port}

-- what the type of a five-tuple and the widths of its numbers keep
pub record IsTuple (packet : TupleFacts) : Type 0 where
  pub interface : packet.interface < 2 ^ 8
  pub source : packet.source < address_limit packet.family
  pub dest : packet.dest < address_limit packet.family
  pub proto : packet.proto < 2 ^ 8
  pub source_port : source_port packet.fields < 2 ^ 16
  pub dest_port : dest_port packet.fields < 2 ^ 16
  pub suit : IsTrue (fields_suit packet.family packet.proto packet.fields)

-- two packets, and the flows that they are of
pub record AreFlows (a b : TupleFacts) (f g : Flow) : Type 0 where
  pub one_tuple : IsTuple a
  pub other_tuple : IsTuple b
  pub one : IsFlow a f
  pub other : IsFlow b g

-- the fields of TCP or UDP
abbrev pub HavePorts : Fields → Type 0
HavePorts Absent = ⊥
HavePorts (Ports from to) = Unit {0}
HavePorts (Tcp from to flags) = Unit {0}
HavePorts (Icmp kind code) = ⊥

-- both packets go from one end to the other, or one goes back where the other came from
abbrev pub SameEnds : TupleFacts → TupleFacts → Type 0
SameEnds a b =
    ((sender_of a ≡ sender_of b) × (receiver_of a ≡ receiver_of b))
    ⊎ ((sender_of a ≡ receiver_of b) × (receiver_of a ≡ sender_of b))

-- both packets are of one protocol with ports, between the same ends
pub record SameExchange (a b : TupleFacts) : Type 0 where
  pub one_ports : HavePorts a.fields
  pub other_ports : HavePorts b.fields
  pub proto : a.proto ≡ b.proto
  pub ends : SameEnds a b

-- the packet is an echo that the address `requester` asks of `answerer`, or the reply to it
abbrev pub IsEcho : TupleFacts → ℕ → ℕ → Type 0
IsEcho packet requester answerer =
    (IsEchoRequest packet × (packet.source ≡ requester) × (packet.dest ≡ answerer))
    ⊎ (IsEchoReply packet × (packet.source ≡ answerer) × (packet.dest ≡ requester))

-- both packets are echoes that one address asks of another
abbrev pub SameEcho : TupleFacts → TupleFacts → Type 0
SameEcho a b = (requester answerer : ℕ) × IsEcho a requester answerer × IsEcho b requester answerer

-- a TCP or UDP flow is a protocol and two ends in no order, an echo flow a requester and an answerer; either is of one
-- interface
abbrev pub SameFlow : TupleFacts → TupleFacts → Type 0
SameFlow a b = (a.interface ≡ b.interface) × (a.family ≡ b.family) × (SameExchange a b ⊎ SameEcho a b)

-- the fields of packets of which the second goes back where the first came from
abbrev pub AnswerFields : TupleFacts → Fields → TupleFacts → Fields → Type 0
AnswerFields a (Ports from to) b (Ports back_from back_to) = (back_from ≡ to) × (back_to ≡ from)
AnswerFields a (Tcp from to flags) b (Tcp back_from back_to back_flags) = (back_from ≡ to) × (back_to ≡ from)
AnswerFields a (Icmp kind code) b (Icmp back_kind back_code) =
    (IsEchoRequest a × IsEchoReply b) ⊎ (IsEchoReply a × IsEchoRequest b)
AnswerFields a _ b _ = ⊥

-- the second packet goes the other way of the first one's flow
pub record IsAnswer (a b : TupleFacts) : Type 0 where
  pub interface : b.interface ≡ a.interface
  pub family : b.family ≡ a.family
  pub proto : b.proto ≡ a.proto
  pub source : b.source ≡ a.dest
  pub dest : b.dest ≡ a.source
  pub fields : AnswerFields a a.fields b b.fields
