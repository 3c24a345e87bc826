-- Flows of TCP and UDP over IPv4 by the words of their keys, which name both ends (`key_of`).
use Rattle.std.specs.Prelude.{ℕ, ◌/◌, ◌%◌, ◌^◌, ◌==◌, true, if◌then◌else◌, List, slice_index}
use Rattle.packet_view.specs.declared.plain_packet.PlainPacket.{PlainPacket}
use Rattle.session_state.specs.declared.flow.Flow.{Flow}
use Rattle.session_state.specs.declared.flow.FlowKey.TheVariants.{Four}
use Rattle.session_state.specs.declared.flow_end.End.{End}
use Rattle.session_state.specs.declared.plain_packet_flow.PlainFlow.{PlainFlow}

-- each packet of it may start a session
abbrev pub flow_in : PlainFlow → Flow
flow_in plain = record { key = Four plain.key; side = plain.side; starts = true }

-- the end that stands first in the words of a key
abbrev pub first_in : List ℕ → End
first_in key = record { address = slice_index key 0 / 2 ^ 32; port = slice_index key 1 / 2 ^ 48 }

-- the other end
abbrev pub second_in : List ℕ → End
second_in key = record { address = slice_index key 0 % 2 ^ 32; port = slice_index key 1 / 2 ^ 32 % 2 ^ 16 }

abbrev pub proto_in : List ℕ → ℕ
proto_in key = slice_index key 1 / 2 ^ 24 % 2 ^ 8

-- a packet from one end to another
abbrev pub packet_between : End → End → ℕ → ℕ → PlainPacket
packet_between sender receiver proto flags = record {
  source = sender.address;
  dest = receiver.address;
  from = sender.port;
  to = receiver.port;
  proto = proto;
  flags = flags;
}

-- the packet with these flags that has this place in the flow
abbrev pub packet_in : PlainFlow → ℕ → PlainPacket
packet_in plain flags =
    if plain.side == 0 then packet_between (first_in plain.key) (second_in plain.key) (proto_in plain.key) flags
    else packet_between (second_in plain.key) (first_in plain.key) (proto_in plain.key) flags
