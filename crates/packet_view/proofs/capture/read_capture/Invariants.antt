use Rattle.std.proofs.Common.{◌≡◌, ◌++◌, length, map}
use Rattle.packet_view.specs.Captures.{packet_facts}
use Rattle.packet_view.specs.CheckedCaptures.{packets_of}
use Rattle.packet_view.proofs.capture.read_capture.Given as goal

-- the packets so far and those that are left are those of the capture
abbrev pub invariant-packets : goal.invariant-packets
invariant-packets l = map packet_facts l.packets.items ++ packets_of l.records ≡ packets_of l.initial.records

abbrev pub decreases-packets : goal.decreases-packets
decreases-packets l = length (packets_of l.records)
