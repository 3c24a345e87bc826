use Rattle.std.proofs.Common.{◌-◌, ◌≡◌, ◌≤◌, ◌++◌, length, map, take}
use Rattle.packet_view.specs.Captures.{packet_facts}
use Rattle.packet_view.specs.CheckedCaptures.{packets_of}
use Rattle.packet_view.proofs.packets_of_records.Records.take_into.Given as goal

-- the packets that were put and those that are left are those that were there
abbrev pub invariant-taken : goal.invariant-taken
invariant-taken l =
    (map packet_facts (take l.count l.places) ++ packets_of l.left ≡ packets_of l.fn.self)
    × (l.count ≤ 64) × (length l.places ≡ 64)

abbrev pub decreases-taken : goal.decreases-taken
decreases-taken l = 64 - l.count
