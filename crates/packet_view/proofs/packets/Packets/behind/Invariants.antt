use Rattle.std.proofs.Common.{◌≡◌, drop}
use Rattle.packet_view.specs.CheckedCaptures.{remaining}
use Rattle.packet_view.proofs.packets.Packets.behind.Given as goal

abbrev pub invariant-loop-at : goal.invariant-loop-at
invariant-loop-at l = remaining l.rest ≡ drop l._at (remaining l.fn.self)
