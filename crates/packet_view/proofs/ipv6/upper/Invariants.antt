use Rattle.std.proofs.Common.{◌≡◌, ◌-◌}
use Rattle.packet_view.specs.inner.FrameSteps.{walk}
use Rattle.packet_view.proofs.ipv6.upper.Given as goal

-- what is left of the walk is the walk
abbrev pub invariant-loop : goal.invariant-loop
invariant-loop l = walk (8 - l.counter) l.number l.rest ≡ walk 8 l.fn.first l.fn.bytes
