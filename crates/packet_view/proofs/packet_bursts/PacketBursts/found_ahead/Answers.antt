use Rattle.std.proofs.Common.{◌≡◌, ◌-◌, ◌≤◌, drop, length, map, take, arith, subst}
use Rattle.packet_view.specs.Captures.{packet_facts}
use Rattle.packet_view.specs.CheckedCaptures.{BurstFacts, remaining}
use Rattle.packet_view.proofs.BurstLemmas.{found_front}
use Rattle.packet_view.proofs.packet_bursts.PacketBursts.found_ahead.Goals as goal

pub returns : goal.returns
returns c =
    let (before, within, size) = c.self.invariant in
    subst (λ (a : BurstFacts). map packet_facts (take (c.self.inside.end - c.self.inside.at) (drop c.self.inside.at c.self.inside.found)) ≡ take a.ready a.left)
    c.self.view_is (found_front c.self.inside.found c.self.inside.at c.self.inside.end (remaining c.self.inside.rest) before (omega arith))
