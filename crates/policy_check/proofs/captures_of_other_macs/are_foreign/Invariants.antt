use Rattle.std.proofs.Common.{All, ◌≡◌, IsTrue, false, length}
use Rattle.std.specs.List.{Any}
use Rattle.packet_view.specs.CheckedCaptures.{remaining}
use Rattle.policy_check.specs.Foreign.{IsForOne}
use Rattle.policy_check.proofs.ForeignLemmas.{Walked}
use Rattle.policy_check.proofs.captures_of_other_macs.are_foreign.Given as goal

abbrev pub invariant-packets : goal.invariant-packets
invariant-packets l = (walked : Walked l.own.0 (remaining l.packets) (remaining l.left))
    × (IsTrue l.some → Any (λ packet. IsForOne packet.frame) (remaining l.packets))
    × (l.some ≡ false → All (λ packet. IsForOne packet.frame → ⊥) walked.front)

abbrev pub decreases-packets : goal.decreases-packets
decreases-packets l = length (remaining l.left)
