-- What a packet's frame is at its interface is told by the code's steps.
use Rattle.std.proofs.Common.{◌≡◌}
use Rattle.packet_view.specs.Captures.{PacketFacts}
use Rattle.packet_view.specs.Frames.{FrameFacts, IsFrame}
use Rattle.packet_view.proofs.FrameLemmas.{view_only, view_shown}
use Rattle.acl_policy.specs.Policies.{PolicyFacts, section_of}
use Rattle.packet_words.specs.inner.ViewedPackets.{view_at}

-- what it is, is this
pub seen_at : (policy : PolicyFacts) (packet : PacketFacts) (view : FrameFacts)
    → IsFrame packet.frame (record { number = packet.interface; own = (section_of packet.interface policy).own }) view → view ≡ view_at policy packet
unfolding view_at
seen_at policy packet view seen = view_only packet.frame _ view seen

-- and it is so
pub at_seen : (policy : PolicyFacts) (packet : PacketFacts)
    → IsFrame packet.frame (record { number = packet.interface; own = (section_of packet.interface policy).own }) (view_at policy packet)
unfolding view_at
at_seen policy packet = view_shown packet.frame _
