-- What a packet's frame is at its interface, by the steps of the code.
use Rattle.packet_view.specs.Captures.{PacketFacts}
use Rattle.packet_view.specs.Frames.{FrameFacts}
use Rattle.packet_view.specs.inner.FrameSteps.{view_of}
use Rattle.acl_policy.specs.Policies.{PolicyFacts, section_of}

-- what a packet's frame is at its interface
unfoldable pub view_at : PolicyFacts → PacketFacts → FrameFacts
view_at policy packet = view_of packet.frame (record { number = packet.interface; own = (section_of packet.interface policy).own })
