-- The own address of its interface says nothing of a packet's flow.
use Rattle.std.proofs.Common.{◌≡◌, ◌∙◌, Option, ap, sym}
use Rattle.packet_view.specs.Captures.{PacketFacts}
use Rattle.packet_view.specs.Frames.{FrameFacts, Ip, Malformed, NotIp, Short}
use Rattle.packet_view.specs.Interfaces.{Interface}
use Rattle.packet_view.specs.declared.tuple.Mac.{Mac}
use Rattle.packet_view.specs.inner.FrameSteps.{direction_of}
use Rattle.packet_view.proofs.FrameLemmas.{goes_of, view_only}
use Rattle.flow_filter.specs.Readings.{IsSeenAt}
use Rattle.flow_dealing.specs.Dealings.{flow_of_frame}

module _ (packet : PacketFacts) (own : Option Mac) (view : FrameFacts) (seen : IsSeenAt own packet view) where
  abbrev at : Interface
  at = record { number = packet.interface; own = own }

  same : (other : FrameFacts) → IsSeenAt own packet other → flow_of_frame other ≡ flow_of_frame view
  same other is = ap flow_of_frame (view_only packet.frame at other is ∙ sym (view_only packet.frame at view seen))

  pub same_flow_shown : (before : Option Mac) (other : FrameFacts) → IsSeenAt before packet other
      → flow_of_frame other ≡ flow_of_frame view
  same_flow_shown before NotIp is = same NotIp is
  same_flow_shown before Malformed is = same Malformed is
  same_flow_shown before Short is = same Short is
  same_flow_shown before (Ip way tuple) (source, bytes, ethernet, goes, of) =
      same (Ip (direction_of packet.frame own) tuple)
      (source, bytes, ethernet, goes_of packet.frame source at _ bytes ethernet, of)
