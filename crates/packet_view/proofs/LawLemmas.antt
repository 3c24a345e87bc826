-- A frame and the same with bytes after its packet's end have one view.
use Rattle.std.proofs.Common.{◌≡◌, ◌∙◌, ℕ, List, ◌++◌, sym, ap, subst}
use Rattle.packet_view.specs.declared.tuple.Family.{Family}
use Rattle.packet_view.specs.Ethernet.{IsEthernet}
use Rattle.packet_view.specs.Frames.{Carries, EndsWithin, IsFrame, FrameFacts, ether_type}
use Rattle.packet_view.specs.Interfaces.{Interface}
use Rattle.packet_view.specs.inner.FrameSteps.{IpPacketFacts, Way, direction_of, view_of, view_of_packet, view_of_upper, way_of}
use Rattle.packet_view.specs.IpPackets.{Upper}
use Rattle.packet_view.proofs.FrameLemmas.{Reading, Right, Wrong, carried, goes_in, goes_of, malformed_only, read, reading, right_view, view_only, view_shown}
use Rattle.packet_view.proofs.TrailingLemmas.{carries_more, dest_more, ethernet_more, malformed_more, source_more}

module _ (frame more source : List ℕ) (family : Family) (packet : List ℕ) (at : Interface) where
  way_more : IsEthernet frame source (ether_type family) packet → way_of frame at ≡ way_of (frame ++ more) at
  way_more e =
      ap (λ d. record { number = at.number; direction = d })
      (goes_in frame source at (direction_of (frame ++ more) at.own) (ether_type family) packet e
      (goes_of (frame ++ more) source at (ether_type family) (packet ++ more) (ethernet_more frame source (ether_type family) packet more e)))

  read_more : EndsWithin family packet → (upper : Upper) → Carries family packet upper → read family packet upper ≡ read family (packet ++ more) upper
  read_more ends upper h =
      let from = source_more family packet more ends upper h in
      let to = dest_more family packet more ends upper h in
      cc

  by_reading : IsEthernet frame source (ether_type family) packet → EndsWithin family packet → Reading family packet → view_of frame at ≡ view_of (frame ++ more) at
  by_reading e ends (Right upper h is) =
      right_view frame source at family packet upper e h
      ∙ ap (λ (way : Way). view_of_upper way (read family packet upper) upper) (way_more e)
      ∙ ap (λ (p : IpPacketFacts). view_of_upper (way_of (frame ++ more) at) p upper) (read_more ends upper h)
      ∙ sym (right_view (frame ++ more) source at family (packet ++ more) upper (ethernet_more frame source (ether_type family) packet more e)
      (carries_more family packet more ends upper h))
  by_reading e ends (Wrong bad is) =
      carried frame source at family packet e ∙ ap (view_of_packet (way_of frame at)) is
      ∙ sym (carried (frame ++ more) source at family (packet ++ more) (ethernet_more frame source (ether_type family) packet more e)
      ∙ ap (view_of_packet (way_of (frame ++ more) at)) (malformed_only family (packet ++ more) (malformed_more family packet more ends bad)))

  view_more : IsEthernet frame source (ether_type family) packet → EndsWithin family packet → view_of frame at ≡ view_of (frame ++ more) at
  view_more e ends = by_reading e ends (reading family packet)

  pub frame_more : IsEthernet frame source (ether_type family) packet → EndsWithin family packet → (view : FrameFacts) → IsFrame frame at view → IsFrame (frame ++ more) at view
  frame_more e ends view h =
      subst (λ (v : FrameFacts). IsFrame (frame ++ more) at v) (sym (view_only frame at view h ∙ view_more e ends)) (view_shown (frame ++ more) at)

  pub frame_less : IsEthernet frame source (ether_type family) packet → EndsWithin family packet → (view : FrameFacts) → IsFrame (frame ++ more) at view → IsFrame frame at view
  frame_less e ends view h =
      subst (λ (v : FrameFacts). IsFrame frame at v) (sym (view_only (frame ++ more) at view h ∙ sym (view_more e ends))) (view_shown frame at)
