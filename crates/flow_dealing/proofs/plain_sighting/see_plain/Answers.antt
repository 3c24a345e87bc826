use Rattle.std.proofs.Common.{◌∙◌, ap, refl, subst, sym}
use Rattle.packet_view.specs.Captures.{packet_facts}
use Rattle.packet_view.specs.Frames.{Ip}
use Rattle.packet_view.specs.Interfaces.{Interface}
use Rattle.packet_view.specs.PlainFrames.{IsPlainFrame}
use Rattle.packet_view.specs.declared.plain_packet.PlainPacket.{PlainPacket}
use Rattle.packet_view.proofs.FrameLemmas.{view_only}
use Rattle.flow_dealing.specs.Dealings.{flow_of_frame}
use Rattle.flow_dealing.proofs.plain_sighting.see_plain.Goals as goal

pub returns : goal.returns
returns g c =
    let packet = packet_facts c.args.packet.now in
    let is_plain = c.in_ok-frame.ensures in
    record {
      interface = refl;
      moment = refl;
      frame = subst (λ (p : PlainPacket). IsPlainFrame packet.frame (record { packet = p; sender = c.in_ok-frame.frame.sender }))
          (sym c.plain_flow-side.ensures.packet) is_plain;
      flow = λ own seen shown.
          let at : Interface = record { number = packet.interface; own = own } in
          let (way, tuple, is, of) = is_plain.packet at in
          ap flow_of_frame (view_only packet.frame at seen shown ∙ sym (view_only packet.frame at (Ip way tuple) is))
          ∙ c.plain_flow-side.ensures.flow tuple is.4.0 of;
      side = c.plain_flow-side.ensures.side;
      hashed = c.key_hash.ensures;
    }
