use Rattle.std.proofs.Common.{inl, inr, refl, subst, sym}
use Rattle.packet_view.specs.PlainFrames.{ArePortsOf}
use Rattle.packet_view.proofs.plain_packet.PlainPacket.tuple.Goals as goal
use Rattle.packet_view.proofs.plain_packet.PlainPacket.tuple.Goals.{else-self-eq6, then-self-eq6}

pub returns-clause-says : goal.returns-clause-says
returns-clause-says c = record {
  family = refl;
  source = c.from.ensures;
  dest = c.from-2.ensures;
  proto = refl;
  ports = elim c.if-self-eq6.branch [
    | then-self-eq6 w ↦ subst (ArePortsOf c.args.self) (sym w.fields-is) (w.if-self-eq6.true, refl, refl, refl)
    | else-self-eq6 w ↦ elim c.requires [
      | inl tcp ↦ absurd (w.if-self-eq6.false tcp)
      | inr (udp, none) ↦ subst (ArePortsOf c.args.self) (sym w.fields-is) (udp, refl, refl, none)
    ]
  ];
}
