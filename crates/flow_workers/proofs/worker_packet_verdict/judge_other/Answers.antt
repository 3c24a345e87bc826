use Rattle.std.proofs.Common.{None, ap, refl, subst, sym}
use Rattle.packet_view.specs.Captures.{PacketFacts, packet_facts}
use Rattle.packet_view.specs.Frames.{frame_facts}
use Rattle.flow_filter.specs.OneThread.{layout_of}
use Rattle.flow_filter.specs.Readings.{IsSeenAt}
use Rattle.flow_dealing.specs.HashedFlows.{IsHashed}
use Rattle.flow_workers.specs.inner.Jobs.{MayJudgePacket}
use Rattle.flow_workers.proofs.DealtLemmas.{may_judge_viewed}
use Rattle.flow_workers.proofs.worker_packet_verdict.judge_other.Goals as goal

pub at-frame-requires : goal.at-frame-requires
at-frame-requires g c =
    let is = c.requires.is in
    subst (λ (p : PacketFacts). IsSeenAt None p (frame_facts c.args.seen.now.frame)) (sym is.packet_is) is.frame

pub new-viewed-requires-clause-shown : goal.new-viewed-requires-clause-shown
new-viewed-requires-clause-shown g c =
    let is = c.requires.is in
    let own = c.at-filter.result.now.own in
    sym (is.flow own (frame_facts c.at-frame.result)
    (subst (λ (p : PacketFacts). IsSeenAt own p (frame_facts c.at-frame.result)) is.packet_is c.at-frame.ensures.shown))

pub new-viewed-requires-clause-side : goal.new-viewed-requires-clause-side
new-viewed-requires-clause-side g c = c.requires.is.side

pub record_verdict-requires : goal.record_verdict-requires
record_verdict-requires g c =
    let packet = packet_facts c.args.seen.now.packet in
    let is = c.requires.is in
    let may : MayJudgePacket g.A.Shape g.B.Shape c.args.batch.now c.args.worker c.args.at packet c.args.share.now =
    subst (λ (p : PacketFacts). MayJudgePacket g.A.Shape g.B.Shape c.args.batch.now c.args.worker c.args.at p c.args.share.now)
    (sym is.packet_is) c.requires.may in
    may_judge_viewed g.A.Shape g.B.Shape c.args.batch.now c.args.worker c.args.at packet _ _ (frame_facts c.at-frame.result) _
    may c.at-filter.ensures (c.new-viewed.ensures.seen _ packet refl c.at-frame.ensures.shown)
    (sym (ap frame_facts c.new-viewed.ensures.frame)) c.at-frame.ensures.shown c.at-frame.ensures.only
    (subst (IsHashed (layout_of g.A.Shape g.B.Shape)) (sym c.new-viewed.ensures.hashed) is.hashed)
