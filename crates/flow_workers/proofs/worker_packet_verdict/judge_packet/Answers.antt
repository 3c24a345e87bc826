use Rattle.std.proofs.Common.{ap, refl, subst, sym}
use Rattle.packet_view.specs.Captures.{packet_facts}
use Rattle.packet_view.specs.Frames.{frame_facts}
use Rattle.flow_filter.specs.OneThread.{layout_of}
use Rattle.flow_dealing.specs.HashedFlows.{IsHashed}
use Rattle.flow_workers.proofs.DealtLemmas.{may_judge_viewed}
use Rattle.flow_workers.proofs.worker_packet_verdict.judge_packet.Goals as goal

pub record_verdict-requires : goal.record_verdict-requires
record_verdict-requires g c =
    may_judge_viewed g.A.Shape g.B.Shape c.args.batch.now c.args.worker c.args.at _ _ _ (frame_facts c.in-Some.frame) _
    c.requires c.at-filter.ensures (c.new-viewed.ensures.seen _ (packet_facts c.args.packet.now) refl c.in-Some.ensures.shown)
    (sym (ap frame_facts c.new-viewed.ensures.frame)) c.in-Some.ensures.shown c.in-Some.ensures.only
    (subst (IsHashed (layout_of g.A.Shape g.B.Shape)) (sym c.new-viewed.ensures.hashed) c.of-hashed.ensures.hashed)
