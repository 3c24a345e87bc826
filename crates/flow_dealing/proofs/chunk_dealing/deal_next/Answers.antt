use Rattle.std.proofs.Common.{◌≡◌, arith, length, subst, sym}
use Rattle.std.proofs.lemmas.Result.{IfOk-weaker}
use Rattle.packet_view.specs.Captures.{packet_facts}
use Rattle.flow_filter.specs.OneThread.{layout_of}
use Rattle.flow_dealing.specs.Dealt.{HasFlow}
use Rattle.flow_dealing.proofs.HandedPackets.{handed_plain}
use Rattle.flow_dealing.proofs.chunk_dealing.deal_next.Goals as goal

pub returns : goal.returns
returns g c =
    let packet = packet_facts c.args.packet in
    let is = c.in-Some.ensures in
    let counted = c.len.ensures in
    let fits = c.in-Ok.ensures in
    let last : c.in-Ok.at ≡ length c.args.chunk.now.workers.items = omega arith in
    IfOk-weaker c.hand.result _ _ (λ _ did. record {
      worker = c.worker_of_packet-worker.result;
      one = c.worker_of_packet-worker.ensures.one;
      dealt = c.worker_of_packet-worker.ensures.dealt packet (subst (HasFlow packet) (sym c.hashed_flow.ensures.flow) is.flow);
      handed = handed_plain (layout_of g.A.Shape g.B.Shape) c.args.chunk.now c.hand.new.self c.worker_of_packet-worker.result
          c.in-Ok.at packet c.in-Some.seen last is did;
    }) c.hand.ensures
