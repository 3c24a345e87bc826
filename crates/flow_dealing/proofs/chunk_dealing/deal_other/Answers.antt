use Rattle.std.proofs.lemmas.Result.{IfOk-weaker}
use Rattle.packet_view.specs.Captures.{packet_facts}
use Rattle.flow_filter.specs.OneThread.{layout_of}
use Rattle.flow_dealing.proofs.chunk_dealing.deal_other.Goals as goal

pub returns : goal.returns
returns g c =
    let packet = packet_facts c.args.packet in
    IfOk-weaker c.hand_other.result _ _ (λ _ did. record {
      worker = c.worker_of_packet-worker.result;
      one = c.worker_of_packet-worker.ensures.one;
      dealt = c.worker_of_packet-worker.ensures.dealt packet c.see_other-seen.ensures.flow;
      handed = did (layout_of g.A.Shape g.B.Shape);
    }) c.hand_other.ensures
