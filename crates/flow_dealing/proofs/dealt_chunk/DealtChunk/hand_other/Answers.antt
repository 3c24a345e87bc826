use Rattle.std.proofs.Common.{arith, refl}
use Rattle.std.proofs.lemmas.Result.{IfOk-weaker}
use Rattle.flow_dealing.proofs.HandedPackets.{handed_other}
use Rattle.flow_dealing.proofs.dealt_chunk.DealtChunk.hand_other.Goals as goal

pub returns : goal.returns
returns c =
    let old = c.args.self.now in
    IfOk-weaker c.hand.result _ _
    (λ _ did l. handed_other l old (record old { others = c.push.new.self }) c.hand.new.self c.args.worker
    c.len.result c.len-2.result c.args.packet (omega arith) (omega arith) refl refl c.in_ok-push.ensures.items did) c.hand.ensures
