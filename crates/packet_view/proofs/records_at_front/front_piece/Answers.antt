use Rattle.packet_view.proofs.RecordLemmas.{cut_out}
use Rattle.packet_view.proofs.records_at_front.front_piece.Goals as goal

pub returns : goal.returns
returns c =
    cut_out c.args.order c.args.rest.now c.u32_in-kept.result c.u32_in.result c.micros_in.result c.if-rest-lt16.false c.u32_in-kept.ensures c.if-kept-gt-KEPT_LIMIT.false
    c.if-rest-kept.false c.u32_in.ensures c.micros_in.ensures
