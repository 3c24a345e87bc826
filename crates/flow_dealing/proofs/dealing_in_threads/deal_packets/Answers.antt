use Rattle.std.proofs.Common.{◌∙◌, arith, get_or}
use Rattle.std.proofs.lemmas.Result.{IfOk-weaker}
use Rattle.flow_dealing.proofs.ChunkLemmas.{all_chunks, over_past, turned}
use Rattle.flow_dealing.proofs.dealing_in_threads.deal_packets.Goals as goal

pub chunks_over-requires : goal.chunks_over-requires
chunks_over-requires g c k d inside =
    let count = c.in_ok-ahead.ensures.many in
    let many = c.in_ok-over.ensures.count in
    over_past g.A.Shape g.B.Shape c.args.dealer c.args.number c.args.packets _ _ _
    (turned g.A.Shape g.B.Shape c.args.dealer c.args.number c.args.packets _ _ (get_or c.in_ok-ahead.ahead.items k d)
    (get_or c.in_ok-over.over.items k d)
    (c.in_ok-ahead.ensures.each k d (omega arith)) (c.in_ok-over.ensures.each k d d (omega arith)))

pub returns : goal.returns
returns g c =
    let count = c.in_ok-ahead.ensures.many in
    let many = c.in_ok-over.ensures.count in
    IfOk-weaker c.chunks_over.result _ _
    (λ chunks are. all_chunks g.A.Shape g.B.Shape c.args.dealer c.args.number c.args.packets c.in_ok-ahead.ensures.begin _
    chunks.items c.in_ok-over.over.items c.in_ok-ahead.ensures.first c.in_ok-ahead.ensures.last are (many ∙ count)
    (λ i d inside. turned g.A.Shape g.B.Shape c.args.dealer c.args.number c.args.packets _ _ (get_or c.in_ok-ahead.ahead.items i d)
    (get_or c.in_ok-over.over.items i d)
    (c.in_ok-ahead.ensures.each i d (omega arith)) (c.in_ok-over.ensures.each i d d (omega arith))))
    c.chunks_over.ensures
