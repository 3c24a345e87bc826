use Rattle.std.proofs.Common.{◌∙◌, ◌++◌, ◌+◌, ap, append-nil, append_assoc, drop, sym}
use Rattle.std.proofs.lemmas.List.{drop_all, drop_more}
use Rattle.flow_workers.specs.inner.Shares.{workers_in}
use Rattle.flow_workers.proofs.judge_in_threads.note_workers.Goals as goal

pub loop-chunk-preserved : goal.loop-chunk-preserved
loop-chunk-preserved c =
    let k = c.loop-chunk.chunk-index in
    let dealt = c.args.dealt.now in
    let chunk = c.chunk-item.result in
    ap (λ ws. ws ++ workers_in (drop (k + 1) dealt))
    (c.in_ok-extend_from_slice.ensures.items ∙ ap (λ ws. c.loop-chunk.judges.items ++ ws) c.as_slice.ensures.value)
    ∙ (append_assoc c.loop-chunk.judges.items chunk.workers.items (workers_in (drop (k + 1) dealt))
    ∙ (ap (λ p. c.loop-chunk.judges.items ++ (p.workers.items ++ workers_in (drop (k + 1) dealt))) c.chunk-item.is
    ∙ (ap (λ ps. c.loop-chunk.judges.items ++ workers_in ps) (sym (drop_more dealt k chunk c.loop-chunk-test.true))
    ∙ c.loop-chunk.invariant)))

pub returns : goal.returns
returns c =
    sym (append-nil c.loop-chunk.judges.items)
    ∙ (ap (λ ps. c.loop-chunk.judges.items ++ workers_in ps)
    (sym (drop_all c.loop-chunk.chunk-index c.args.dealt.now c.loop-chunk-test.false)) ∙ c.loop-chunk.invariant)
