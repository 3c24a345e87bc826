use Rattle.std.proofs.Common.{◌≡◌, ◌≤◌, ◌∙◌, ◌+◌, ap, arith, drop, get_or, length, sym, subst}
use Rattle.packet_view.specs.CheckedCaptures.{remaining}
use Rattle.flow_dealing.proofs.DealtLists.{none_left}
use Rattle.flow_workers.specs.inner.Jobs.{AreDealtFrom, IsChunkAt}
use Rattle.flow_workers.proofs.DealtLemmas.{all_taken, chunk_few, chunk_first, chunks_behind, worked_on, worked_to}
use Rattle.flow_workers.proofs.judge_dealt_packets.judge_dealt_packets.Goals as goal

pub loop-chunk-init : goal.loop-chunk-init
loop-chunk-init g c = record {
  left = c.requires.dealt;
  inside = omega arith;
  worked = record {
    idle = c.requires.idle;
    work = λ all among v said done. rw c.in_ok-reserve.ensures.items done;
  };
}

pub judge_chunk-requires : goal.judge_chunk-requires
judge_chunk-requires g c =
    let batch = c.args.job.batch in
    let inside = c.loop-chunk-test.true in
    let same = c.as_slice-chunk-items.ensures.value in
    let listed = ap length same in
    record {
      shapes = c.requires.shapes;
      few = c.requires.few;
      idle = c.loop-chunk.invariant.worked.idle;
      fits = c.requires.fits;
      of = subst (IsChunkAt g.A.Shape g.B.Shape batch c.loop-chunk.first)
          (ap (λ ps. get_or ps c.loop-chunk.chunk-index c.chunk-item.result) (sym same) ∙ sym c.chunk-item.is)
          (chunk_first g.A.Shape g.B.Shape batch c.loop-chunk.first c.loop-chunk.chunk-index c.args.job.dealt.chunks.now.items
          c.chunk-item.result (omega arith) c.loop-chunk.invariant.left);
    }

pub overflow_add-first : goal.overflow_add-first
overflow_add-first g c =
    let batch = c.args.job.batch in
    let inside = c.loop-chunk-test.true in
    let fits = c.requires.fits in
    let same = c.as_slice-chunk-items.ensures.value in
    let listed = ap length same in
    let few =
    chunk_few g.A.Shape g.B.Shape batch c.loop-chunk.first c.chunk-item.result
    (subst (IsChunkAt g.A.Shape g.B.Shape batch c.loop-chunk.first)
    (ap (λ ps. get_or ps c.loop-chunk.chunk-index c.chunk-item.result) (sym same) ∙ sym c.chunk-item.is)
    (chunk_first g.A.Shape g.B.Shape batch c.loop-chunk.first c.loop-chunk.chunk-index c.args.job.dealt.chunks.now.items
    c.chunk-item.result (omega arith) c.loop-chunk.invariant.left)) c.loop-chunk.invariant.inside in
    let long = c.len-first.ensures in
    omega arith

pub loop-chunk-preserved : goal.loop-chunk-preserved
loop-chunk-preserved g c =
    let batch = c.args.job.batch in
    let inside = c.loop-chunk-test.true in
    let same = c.as_slice-chunk-items.ensures.value in
    let count = ap length same in
    let here = ap (λ ps. get_or ps c.loop-chunk.chunk-index c.chunk-item.result) (sym same) ∙ sym c.chunk-item.is in
    let counted : length c.chunk-item.result.workers.items ≡ c.len-first.result =
    let long = c.len-first.ensures in omega arith in
    let of =
    subst (IsChunkAt g.A.Shape g.B.Shape batch c.loop-chunk.first) here
    (chunk_first g.A.Shape g.B.Shape batch c.loop-chunk.first c.loop-chunk.chunk-index c.args.job.dealt.chunks.now.items
    c.chunk-item.result (omega arith) c.loop-chunk.invariant.left) in
    record {
      left = subst (λ n. AreDealtFrom g.A.Shape g.B.Shape batch (c.loop-chunk.first + n)
          (drop (c.loop-chunk.chunk-index + 1) c.args.job.dealt.chunks.now.items)) (ap (λ p. length p.workers.items) here ∙ counted)
          (chunks_behind g.A.Shape g.B.Shape batch c.loop-chunk.first c.loop-chunk.chunk-index c.args.job.dealt.chunks.now.items
          c.chunk-item.result (omega arith) c.loop-chunk.invariant.left);
      inside = subst (λ n. c.loop-chunk.first + n ≤ length (remaining batch.packets)) counted
          (chunk_few g.A.Shape g.B.Shape batch c.loop-chunk.first c.chunk-item.result of c.loop-chunk.invariant.inside);
      worked = worked_on g.A.Shape g.B.Shape batch c.args.job.worker 0 c.loop-chunk.first _ _ _ _
          c.loop-chunk.invariant.worked
          (worked_to g.A.Shape g.B.Shape batch c.args.job.worker c.loop-chunk.first _ _ _ _
          (ap (λ n. c.loop-chunk.first + n) counted) c.in_ok-judge_chunk.ensures);
    }

pub returns : goal.returns
returns g c =
    let batch = c.args.job.batch in
    let all = c.loop-chunk-test.false in
    let count = ap length c.as_slice-chunk-items.ensures.value in
    let inside = c.loop-chunk.invariant.inside in
    let none =
    none_left (remaining batch.packets) c.loop-chunk.first
    (all_taken g.A.Shape g.B.Shape batch c.loop-chunk.first c.loop-chunk.chunk-index c.args.job.dealt.chunks.now.items (omega arith)
    c.loop-chunk.invariant.left) in
    worked_to g.A.Shape g.B.Shape batch c.args.job.worker 0 c.loop-chunk.first _ _ _ (omega arith)
    c.loop-chunk.invariant.worked
