use Rattle.std.proofs.Common.{◌∙◌, ◌+◌, [], ◌∷◌, ap, arith, get_or, inl, inr, length, refl, subst, sym}
use Rattle.std.proofs.lemmas.Bool.Decides.{eqb_tells}
use Rattle.std.proofs.lemmas.List.{get_or_append_left, get_or_push, length_push}
use Rattle.flow_dealing.specs.inner.Chunks.{IsAhead}
use Rattle.flow_dealing.proofs.ChunkLemmas.{begun_at, begun_else, begun_here}
use Rattle.flow_dealing.proofs.chunk_jobs.chunks_ahead.Goals as goal

pub loop-chunk-init : goal.loop-chunk-init
loop-chunk-init g c = record {
  many = ap length c.in_ok-chunks.ensures.items;
  inside = omega arith;
  all = λ over. omega arith;
  begin = λ i. 0;
  starts = refl;
  here = refl;
  each = λ i d inside. absurd (omega arith);
}

pub loop-chunk-preserved : goal.loop-chunk-preserved
loop-chunk-preserved g c =
    let olds = c.loop-chunk.chunks.items in
    let new = c.chunk_ahead.result in
    let more = c.in_ok-push.ensures.items in
    let counted = c.loop-chunk.invariant.many in
    let shared = c.share.ensures.inside in
    let left = c.count.ensures in
    let before = c.loop-chunk.invariant.begin in
    let at = c.loop-chunk.chunk + 1 in
    let begin = begun_at before at (c.loop-chunk.first + c.share.result) in
    let stays = begun_else before at (c.loop-chunk.first + c.share.result) in
    record {
      many = ap length more ∙ (length_push olds new ∙ ap (λ n. n + 1) counted);
      inside = let i = c.loop-chunk.invariant.inside in omega arith;
      all = λ over. let i = c.loop-chunk.invariant.inside in let l = c.share.ensures.last (omega arith) in omega arith;
      begin = begin;
      starts = stays 0 (λ e. omega arith) ∙ c.loop-chunk.invariant.starts;
      here = begun_here before at (c.loop-chunk.first + c.share.result);
      each = λ i d inside. elim (eqb_tells i c.loop-chunk.chunk) [
        | inl (test, same) ↦
            subst (IsAhead g.A.Shape g.B.Shape c.args.dealer c.args.number c.args.packets (begin i) (begin (i + 1)))
            (sym (ap (λ cs. get_or cs i d) more ∙ get_or_push olds new d i (counted ∙ sym same)))
            (subst (λ n. IsAhead g.A.Shape g.B.Shape c.args.dealer c.args.number c.args.packets (begin n) (begin (n + 1)) new)
            (sym same)
            (subst (λ n. IsAhead g.A.Shape g.B.Shape c.args.dealer c.args.number c.args.packets n (begin at) new)
            (sym (stays c.loop-chunk.chunk (λ e. omega arith) ∙ c.loop-chunk.invariant.here))
            (subst (λ n. IsAhead g.A.Shape g.B.Shape c.args.dealer c.args.number c.args.packets c.loop-chunk.first n new)
            (sym (begun_here before at (c.loop-chunk.first + c.share.result))) c.chunk_ahead.ensures)))
        | inr (test, earlier) ↦
            subst (IsAhead g.A.Shape g.B.Shape c.args.dealer c.args.number c.args.packets (begin i) (begin (i + 1)))
            (sym (ap (λ cs. get_or cs i d) more ∙ get_or_append_left olds (new ∷ []) d i (omega arith)))
            (subst (λ n. IsAhead g.A.Shape g.B.Shape c.args.dealer c.args.number c.args.packets n (begin (i + 1)) (get_or olds i d))
            (sym (stays i (λ e. omega arith)))
            (subst (λ n. IsAhead g.A.Shape g.B.Shape c.args.dealer c.args.number c.args.packets (before i) n (get_or olds i d))
            (sym (stays (i + 1) (λ e. omega arith))) (c.loop-chunk.invariant.each i d (omega arith))))
      ];
    }
