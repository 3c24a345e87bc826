-- The frame is judged behind those before it, and answered at its place.
use Rattle.std.proofs.Common.{◌≢◌, ◌∙◌, ap, arith, inl, inr, refl, subst, sym}
use Rattle.std.proofs.lemmas.List.{get_or-set_same, length-set}
use Rattle.racl_c.specs.declared.answer_numbers.Answer.{Answer}
use Rattle.racl_c.proofs.BurstLemmas.{answer_before, answer_behind, are_judged_still, judged_here, judged_more, met_none_more}
use Rattle.racl_c.proofs.burst.judge_burst.Goals as goal

pub frames-smaller : goal.frames-smaller
frames-smaller g c = let inside = c.frames-test.true in omega arith

pub frames-preserved : goal.frames-preserved
frames-preserved g c =
    let n = c.frames.done in
    let answers = c.frames.answers in
    let answer = c.judge_described-answer.result in
    let inside = c.frames-test.true in
    let room = c.if-done-answers.true in
    let so_far = c.frames.invariant in
    let long = length-set answers n answer in
    record {
      judged = judged_more g.A.Shape g.B.Shape _ _ answers n answer _ _ _ so_far.judged
          (judged_here g.A.Shape g.B.Shape _ _ answers n _ answer _ _ inside room c.judge_described-answer.ensures);
      inside = (omega arith, omega arith);
      met_none = met_none_more answers n answer so_far.met_none room c.if-answer-eq-CONTENDED.false;
      places = long ∙ so_far.places;
      later = λ k a more. answer_behind answers n k answer a (omega arith) ∙ so_far.later k a (omega arith);
    }

pub returns-then-answer-eq-CONTENDED : goal.returns-then-answer-eq-CONTENDED
returns-then-answer-eq-CONTENDED g c =
    let n = c.frames.done in
    let answers = c.frames.answers in
    let answer = c.judge_described-answer.result in
    let inside = c.frames-test.true in
    let room = c.if-done-answers.true in
    let so_far = c.frames.invariant in
    let long = length-set answers n answer in
    record {
      middle = c.frames.judge;
      judged = are_judged_still g.A.Shape g.B.Shape _ _ answers _ n n answer _ (omega arith) so_far.judged;
      inside = (so_far.inside.0, omega arith);
      met_none = λ k a less. subst (λ (x : Answer). x.kind ≢ 7) (sym (answer_before answers n k answer a less))
          (so_far.met_none k a less);
      ended = inr (record {
        judged = judged_here g.A.Shape g.B.Shape _ _ answers n _ answer _ _ inside room c.judge_described-answer.ensures;
        met = λ a. ap (λ (x : Answer). x.kind) (get_or-set_same answers n answer a room) ∙ c.if-answer-eq-CONTENDED.true;
        inside = (inside, omega arith);
      });
      places = long ∙ so_far.places;
      later = λ k a more. answer_behind answers n k answer a more ∙ so_far.later k a (omega arith);
    }

pub returns-else-done-answers : goal.returns-else-done-answers
returns-else-done-answers g c =
    let full = c.if-done-answers.false in
    let so_far = c.frames.invariant in
    record {
      middle = c.frames.judge;
      judged = so_far.judged;
      inside = so_far.inside;
      met_none = so_far.met_none;
      ended = inl (refl, inr (omega arith));
      places = so_far.places;
      later = λ k a more. so_far.later k a (omega arith);
    }

pub returns-after-frames : goal.returns-after-frames
returns-after-frames g c =
    let over = c.frames-test.false in
    let so_far = c.frames.invariant in
    record {
      middle = c.frames.judge;
      judged = so_far.judged;
      inside = so_far.inside;
      met_none = so_far.met_none;
      ended = inl (refl, inl (omega arith));
      places = so_far.places;
      later = λ k a more. so_far.later k a (omega arith);
    }
