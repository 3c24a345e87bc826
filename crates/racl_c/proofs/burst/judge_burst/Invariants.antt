-- The frames before the next one were judged, and answered at their places.
use Rattle.std.proofs.Common.{◌≡◌, ◌≢◌, ◌<◌, ◌≤◌, ◌-◌, ℕ, length, slice_index_or}
use Rattle.racl_c.specs.Bursts.{AreJudged}
use Rattle.racl_c.specs.declared.answer_numbers.Answer.{Answer}
use Rattle.racl_c.proofs.burst.judge_burst.Given as goal

abbrev pub invariant-frames : goal.invariant-frames
invariant-frames g l = record {
  judged : AreJudged g.A.Shape g.B.Shape l.memory l.descriptors l.answers l.initial.judge l.done l.judge;
  inside : (l.done ≤ length l.descriptors) × (l.done ≤ length l.answers);
  met_none : (k : ℕ) (a : Answer) → k < l.done → (slice_index_or l.answers k a).kind ≢ 7;
  places : length l.answers ≡ length l.initial.answers;
  later : (k : ℕ) (a : Answer) → l.done ≤ k → slice_index_or l.answers k a ≡ slice_index_or l.initial.answers k a;
}

abbrev pub decreases-frames : goal.decreases-frames
decreases-frames g l = length l.descriptors - l.done
