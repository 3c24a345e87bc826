use Rattle.std.proofs.Common.{◌-◌}
use Rattle.filter_run.specs.Ran.{most, words_of}
use Rattle.filter_run.specs.inner.Steps.{IsGoing}
use Rattle.filter_run.proofs.running.run.Given as goal

-- all that came was judged and told
abbrev pub invariant-batches : goal.invariant-batches
invariant-batches g l =
    IsGoing (words_of g.S.CaptureSource.gave g.S.CaptureSource.over g.S.CaptureSource.failed g.J.Judge.became g.O.Observer.told g.O.Observer.cut)
    l.fn.source l.fn.judge l.fn.observer l.source l.judge l.observer l.batches l.packets

-- the batches that may still come
abbrev pub decreases-batches : goal.decreases-batches
decreases-batches g l = most - l.batches
