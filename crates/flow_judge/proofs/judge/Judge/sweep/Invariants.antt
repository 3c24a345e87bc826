-- The looks that were made were answered, and no more sessions went than looks were made.
use Rattle.std.proofs.Common.{◌≡◌, ◌≤◌, ◌-◌, ℕ}
use Rattle.flow_judge.specs.Sweeps.{AreLooks}
use Rattle.flow_judge.proofs.judge.Judge.sweep.Given as goal

abbrev pub invariant-looks : goal.invariant-looks
invariant-looks g l = record {
  looked : AreLooks g.A.Shape g.B.Shape l.family l.moment l.from l.to l.initial.self l.looks l.next l.went l.self;
  few : l.looks ≤ l.most;
  gone : l.went ≤ l.looks;
}

abbrev pub decreases-looks : goal.decreases-looks
decreases-looks g l = l.most - l.looks
