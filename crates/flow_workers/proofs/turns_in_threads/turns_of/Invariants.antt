use Rattle.std.proofs.Common.{◌≡◌, length}
use Rattle.flow_workers.specs.inner.Turns.{AreTurns}
use Rattle.flow_workers.proofs.turns_in_threads.turns_of.Given as goal

abbrev pub invariant-loop-share : goal.invariant-loop-share
invariant-loop-share g l = record {
  worker : l.worker ≡ length l.yielded;
  are : AreTurns {ga = g.A.Shape} {gb = g.B.Shape} l.fn.batch l.fn.dealt l.yielded l.turns.items;
}
