use Rattle.flow_workers.specs.inner.WorkerResults.{AreResultsOf}
use Rattle.flow_workers.proofs.worker_results.results_of.Given as goal

abbrev pub invariant-loop-share : goal.invariant-loop-share
invariant-loop-share g l = AreResultsOf l.yielded l.results
