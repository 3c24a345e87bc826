use Rattle.flow_workers.specs.Callers.{AreIdle}
use Rattle.filter_tests.proofs.tests.session_tables.first_wrong_over_tables.Given as goal

abbrev pub invariant-loop-number : goal.invariant-loop-number
invariant-loop-number g l = AreIdle g.A.Shape g.B.Shape l.tables l.callers
