use Rattle.std.proofs.Common.{◌≡◌, ◌++◌, length, List, ℕ}
use Rattle.std.specs.Io.KnownBytes.{Appends}
use Rattle.policy_compare.specs.ComparisonReports.{lines_of}
use Rattle.policy_compare.proofs.comparison_report.write_differences.Given as goal

-- the lines so far were written
abbrev pub invariant-pieces : goal.invariant-pieces
invariant-pieces g l = record {
  written : (front : List ℕ) × (front ++ lines_of l.rest ≡ lines_of l.differences) × Appends (g.W.Sink.bytes l.fn.writer) (g.W.Sink.bytes l.writer) front;
  sound : g.W.Sink.failures l.writer ≡ g.W.Sink.failures l.fn.writer;
}

abbrev pub decreases-pieces : goal.decreases-pieces
decreases-pieces g l = length l.rest
