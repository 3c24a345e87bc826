use Rattle.std.proofs.Common.{◌≡◌, ◌++◌, length, List, ℕ}
use Rattle.std.specs.Io.KnownBytes.{Appends}
use Rattle.policy_compare.specs.ComparisonReports.{own_lines}
use Rattle.policy_compare.proofs.comparison_report.write_own_lines.Given as goal

-- the lines so far were written
abbrev pub invariant-interfaces : goal.invariant-interfaces
invariant-interfaces g l = record {
  written : (front : List ℕ) × (front ++ own_lines l.rest ≡ own_lines l.interfaces) × Appends (g.W.Sink.bytes l.fn.writer) (g.W.Sink.bytes l.writer) front;
  sound : g.W.Sink.failures l.writer ≡ g.W.Sink.failures l.fn.writer;
}

abbrev pub decreases-interfaces : goal.decreases-interfaces
decreases-interfaces g l = length l.rest
