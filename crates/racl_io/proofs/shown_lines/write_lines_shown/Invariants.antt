use Rattle.std.proofs.Common.{◌≡◌, ◌++◌, ◌+◌, length, List, ℕ}
use Rattle.std.specs.Io.KnownBytes.{Appends}
use Rattle.racl_io.specs.Reports.{passed}
use Rattle.racl_io.specs.ShownReports.{lines_shown}
use Rattle.racl_io.proofs.shown_lines.write_lines_shown.Given as goal

-- the lines so far were written
abbrev pub invariant-loop-rest : goal.invariant-loop-rest
invariant-loop-rest g l = record {
  counted : l.number + length l.rest ≡ l.fn.place.others + length l.verdicts;
  passing : l.passed + passed l.rest ≡ passed l.verdicts;
  written : (front : List ℕ) × (front ++ lines_shown l.fn.shown l.fn.place.named (l.number + 1) l.rest ≡ lines_shown l.fn.shown l.fn.place.named (l.fn.place.others + 1) l.verdicts) × Appends (g.W.Sink.bytes l.fn.writer) (g.W.Sink.bytes l.writer) front;
  sound : g.W.Sink.failures l.writer ≡ g.W.Sink.failures l.fn.writer;
}

abbrev pub decreases-loop-rest : goal.decreases-loop-rest
decreases-loop-rest g l = length l.rest
