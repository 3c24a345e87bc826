use Rattle.std.proofs.Common.{◌≡◌, ◌++◌, length, List, ℕ}
use Rattle.std.specs.Io.KnownBytes.{Appends}
use Rattle.compared_verdicts.specs.Meeting.{told_in}
use Rattle.compared_verdicts.proofs.unmet_lines.write_open_in.Given as goal

-- the lines so far were written
abbrev pub invariant-lines : goal.invariant-lines
invariant-lines g l = record {
  written : (front : List ℕ) × (front ++ told_in l.rest l.fn.totals ≡ told_in l.fn.expectations l.fn.totals) × Appends (g.W.Sink.bytes l.fn.writer) (g.W.Sink.bytes l.writer) front;
  sound : g.W.Sink.failures l.writer ≡ g.W.Sink.failures l.fn.writer;
}

abbrev pub decreases-lines : goal.decreases-lines
decreases-lines g l = length l.rest
