use Rattle.std.proofs.Common.{◌≡◌, ◌+◌, ◌++◌, length, List, ℕ}
use Rattle.std.specs.Io.KnownBytes.{Appends}
use Rattle.compared_verdicts.specs.Meeting.{told_from}
use Rattle.compared_verdicts.proofs.unmet_lines.write_unmet_from.Given as goal

-- the lines so far were written
abbrev pub invariant-packets : goal.invariant-packets
invariant-packets g l = record {
  counted : l.number + length l.rest ≡ l.fn.first + length l.fn.verdicts;
  written : (front : List ℕ) × (front ++ told_from l.fn.expectations l.number l.rest ≡ told_from l.fn.expectations l.fn.first l.fn.verdicts) × Appends (g.W.Sink.bytes l.fn.writer) (g.W.Sink.bytes l.writer) front;
  sound : g.W.Sink.failures l.writer ≡ g.W.Sink.failures l.fn.writer;
}

abbrev pub decreases-packets : goal.decreases-packets
decreases-packets g l = length l.rest
