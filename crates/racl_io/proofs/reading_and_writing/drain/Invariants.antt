use Rattle.std.proofs.Common.{◌≡◌, ◌+◌, ◌-◌, ◌≤◌, List, ℕ, length}
use Rattle.std.specs.Io.KnownBytes.{Consumes}
use Rattle.racl_io.specs.Inputs.{most_bytes}
use Rattle.racl_io.proofs.reading_and_writing.drain.Given as goal

-- what was read is what the reader lost, at most a byte too many, and it didn't fail
abbrev pub invariant-reading : goal.invariant-reading
invariant-reading g l = record {
  read : (gone : List ℕ) × Consumes (g.R.Source.bytes l.fn.reader) (g.R.Source.bytes l.reader) gone × (l.total ≡ l.read + length gone);
  few : l.total ≤ most_bytes + 1;
  sound : g.R.Source.failures l.reader ≡ g.R.Source.failures l.fn.reader;
}

abbrev pub decreases-reading : goal.decreases-reading
decreases-reading g l = 67108864 + 1 - l.total
