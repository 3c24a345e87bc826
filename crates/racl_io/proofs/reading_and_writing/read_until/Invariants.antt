use Rattle.std.proofs.Common.{◌≡◌, ◌++◌, ◌-◌, ◌≤◌, List, ℕ, max, vec_capacity, vec_len}
use Rattle.std.specs.Io.KnownBytes.{Consumes}
use Rattle.racl_io.proofs.reading_and_writing.read_until.Given as goal

-- what was read is what the reader lost, and it didn't fail
abbrev pub invariant-reading : goal.invariant-reading
invariant-reading g l = record {
  read : (read : List ℕ) × Consumes (g.R.Source.bytes l.fn.reader) (g.R.Source.bytes l.reader) read × (l.all.items ≡ l.fn.all.items ++ read);
  few : vec_len l.all ≤ max (vec_len l.fn.all) l.least;
  room : vec_capacity l.fn.all ≤ vec_capacity l.all;
  sound : g.R.Source.failures l.reader ≡ g.R.Source.failures l.fn.reader;
}

abbrev pub decreases-reading : goal.decreases-reading
decreases-reading g l = l.least - vec_len l.all
