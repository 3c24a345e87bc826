use Rattle.std.proofs.Common.{◌≡◌, ◌++◌, ◌-◌, ◌≤◌, List, ℕ, length, max}
use Rattle.std.specs.Io.KnownBytes.{Consumes}
use Rattle.racl_io.specs.Buffers.{held_by, room_in}
use Rattle.racl_io.proofs.read_buffer.ReadBuffer.read_until.Given as goal

-- what was read is what the reader lost, and it didn't fail
abbrev pub invariant-reading : goal.invariant-reading
invariant-reading g l = record {
  read : (read : List ℕ) × Consumes (g.R.Source.bytes l.fn.reader) (g.R.Source.bytes l.reader) read × (held_by l.self ≡ held_by l.fn.self ++ read);
  few : length (held_by l.self) ≤ max (length (held_by l.fn.self)) l.least;
  room : room_in l.fn.self ≤ room_in l.self;
  sound : g.R.Source.failures l.reader ≡ g.R.Source.failures l.fn.reader;
}

abbrev pub decreases-reading : goal.decreases-reading
decreases-reading g l = l.least - length (held_by l.self)
