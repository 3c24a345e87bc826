use Rattle.std.proofs.Common.{◌≡◌, ◌++◌, List, ℕ, drop, flat_map}
use Rattle.std.specs.Io.KnownBytes.{Appends}
use Rattle.racl_io.specs.Tellings.{truncation_of}
use Rattle.racl_io.proofs.totals_and_truncation.write_truncations.Given as goal

-- the lines on the captures so far were written
abbrev pub invariant-each : goal.invariant-each
invariant-each g l = record {
  front : List ℕ;
  written : Appends (g.W.Sink.bytes l.fn.writer) (g.W.Sink.bytes l.writer) front;
  told : front ++ flat_map truncation_of (drop l.captured-index l.captures) ≡ flat_map truncation_of l.captures;
  sound : g.W.Sink.failures l.writer ≡ g.W.Sink.failures l.fn.writer;
}
