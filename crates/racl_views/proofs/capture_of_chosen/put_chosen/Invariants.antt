use Rattle.std.proofs.Common.{◌≡◌, ◌++◌, List, ℕ, drop}
use Rattle.std.specs.Io.KnownBytes.{Appends}
use Rattle.racl_views.specs.inner.ChosenBytes.{chosen_in}
use Rattle.racl_views.proofs.capture_of_chosen.put_chosen.Given as goal

-- what was written, what waits and what is left to find are what waited and what is to be found
abbrev pub invariant-verdicts : goal.invariant-verdicts
invariant-verdicts g l = record {
  written : (gone : List ℕ) × Appends (g.W.Sink.bytes l.fn.writer) (g.W.Sink.bytes l.writer) gone
      × ((gone ++ l.batch) ++ chosen_in l.chosen l.order (drop l.verdict-index l.verdicts) l.left ≡ l.fn.batch ++ chosen_in l.chosen l.order l.verdicts l.records);
  sound : g.W.Sink.failures l.writer ≡ g.W.Sink.failures l.fn.writer;
}
