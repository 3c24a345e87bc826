use Rattle.std.proofs.Common.{◌≤◌, ◌<◌, ◌+◌, ℕ, length}
use Rattle.std.specs.Prelude.{slice_index}
use Rattle.rule_index.specs.Rows.{AreStarts}
use Rattle.rule_index.proofs.column.interval_starts.thin.Given as goal

-- No row begins past the last one, and there is one more than bounds so far at most.
abbrev pub invariant-loop-k : goal.invariant-loop-k
invariant-loop-k l =
    record {
      ordered : AreStarts l.starts.items;
      few : length l.starts.items ≤ l.k + 1;
      last : (k : ℕ) → k < length l.starts.items → slice_index l.starts.items k ≤ l.last;
    }
