use Rattle.std.proofs.Common.{◌≤◌, ◌<◌, ◌+◌, ℕ, length}
use Rattle.std.specs.Prelude.{slice_index}
use Rattle.rule_index.proofs.column.interval_starts.place.Given as goal

-- the row is in what is left
abbrev pub invariant-loop-left : goal.invariant-loop-left
invariant-loop-left l =
    record {
      some : 0 < l.left;
      within : l.row + l.left ≤ length l.starts;
      from : slice_index l.starts l.row ≤ l.x;
      until : (k : ℕ) → l.row + l.left ≤ k → k < length l.starts → l.x < slice_index l.starts k;
    }

abbrev pub decreases-loop-left : goal.decreases-loop-left
decreases-loop-left l = l.left
