use Rattle.std.proofs.Common.{◌≡◌, ◌≤◌, ◌<◌, ◌*◌, ◌/◌, ℕ, length, Some}
use Rattle.std.specs.Prelude.{slice_get}
use Rattle.rule_index.specs.Rows.{bit_in, HasTurns}
use Rattle.rule_index.proofs.column.interval_rows.mark_all.Given as goal

-- the ranges so far have their bits, and the others none
abbrev pub invariant-loop-rule : goal.invariant-loop-rule
invariant-loop-rule l =
    record {
      len : length l.rows ≡ length l.starts * l.width;
      turns : (k : ℕ) (range : ℕ × ℕ) → k < l.rule → slice_get l.ranges k ≡ Some range → HasTurns l.starts l.width l.rows k range;
      clear : (row k : ℕ) → k / 64 < l.width → l.rule ≤ k → bit_in l.width l.rows row k ≡ 0;
    }
