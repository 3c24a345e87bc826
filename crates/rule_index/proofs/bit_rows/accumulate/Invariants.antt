use Rattle.std.proofs.Common.{◌≡◌, ◌≤◌, ◌<◌, ◌-◌, ℕ, length}
use Rattle.std.specs.Prelude.{bit_xor, slice_index}
use Rattle.rule_index.proofs.bit_rows.accumulate.Given as goal

-- the words so far have their sums, and the others are as they were
abbrev pub invariant-loop-i : goal.invariant-loop-i
invariant-loop-i l =
    record {
      len : length l.rows ≡ length l.fn.rows;
      first : (i : ℕ) → i < l.width → slice_index l.rows i ≡ slice_index l.fn.rows i;
      rest : (i : ℕ) → l.width ≤ i → i < l.i → slice_index l.rows i ≡ bit_xor (slice_index l.fn.rows i) (slice_index l.rows (i - l.width));
      left : (i : ℕ) → l.i ≤ i → slice_index l.rows i ≡ slice_index l.fn.rows i;
    }
