use Rattle.std.proofs.Common.{◌≡◌, ◌≢◌, ◌≤◌, ◌<◌, ◌-◌, ℕ, length}
use Rattle.std.specs.Prelude.{slice_index}
use Rattle.rule_index.proofs.numbered_words.carry.Given as goal

-- the numbers so far are carried, and the others are as they were
abbrev pub invariant-loop-i : goal.invariant-loop-i
invariant-loop-i l =
    record {
      len : length l.numbers ≡ length l.fn.numbers;
      first : (i : ℕ) → i < l.width → slice_index l.numbers i ≡ slice_index l.fn.numbers i;
      carried : (i : ℕ) → l.width ≤ i → i < l.i → slice_index l.fn.numbers i ≡ 0 → slice_index l.numbers i ≡ slice_index l.numbers (i - l.width);
      others : (i : ℕ) → l.width ≤ i → i < l.i → slice_index l.fn.numbers i ≢ 0 → slice_index l.numbers i ≡ slice_index l.fn.numbers i;
      left : (i : ℕ) → l.i ≤ i → slice_index l.numbers i ≡ slice_index l.fn.numbers i;
      below : (n : ℕ) → ((i : ℕ) → i < length l.fn.numbers → slice_index l.fn.numbers i < n) → (i : ℕ) → i < length l.numbers → slice_index l.numbers i < n;
    }
