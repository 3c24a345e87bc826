use Rattle.std.proofs.Common.{◌≤◌, ◌<◌, ℕ}
use Rattle.std.specs.Int.{bit_at}
use Rattle.rule_cover.proofs.flag_cuts.flag_lacked.Given as goal

-- None of the bits so far is lacked.
abbrev pub invariant-loop-i : goal.invariant-loop-i
invariant-loop-i l = (k : ℕ) → k < l.i → bit_at l.flags k ≤ bit_at l.others k
