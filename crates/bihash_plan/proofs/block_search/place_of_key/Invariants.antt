use Rattle.std.proofs.Common.{◌≤◌, ◌<◌, ℕ}
use Rattle.bihash_plan.specs.Blocks.{HasKey}
use Rattle.bihash_plan.proofs.block_search.place_of_key.Given as goal

-- no place so far has a pair with the key
abbrev pub invariant-loop-i : goal.invariant-loop-i
invariant-loop-i g l = (j : ℕ) → l.from ≤ j → j < l.i → HasKey l.places l.key j → ⊥
