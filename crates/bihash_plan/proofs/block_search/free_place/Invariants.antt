use Rattle.std.proofs.Common.{◌≤◌, ◌<◌, ℕ}
use Rattle.bihash_plan.specs.Blocks.{IsFree}
use Rattle.bihash_plan.proofs.block_search.free_place.Given as goal

-- no place so far is free
abbrev pub invariant-loop-i : goal.invariant-loop-i
invariant-loop-i g l = (j : ℕ) → l.from ≤ j → j < l.i → IsFree l.places j → ⊥
