use Rattle.std.proofs.Common.{◌<◌, ℕ}
use Rattle.bihash_words.specs.Pages.{paging_of}
use Rattle.bihash_plan.specs.Plans.{Fits, keys_of}
use Rattle.bihash_plan.proofs.smaller_block.smaller.Given as goal

-- the pairs don't fit a block of a size so far
abbrev pub invariant-loop-smaller : goal.invariant-loop-smaller
invariant-loop-smaller g l = (other : ℕ) → other < l.smaller → Fits (paging_of g.S.Shape) other (keys_of l.places) → ⊥
