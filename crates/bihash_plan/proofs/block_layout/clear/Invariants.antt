use Rattle.std.proofs.Common.{◌≡◌, take}
use Rattle.std.specs.Prelude.{replicate}
use Rattle.bihash_words.specs.Patches.{free_mark}
use Rattle.bihash_plan.proofs.block_layout.clear.Given as goal

-- the places so far are free
abbrev pub invariant-loop-place : goal.invariant-loop-place
invariant-loop-place g l = take l.place-index l.out ≡ replicate l.place-index (l.key, free_mark)
