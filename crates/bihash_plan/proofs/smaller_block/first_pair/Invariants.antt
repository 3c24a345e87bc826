use Rattle.std.proofs.Common.{◌≡◌, [], take}
use Rattle.bihash_plan.specs.Blocks.{pairs}
use Rattle.bihash_plan.proofs.smaller_block.first_pair.Given as goal

-- no place so far has a pair
abbrev pub invariant-loop-i : goal.invariant-loop-i
invariant-loop-i g l = pairs (take l.i l.places) ≡ []
