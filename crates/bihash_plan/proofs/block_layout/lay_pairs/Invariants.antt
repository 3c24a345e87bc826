use Rattle.std.proofs.Common.{◌≤◌, length}
use Rattle.bihash_words.specs.Pages.{paging_of}
use Rattle.bihash_plan.specs.inner.LaidPairs.{IsLaidSoFar, MayBeLaid}
use Rattle.bihash_plan.proofs.block_layout.lay_pairs.Given as goal

-- the pairs of the places so far are laid out
abbrev pub invariant-loop-pair : goal.invariant-loop-pair
invariant-loop-pair g l = record {
  within : l.next ≤ length l.out;
  laid : MayBeLaid (paging_of g.S.Shape) l.size.log2 l.size.linear l.places l.initial.out
      → IsLaidSoFar (paging_of g.S.Shape) l.size.log2 l.size.linear l.places l.pair-index l.next l.out;
}
