use Rattle.bihash_words.specs.Sizes.{sizes_of}
use Rattle.bihash_rule.specs.declared.view.HeldBlock.{HeldBlock}
use Rattle.bihash_table.specs.inner.Copying.{HasBlock}
use Rattle.bihash_table.proofs.Copies.{ArePlaced}
use Rattle.bihash_table.proofs.write_places.write_block.Given as goal

-- the first places were stored
abbrev pub invariant-loop-place : goal.invariant-loop-place
invariant-loop-place g l = record {
  placed : (h : HeldBlock) → HasBlock (sizes_of g.S.Shape) l.initial.seat.view l.page h
      → ArePlaced g.S.Shape l.initial.seat l.seat h l.block l.place;
}
