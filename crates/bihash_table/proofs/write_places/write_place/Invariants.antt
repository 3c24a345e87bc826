use Rattle.std.proofs.Common.{◌≡◌, ◌≤◌, length}
use Rattle.bihash_words.specs.Sizes.{sizes_of}
use Rattle.bihash_rule.specs.declared.view.HeldBlock.{HeldBlock}
use Rattle.bihash_table.specs.inner.Copying.{HasBlock}
use Rattle.bihash_table.proofs.Copies.{IsStored}
use Rattle.bihash_table.proofs.write_places.write_place.Given as goal

-- the first words of the key were stored
abbrev pub invariant-loop-i : goal.invariant-loop-i
invariant-loop-i g l = record {
  stored : (h : HeldBlock) → HasBlock (sizes_of g.S.Shape) l.initial.seat.view l.page h
      → IsStored l.initial.seat l.seat h (g.S.Shape.words_of l.key) l.first l.i;
  counted : 1 ≤ l.i → length (g.S.Shape.words_of l.key) ≡ g.S.Shape.WORDS;
}
