-- The pairs of the places so far were added.
use Rattle.bihash_words.specs.Sizes.{sizes_of}
use Rattle.bihash_table.specs.inner.PairLists.{AddsPlaces}
use Rattle.bihash_table.specs.inner.RowWords.{OfBlockIn}
use Rattle.bihash_table.proofs.close.read_pairs.Given as goal

abbrev pub invariant-loop-place : goal.invariant-loop-place
invariant-loop-place g l = OfBlockIn (sizes_of g.S.Shape) l.words l.word
    (λ e block. AddsPlaces g.S.Shape l.place e block l.initial.pairs.items l.pairs.items)
