-- The words so far were loaded and noted.
use Rattle.bihash_words.specs.Sizes.{sizes_of}
use Rattle.bihash_table.specs.inner.RowWords.{HasLoaded}
use Rattle.bihash_table.proofs.renew.read_words.Given as goal

abbrev pub invariant-loop-at : goal.invariant-loop-at
invariant-loop-at g l = HasLoaded (sizes_of g.S.Shape) l.initial.seat l.seat l.at l.words.items
