use Rattle.std.proofs.Common.{◌*◌}
use Rattle.bihash_words.specs.Sizes.{sizes_of}
use Rattle.bihash_table.specs.inner.OpenReads.{HasRead}
use Rattle.bihash_table.proofs.PairReads.{NoneAmong}
use Rattle.bihash_table.proofs.open_bucket_search.pair_in_pages.Given as goal

-- the pages so far don't hold the key
abbrev pub invariant-loop-page : goal.invariant-loop-page
invariant-loop-page g l = HasRead l.initial.seat l.seat
    (NoneAmong (sizes_of g.S.Shape) (g.S.Shape.words_of l.hashed.key.now) (4 * l.from) (4 * l.page))
