use Rattle.std.proofs.Common.{◌*◌}
use Rattle.bihash_words.specs.Sizes.{sizes_of}
use Rattle.bihash_table.specs.inner.OpenReads.{HasRead, set_count}
use Rattle.bihash_table.proofs.PairReads.{Marked}
use Rattle.bihash_table.proofs.open_bucket_search.pair_in_page.Given as goal

-- the pair is at none of the places whose marks are gone
abbrev pub invariant-marked : goal.invariant-marked
invariant-marked g l = HasRead l.fn.seat l.seat (Marked (sizes_of g.S.Shape) (g.S.Shape.words_of l.hashed.key.now) (4 * l.page) l.marks)

abbrev pub decreases-marked : goal.decreases-marked
decreases-marked g l = set_count l.marks
