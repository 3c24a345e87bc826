use Rattle.bihash_words.specs.Sizes.{sizes_of}
use Rattle.bihash_table.specs.inner.OpenReads.{HasRead}
use Rattle.bihash_table.proofs.PairReads.{NoOther}
use Rattle.bihash_table.proofs.open_bucket_search.has_other_in_open_bucket.Given as goal

-- no place so far has a pair but this one
abbrev pub invariant-loop-k : goal.invariant-loop-k
invariant-loop-k g l = HasRead l.initial.seat l.seat (NoOther (sizes_of g.S.Shape) l.place l.k)
