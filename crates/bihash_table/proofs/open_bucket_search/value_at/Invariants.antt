use Rattle.bihash_words.specs.Sizes.{sizes_of}
use Rattle.bihash_table.specs.inner.OpenReads.{HasRead}
use Rattle.bihash_table.proofs.PlaceReads.{SameTo}
use Rattle.bihash_table.proofs.open_bucket_search.value_at.Given as goal

-- the words so far are those of the key
abbrev pub invariant-loop-i : goal.invariant-loop-i
invariant-loop-i g l = HasRead l.initial.seat l.seat (λ _ block. SameTo (sizes_of g.S.Shape) block l.place (g.S.Shape.words_of l.hashed.key.now) l.i)
