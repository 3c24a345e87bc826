-- The words of the buckets so far are renewed.
use Rattle.bihash_words.specs.Sizes.{sizes_of}
use Rattle.bihash_steps.specs.Renewals.{AreRenewedBelow}
use Rattle.bihash_steps.proofs.renewed_row.renewed_words.Given as goal

abbrev pub invariant-loop-bucket : goal.invariant-loop-bucket
invariant-loop-bucket g l = AreRenewedBelow (sizes_of g.S.Shape) l.bucket l.words l.renewed.items
