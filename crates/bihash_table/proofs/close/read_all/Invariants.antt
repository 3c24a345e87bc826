-- The pairs of the buckets so far were read.
use Rattle.bihash_table.specs.inner.PairLists.{ListsBuckets}
use Rattle.bihash_table.proofs.close.read_all.Given as goal

abbrev pub invariant-loop-bucket : goal.invariant-loop-bucket
invariant-loop-bucket g l = ListsBuckets g.S.Shape l.initial.seat.view.known l.bucket l.pairs.items
