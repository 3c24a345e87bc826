use Rattle.std.proofs.Common.{arith}
use Rattle.bihash_words.specs.Sizes.{sizes_of}
use Rattle.bihash_table.proofs.LooksInTurn.{sweeps_more}
use Rattle.bihash_table.proofs.shared_table.Sessions.sweep.Goals as goal

pub loop-bucket-preserved : goal.loop-bucket-preserved
loop-bucket-preserved g c = record {
  order = let low = c.loop-bucket.invariant.order in omega arith;
  swept = sweeps_more (sizes_of g.S.Shape) _ _ _ _ _ _ _ _ c.loop-bucket.invariant.order c.loop-bucket.invariant.swept c.expire_all-went.ensures.swept;
  few = let low = c.loop-bucket.invariant.few in let more = c.expire_all-went.ensures.few in omega arith;
}
