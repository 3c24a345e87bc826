use Rattle.std.proofs.Common.{arith}
use Rattle.bihash_plan.proofs.LayoutLemmas.{laid_more, laid_none, laid_same}
use Rattle.bihash_plan.proofs.block_layout.lay_pairs.Goals as goal

pub loop-pair-init : goal.loop-pair-init
loop-pair-init g c = record {
  within = omega arith;
  laid = λ may. laid_none _ _ _ _ _ c.requires.pages.small c.requires.sized may.free;
}

pub loop-pair-preserved-then-pair : goal.loop-pair-preserved-then-pair
loop-pair-preserved-then-pair g c = record {
  within = c.loop-pair.invariant.within;
  laid = λ may. laid_same _ _ _ _ _ _ _ _
      (c.loop-pair.invariant.laid may) c.loop-pair-test.true c.pair-item.is c.if-pair.true;
}

pub loop-pair-preserved : goal.loop-pair-preserved
loop-pair-preserved g c = record {
  within = c.put-next.ensures.within;
  laid = λ may. laid_more _ _ _ _ _ _ _ _ _ _ _ (c.loop-pair.invariant.laid may)
      (omega arith) c.loop-pair-test.true c.pair-item.is c.if-pair.false c.put-next.ensures.placed may;
}
