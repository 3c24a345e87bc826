use Rattle.std.proofs.Common.{arith}
use Rattle.bihash_plan.proofs.LayoutLemmas.{laid_last, named_may}
use Rattle.bihash_plan.proofs.block_layout.lay.Goals as goal

pub returns : goal.returns
returns g c = λ named taken. laid_last _ _ _ _ _ _ _ _ _ _ _ (c.lay_pairs-next.ensures.laid (named_may _ _ c.clear.ensures named))
    (omega arith) (omega arith) taken c.put.ensures.placed named
