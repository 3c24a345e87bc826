use Rattle.bihash_plan.proofs.LayoutLemmas.{kept_may, laid_whole}
use Rattle.bihash_plan.proofs.block_layout.lay_kept.Goals as goal

pub returns : goal.returns
returns g c = λ was lawful fits. laid_whole _ _ _ _ _ _ (c.lay_pairs.ensures.laid (kept_may _ _ _ c.clear.ensures was lawful fits))
