use Rattle.std.proofs.lemmas.Bool.{eq-eqb, eqb-true}
use Rattle.bihash_plan.proofs.Places.{free_at, free_value_at}
use Rattle.bihash_plan.proofs.block_search.is_free.Goals as goal

pub returns : goal.returns
returns g c = (λ yes. free_at _ _ _ c.requires.place.inside (eqb-true _ _ yes), λ h. eq-eqb _ _ (free_value_at _ h))
