use Rattle.bihash_plan.proofs.OpenPlaces.{crowded_from_open, first_free_from_open, new_from_open}
use Rattle.std.proofs.Common.{inr}
use Rattle.bihash_plan.proofs.PlanLemmas.{only_plan}
use Rattle.bihash_plan.proofs.key_plan.plan.Goals as goal

pub returns-in-Some-free_place-clause-lawful : goal.returns-in-Some-free_place-clause-lawful
returns-in-Some-free_place-clause-lawful g c = λ lawful. only_plan _ _ _ _ _ _ lawful (inr (
  new_from_open _ _ _ _ _ _ _ c.places_open_to-from.ensures.exact c.in_default.ensures.none lawful,
  first_free_from_open _ _ _ _ _ _ c.places_open_to-from.ensures.exact c.in-Some-free_place.ensures.found c.in-Some-free_place.ensures.first,
))

pub returns-clause-lawful : goal.returns-clause-lawful
returns-clause-lawful g c = λ lawful. c.larger.ensures.lawful lawful
    (new_from_open _ _ _ _ _ _ _ c.places_open_to-from.ensures.exact c.in_default.ensures.none lawful)
    (crowded_from_open _ _ _ _ _ c.places_open_to-from.ensures.exact c.in_default-free_place.ensures.none)
