use Rattle.std.proofs.Common.{◌≤◌, ◌<◌, ◌↔◌, ℕ, List, Option, Some, None, IfSome, IfNone, IsTrue, length, is_some, refl, arith}
use Rattle.std.proofs.lemmas.Bool.{false≢true}
use Rattle.bihash_plan.specs.Blocks.{IsFree}
use Rattle.bihash_plan.proofs.Places.{free_inside}
use Rattle.bihash_plan.proofs.larger_block.has_free_place_for_plan.Goals as goal

some_free : {K : Type 0} (places : List (K × ℕ)) (r : Option ℕ)
    → IfSome r (λ i. (0 ≤ i) × (i < length places) × IsFree places i)
    → IfNone r ((i : ℕ) → 0 ≤ i → i < length places → IsFree places i → ⊥)
    → IsTrue (is_some r) ↔ ((i : ℕ) × IsFree places i)
some_free places None found none = (
  λ e. absurd (false≢true e),
  λ (i, vacant). absurd (none i (omega arith) (free_inside vacant) vacant),
)
some_free places (Some i) found none = (λ _. (i, found.2), λ _. refl)

pub returns : goal.returns
returns g c = rw c.is_some.ensures (some_free _ _ c.free_place.ensures.found c.free_place.ensures.none)
