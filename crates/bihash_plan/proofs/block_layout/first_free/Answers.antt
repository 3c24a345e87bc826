use Rattle.std.proofs.Common.{◌≡◌, ◌≤◌, ◌<◌, ℕ, Bool, true, false, List, Option, Some, None, IfSome, IfNone, length, ⊎_elim}
use Rattle.std.proofs.lemmas.Bool.{cases_lt, false≢true}
use Rattle.bihash_plan.specs.Blocks.{IsCrowded, IsFirstFree, IsFree}
use Rattle.bihash_plan.specs.Layouts.{IsTakenBefore}
use Rattle.bihash_plan.proofs.OpenPlaces.{AreOpen, crowded_from_open, first_free_from_open}
use Rattle.bihash_plan.proofs.Places.{free_inside}
use Rattle.bihash_plan.proofs.block_layout.first_free.Goals as goal

-- each place of a linear block is open, and none is free before the next
first_linear : {K : Type 0} (linear : Bool) (page : ℕ) (places : List (K × ℕ)) (next : ℕ) (r : Option ℕ)
    → linear ≡ true → IfSome r (λ i. (next ≤ i) × (i < length places) × IsFree places i)
    → IfSome r (λ i. (j : ℕ) → next ≤ j → j < i → IsFree places j → ⊥) → IsTakenBefore linear next places
    → IfSome r (IsFirstFree linear page places)
first_linear false page places next r e found first before = absurd (false≢true e)
first_linear true page places next None e found first before = tt
first_linear true page places next (Some i) e found first before = record {
  vacant = found.2;
  reached = tt;
  first = λ j less _ h. ⊎_elim (λ (low : j < next). before e j low h) (λ (high : next ≤ j). first j high less h)
      (cases_lt j next);
}

crowded_linear : {K : Type 0} (linear : Bool) (page : ℕ) (places : List (K × ℕ)) (next : ℕ) (r : Option ℕ)
    → linear ≡ true → IfNone r ((i : ℕ) → next ≤ i → i < length places → IsFree places i → ⊥)
    → IsTakenBefore linear next places → IfNone r (IsCrowded linear page places)
crowded_linear linear page places next None e none before = λ i _ h. ⊎_elim
    (λ (low : i < next). before e i low h) (λ (high : next ≤ i). none i high (free_inside h) h)
    (cases_lt i next)
crowded_linear linear page places next (Some i) e none before = tt

first_in_page : {K : Type 0} (linear : Bool) (page : ℕ) (places : List (K × ℕ)) (from to : ℕ) (r : Option ℕ)
    → AreOpen linear page (length places) from to → IfSome r (λ i. (from ≤ i) × (i < to) × IsFree places i)
    → IfSome r (λ i. (j : ℕ) → from ≤ j → j < i → IsFree places j → ⊥)
    → IfSome r (IsFirstFree linear page places)
first_in_page linear page places from to None open_are found first = tt
first_in_page linear page places from to
    (Some i) open_are found first = first_free_from_open linear page places from to i open_are found first

crowded_page : {K : Type 0} (linear : Bool) (page : ℕ) (places : List (K × ℕ)) (from to : ℕ) (r : Option ℕ)
    → AreOpen linear page (length places) from to
    → IfNone r ((i : ℕ) → from ≤ i → i < to → IsFree places i → ⊥) → IfNone r (IsCrowded linear page places)
crowded_page linear page places from to None open_are none = crowded_from_open linear page places from to open_are none
crowded_page linear page places from to (Some i) open_are none = tt

pub returns-then-size-clause-first : goal.returns-then-size-clause-first
returns-then-size-clause-first g c = λ before. record {
  found = first_linear _ _ _ _ _ c.if-size.true c.free_place.ensures.found c.free_place.ensures.first before;
  none = crowded_linear _ _ _ _ _ c.if-size.true c.free_place.ensures.none before;
}

pub returns-clause-first : goal.returns-clause-first
returns-clause-first g c = λ before. record {
  found = first_in_page _ _ _ _ _ _ c.places_open_to-from.ensures.exact c.free_place-2.ensures.found c.free_place-2.ensures.first;
  none = crowded_page _ _ _ _ _ _ c.places_open_to-from.ensures.exact c.free_place-2.ensures.none;
}
