use Rattle.std.proofs.Common.{◌≡◌, ◌≤◌, ◌<◌, ℕ, Bool, List, length, Option, Some, None, IfSome, IfNone, ap, refl}
use Rattle.bihash_words.specs.Blocks.{IsOpen}
use Rattle.bihash_words.specs.Pages.{Paging, page_of}
use Rattle.bihash_plan.specs.Blocks.{HasKey, IsLawfulBlock, IsNew}
use Rattle.bihash_plan.proofs.Places.{pair_inside}
use Rattle.bihash_plan.proofs.block_search.find.Goals as goal

-- the places that are open are those that were looked at
open_only : {K : Type 0} (places : List (K × ℕ)) (key : K) (linear : Bool) (page from to : ℕ) (r : Option ℕ)
    → ((i : ℕ) → i < length places → IsOpen linear page i → (from ≤ i) × (i < to))
    → IfNone r ((i : ℕ) → from ≤ i → i < to → HasKey places key i → ⊥)
    → IfNone r ((i : ℕ) → IsOpen linear page i → HasKey places key i → ⊥)
open_only places key linear page from to None among none = λ i is_open h. let looked = among i
    (pair_inside h.pair) is_open in none i looked.0 looked.1 h
open_only places key linear page from to (Some i) among none = none

-- the place that was found is one of them
reached : {K : Type 0} (places : List (K × ℕ)) (key : K) (linear : Bool) (page from to : ℕ) (r : Option ℕ)
    → ((i : ℕ) → i < length places → (from ≤ i) × (i < to) → IsOpen linear page i)
    → IfSome r (HasKey places key) → IfSome r (λ i. (from ≤ i) × (i < to)) → IfSome r (IsOpen linear page)
reached places key linear page from to None is_open found among = among
reached places key linear page from to (Some i) is_open found among = is_open i (pair_inside found.pair) among

-- a lawful block has the key nowhere else
found_is : {K : Type 0} (paging : Paging K) (log2 : ℕ) (linear : Bool) (places : List (K × ℕ)) (key : K)
    (r : Option ℕ)
    → IfSome r (HasKey places key)
    → IfNone r ((i : ℕ) → IsOpen linear (page_of paging log2 key) i → HasKey places key i → ⊥)
    → IsLawfulBlock paging log2 linear places → (i : ℕ) → HasKey places key i → r ≡ Some i
found_is paging log2 linear places key None found none lawful i h = absurd (none i (lawful.rule.paged key h.value i h.pair) h)
found_is paging log2 linear places key (Some j) found none lawful i h = ap Some (lawful.rule.once key found.value h.value j i found.pair h.pair)

none_is : {K : Type 0} (places : List (K × ℕ)) (key : K) (r : Option ℕ)
    → IfSome r (HasKey places key) → IsNew places key → r ≡ None
none_is places key None found new = refl
none_is places key (Some i) found new = absurd (new i found)

absent : (i : ℕ) (r : Option ℕ) → r ≡ None → r ≡ Some i → ⊥
absent i r none found = cc

pub returns-clause-reached : goal.returns-clause-reached
returns-clause-reached g c = reached _ _ _ _ _ _ _ (λ i inside. (c.places_open_to-from.ensures.exact i inside).0)
    c.place_of_key.ensures.found c.place_of_key.ensures.among

pub returns-clause-open_only : goal.returns-clause-open_only
returns-clause-open_only g c = open_only _ _ _ _ _ _ _
    (λ i inside. (c.places_open_to-from.ensures.exact i inside).1) c.place_of_key.ensures.none

pub returns-clause-lawful : goal.returns-clause-lawful
returns-clause-lawful g c = λ lawful.
    let place = found_is _ _ _ _ _ _ c.place_of_key.ensures.found (returns-clause-open_only g c) lawful in
    record { place = place; none = (λ none i h. absent i _ none (place i h), none_is _ _ _ c.place_of_key.ensures.found) }
