-- What searches of a block's places ask, and what the plan of a key tells.
use Rattle.std.specs.Prelude.{◌≡◌, ◌≤◌, ◌<◌, ◌*◌, ◌^◌, ◌↔◌, ℕ, Bool, List, Option, Some, None, IfNone, IfSome, length}
use Rattle.std.specs.Bool.{OnTrue, OnFalse}
use Rattle.bihash_words.specs.declared.shape.Shape.{Ghosts}
use Rattle.bihash_words.specs.Blocks.{IsOpen}
use Rattle.bihash_words.specs.Pages.{Paging}
use Rattle.bihash_words.specs.Sizes.{IsSound, sizes_of}
use Rattle.bihash_plan.specs.Blocks.{HasKey, IsFree, IsNew, IsSized, NamesPage, pairs}
use Rattle.bihash_plan.specs.Plans.{IsPlan}
use Rattle.bihash_plan.specs.declared.plan_answer.Plan.{Plan}
use Rattle.bihash_plan.specs.declared.plan_answer.Plan.TheVariants.{Full}

-- the shape is sound, and its blocks may have 2 ^ log2 pages
pub record MayHavePages {A K : Type 0} (s : Ghosts A K) (log2 : ℕ) : Type 0 where
  pub shape : IsSound (sizes_of s)
  pub small : log2 ≤ s.MAX_LOG2

-- so many places are those of a block of 2 ^ log2 pages, or of none
pub record MayHavePlaces {A K : Type 0} (s : Ghosts A K) (log2 count : ℕ) : Type 0 where
  pub pages : MayHavePages s log2
  pub sized : IsSized log2 count

-- so many places are those of a block of 2 ^ log2 pages
pub record HasPlaces {A K : Type 0} (s : Ghosts A K) (log2 count : ℕ) : Type 0 where
  pub pages : MayHavePages s log2
  pub sized : count ≡ 4 * 2 ^ log2

-- the places up to this one are there
pub record IsRange {K : Type 0} (places : List (K × ℕ)) (to : ℕ) : Type 0 where
  pub short : length places < 2 ^ 62
  pub within : to ≤ length places

-- this place is there
pub record IsPlace {K : Type 0} (places : List (K × ℕ)) (i : ℕ) : Type 0 where
  pub short : length places < 2 ^ 62
  pub inside : i < length places

-- the places are few enough to be numbered, and their keys may name pages of a block of 2 ^ log2 pages
pub record MayLookAt {A K : Type 0} (s : Ghosts A K) (log2 : ℕ) (places : List (K × ℕ)) : Type 0 where
  pub pages : MayHavePages s log2
  pub short : length places < 2 ^ 62

-- the places from one to before another are those of so many that are open to the page
pub record AreOpenPlaces (linear : Bool) (page count from to : ℕ) : Type 0 where
  pub order : from ≤ to
  pub within : to ≤ count
  pub exact : (i : ℕ) → i < count → ((from ≤ i) × (i < to)) ↔ IsOpen linear page i

-- the first free place of those from one to before another, and None where none of them is free
pub record IsFirstFreeOf {K : Type 0} (places : List (K × ℕ)) (from to : ℕ) (r : Option ℕ) : Type 0 where
  pub found : IfSome r (λ i. (from ≤ i) × (i < to) × IsFree places i)
  pub first : IfSome r (λ i. (j : ℕ) → from ≤ j → j < i → IsFree places j → ⊥)
  pub none : IfNone r ((i : ℕ) → from ≤ i → i < to → IsFree places i → ⊥)

-- whether one of the places from one to before another shows a key of another page
pub record TellsOtherPage {K : Type 0} (paging : Paging K) (log2 page : ℕ) (places : List (K × ℕ)) (from to : ℕ)
    (r : Bool) : Type 0 where
  pub other : OnTrue r ((i : ℕ) × (from ≤ i) × (i < to) × (NamesPage paging log2 page places i → ⊥))
  pub same : OnFalse r ((i : ℕ) → from ≤ i → i < to → NamesPage paging log2 page places i)

-- The plan of a key, and no other. It refuses exactly where the bucket holds as many pairs as the largest block.
pub record IsOnlyPlan {K : Type 0} (paging : Paging K) (log2 : ℕ) (linear : Bool) (places : List (K × ℕ)) (key : K)
    (plan : Plan) : Type 0 where
  pub exact : IsPlan paging log2 linear places key plan
  pub only : (other : Plan) → IsPlan paging log2 linear places key other → other ≡ plan
  pub full : IsNew places key → (plan ≡ Full) ↔ (length (pairs places) ≡ 4 * 2 ^ paging.max_log2)

-- the place of the key, and None exactly where no pair has it
pub record IsPlaceOfKey {K : Type 0} (places : List (K × ℕ)) (key : K) (r : Option ℕ) : Type 0 where
  pub place : (i : ℕ) → HasKey places key i → r ≡ Some i
  pub none : (r ≡ None) ↔ IsNew places key
