-- How pairs are laid out in a larger block. This is the table's own rule.
use Rattle.std.specs.Prelude.{◌≡◌, ◌<◌, ◌≤◌, ℕ, ◌*◌, ◌^◌, Bool, true, false, ◌==◌, List, [], ◌∷◌, ◌++◌, take, drop, filter, Option, IfNone, IfSome}
use Rattle.std.specs.List.Sorted.{IsPermutation}
use Rattle.bihash_words.specs.Pages.{Paging, page_of}
use Rattle.bihash_plan.specs.declared.plan_answer.Plan.TheVariants.{Grow}
use Rattle.bihash_words.specs.declared.block_size.BlockSize.{BlockSize}
use Rattle.bihash_words.specs.declared.shape.Shape.{Ghosts}
use Rattle.bihash_plan.specs.Blocks.{IsCrowded, IsFirstFree, IsFree, IsLawfulBlock, pairs}
use Rattle.bihash_plan.specs.Plans.{IsPlan}
use Rattle.bihash_plan.specs.Searches.{HasPlaces}

-- the plan of a key, at a lawful block or at none, names this larger block
pub record IsNamed {K : Type 0} (paging : Paging K) (places : List (K × ℕ)) (key : K)
    (size : BlockSize) : Type 0 where
  pub was : BlockSize
  pub lawful : IsLawfulBlock paging was.log2 was.linear places
  pub plan : IsPlan paging was.log2 was.linear places key (Grow size)

-- the places hold these pairs in their order and are free after them
abbrev pub AreInOrder : {K : Type 0} → List (K × ℕ) → List (K × ℕ) → Type 0
AreInOrder {K} ps places = (rest : List (K × ℕ)) × (places ≡ ps ++ rest) × (pairs rest ≡ [])

-- each page of the block holds the pairs that name it in their order, and a linear block all pairs
abbrev pub AreLaidOut : {K : Type 0} → Paging K → ℕ → Bool → List (K × ℕ) → List (K × ℕ) → Type 0
AreLaidOut paging log2 true ps places = AreInOrder ps places
AreLaidOut paging log2 false ps places =
    (page : ℕ) → page < 2 ^ log2
    → AreInOrder (filter (λ pair. page_of paging log2 pair.0 == page) ps) (take 4 (drop (4 * page) places))

-- a block that has just these pairs: it is lawful, and each page has its pairs in their order
pub record IsLaid {K : Type 0} (paging : Paging K) (log2 : ℕ) (linear : Bool)
    (ps places : List (K × ℕ)) : Type 0 where
  pub lawful : IsLawfulBlock paging log2 linear places
  pub same_pairs : IsPermutation ps (pairs places)
  pub in_order : AreLaidOut paging log2 linear ps places

-- a block that takes the pairs of the old places and one more: it is lawful and has these pairs
-- and nothing else, in the order of the old places with the new pair last
pub record IsRehash {K : Type 0} (paging : Paging K) (log2 : ℕ) (linear : Bool) (old : List (K × ℕ)) (key : K)
    (value : ℕ) (new : List (K × ℕ)) : Type 0 where
  pub lawful : IsLawfulBlock paging log2 linear new
  pub same_pairs : IsPermutation (pairs old ++ (key, value) ∷ []) (pairs new)
  pub in_order : AreLaidOut paging log2 linear (pairs old ++ (key, value) ∷ []) new

-- a linear block has no free place before this one
abbrev pub IsTakenBefore : {K : Type 0} → Bool → ℕ → List (K × ℕ) → Type 0
IsTakenBefore linear next places = linear ≡ true → (i : ℕ) → i < next → IsFree places i → ⊥

-- so many places are those of a block of 2 ^ log2 pages, and this one is among them or their end
pub record HasPlacesTo {A K : Type 0} (s : Ghosts A K) (log2 count next : ℕ) : Type 0 where
  pub places : HasPlaces s log2 count
  pub within : next ≤ count

-- the first free place that is open to the page, and None where no such place is free
pub record IsFirstFreeOrNone {K : Type 0} (linear : Bool) (page : ℕ) (places : List (K × ℕ)) (r : Option ℕ) : Type 0 where
  pub found : IfSome r (IsFirstFree linear page places)
  pub none : IfNone r (IsCrowded linear page places)
