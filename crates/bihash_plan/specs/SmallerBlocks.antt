-- The smaller block that a bucket can have which keeps fewer pairs. This is the table's own rule.
use Rattle.std.specs.Prelude.{◌≤◌, ◌<◌, ◌+◌, ◌≡◌, ℕ, List, [], ◌∷◌, length, drop, slice_get, Option, Some, IfSome, IfNone}
use Rattle.bihash_words.specs.Pages.{Paging}
use Rattle.bihash_plan.specs.Blocks.{pairs}
use Rattle.bihash_plan.specs.Plans.{Fits, keys_of}

-- the first size below another in which no page is named by more than four of the pairs at these places, of which there
-- is one at least
pub record IsSmaller {K : Type 0} (paging : Paging K) (below : ℕ) (places : List (K × ℕ)) (log2 : ℕ) : Type 0 where
  pub some : 1 ≤ length (pairs places)
  pub less : log2 < below
  pub fits : Fits paging log2 (keys_of places)
  pub first : (other : ℕ) → other < log2 → Fits paging other (keys_of places) → ⊥

-- that size, and None where there is none
pub record TellsSmaller {K : Type 0} (paging : Paging K) (below : ℕ) (places : List (K × ℕ)) (r : Option ℕ) : Type 0 where
  pub found : IfSome r (IsSmaller paging below places)
  pub none : IfNone r ((log2 : ℕ) → IsSmaller paging below places log2 → ⊥)

-- the first pair is at place i
pub record IsFirstPair {K : Type 0} (places : List (K × ℕ)) (i : ℕ) : Type 0 where
  pub inside : i < length places
  pub pair : K × ℕ
  pub at : slice_get places i ≡ Some pair
  pub splits : pairs places ≡ pair ∷ pairs (drop (i + 1) places)

-- that place, and None where there is no pair
pub record TellsFirstPair {K : Type 0} (places : List (K × ℕ)) (r : Option ℕ) : Type 0 where
  pub found : IfSome r (IsFirstPair places)
  pub none : IfNone r (pairs places ≡ [])
