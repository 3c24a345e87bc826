-- What a key needs of its bucket's block: its own place, a free one, or a larger block. This is
-- the table's own rule.
use Rattle.std.specs.Prelude.{◌≡◌, ◌≤◌, ◌<◌, ◌⊎◌, ℕ, ◌+◌, Bool, true, false, ◌==◌, List, [], ◌∷◌, map, count_by}
use Rattle.bihash_words.specs.Pages.{Paging, page_of}
use Rattle.bihash_plan.specs.declared.plan_answer.Plan.{Plan}
use Rattle.bihash_plan.specs.declared.plan_answer.Plan.TheVariants.{InPlace, Grow, Full}
use Rattle.bihash_plan.specs.Blocks.{HasKey, IsCrowded, IsFirstFree, IsFree, IsNew, pairs}

-- the keys of a block's pairs
abbrev pub keys_of : {K : Type 0} → List (K × ℕ) → List K
keys_of places = map (λ pair. pair.0) (pairs places)

-- no page of a block of 2 ^ log2 pages is named by more than four of the keys
pub record Fits {K : Type 0} (paging : Paging K) (log2 : ℕ) (keys : List K) : Type 0 where
  pub few : (page : ℕ) → count_by (λ key. page_of paging log2 key == page) keys ≤ 4

-- a block of 2 ^ log2 pages is within the greatest size, and the keys fit it
abbrev pub HasRoom : {K : Type 0} → Paging K → List K → ℕ → Type 0
HasRoom paging keys log2 = (log2 ≤ paging.max_log2) × Fits paging log2 keys

-- neither twice nor four times the pages have room for the keys
abbrev pub NeedsLinear : {K : Type 0} → Paging K → ℕ → List K → Type 0
NeedsLinear paging log2 keys = (HasRoom paging keys (log2 + 1) → ⊥) × (HasRoom paging keys (log2 + 2) → ⊥)

-- a block of the greatest size can still become linear: it isn't yet, and has a free place
abbrev pub CanBecomeLinear : {K : Type 0} → Paging K → ℕ → Bool → List (K × ℕ) → Type 0
CanBecomeLinear paging log2 linear places =
    (paging.max_log2 < log2 + 1) × (linear ≡ false) × ((i : ℕ) × IsFree places i)

-- the size of a block that isn't linear and takes the keys: twice the pages, or four times where
-- twice have no room
abbrev pub IsSplit : {K : Type 0} → Paging K → ℕ → List K → ℕ → Type 0
IsSplit paging log2 keys size =
    HasRoom paging keys size
    × ((size ≡ log2 + 1) ⊎ ((size ≡ log2 + 2) × (HasRoom paging keys (log2 + 1) → ⊥)))

-- the size of a linear block: twice the pages, or as many at the greatest size
abbrev pub IsLinearSize : {K : Type 0} → Paging K → ℕ → Bool → List (K × ℕ) → ℕ → Type 0
IsLinearSize paging log2 linear places size =
    ((size ≡ log2 + 1) × (size ≤ paging.max_log2))
    ⊎ ((size ≡ paging.max_log2) × CanBecomeLinear paging log2 linear places)

-- the size and the linear mark of the block that takes the pairs and one more key: one that isn't
-- linear where there is room, and else a linear one. A bucket without a block takes one page
abbrev pub IsGrowth : {K : Type 0} → Paging K → ℕ → Bool → List (K × ℕ) → K → ℕ → Bool → Type 0
IsGrowth paging log2 linear [] key size mark = (size ≡ 0) × (mark ≡ false)
IsGrowth paging log2 linear (place ∷ places) key size false =
    IsSplit paging log2 (key ∷ keys_of (place ∷ places)) size
IsGrowth paging log2 linear (place ∷ places) key size true =
    NeedsLinear paging log2 (key ∷ keys_of (place ∷ places))
    × IsLinearSize paging log2 linear (place ∷ places) size

-- no block can take the pairs and one more key: this one has the greatest size and can't become
-- linear
abbrev pub IsExhausted : {K : Type 0} → Paging K → ℕ → Bool → List (K × ℕ) → K → Type 0
IsExhausted paging log2 linear [] key = ⊥
IsExhausted paging log2 linear (place ∷ places) key =
    (paging.max_log2 < log2 + 1) × (CanBecomeLinear paging log2 linear (place ∷ places) → ⊥)

-- what a key needs of a lawful block: the place where it stands, or, where it is new, the first
-- free place open to it, or a larger block, or there is no room
abbrev pub IsPlan : {K : Type 0} → Paging K → ℕ → Bool → List (K × ℕ) → K → Plan → Type 0
IsPlan paging log2 linear places key (InPlace i) =
    HasKey places key i ⊎ (IsNew places key × IsFirstFree linear (page_of paging log2 key) places i)
IsPlan paging log2 linear places key (Grow size) =
    IsNew places key
    × IsCrowded linear (page_of paging log2 key) places
    × IsGrowth paging log2 linear places key size.log2 size.linear
IsPlan paging log2 linear places key Full =
    IsNew places key
    × IsCrowded linear (page_of paging log2 key) places
    × IsExhausted paging log2 linear places key

-- what holds of a plan for any places: one that is named has the key or is free, and no block is
-- above the greatest size
abbrev pub IsSafe : {K : Type 0} → Paging K → List (K × ℕ) → K → Plan → Type 0
IsSafe paging places key (InPlace i) = HasKey places key i ⊎ IsFree places i
IsSafe paging places key (Grow size) = size.log2 ≤ paging.max_log2
IsSafe paging places key Full = Unit {0}
