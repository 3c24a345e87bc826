-- Lawful blocks: the places of a bucket, and where its pairs may stand. This is the table's own rule.
use Rattle.std.specs.Prelude.{◌≡◌, ◌≢◌, ◌<◌, ◌⊎◌, ℕ, ◌*◌, ◌^◌, Bool, not, ◌==◌, List, length, filter, slice_get, Some}
use Rattle.bihash_words.specs.Blocks.{AreLawfulPlaces, IsOpen}
use Rattle.bihash_words.specs.Pages.{Paging, page_of}
use Rattle.bihash_words.specs.Patches.{free_mark}

abbrev pub is_taken : {K : Type 0} → K × ℕ → Bool
is_taken place = not (place.1 == free_mark)

-- the pairs of a block, in the order of their places
abbrev pub pairs : {K : Type 0} → List (K × ℕ) → List (K × ℕ)
pairs places = filter is_taken places

-- this pair is at place i
pub record HasPairAt {K : Type 0} (places : List (K × ℕ)) (key : K) (value i : ℕ) : Type 0 where
  pub at : slice_get places i ≡ Some (key, value)
  pub taken : value ≢ free_mark

-- a pair with the key is at place i
pub record HasKey {K : Type 0} (places : List (K × ℕ)) (key : K) (i : ℕ) : Type 0 where
  pub value : ℕ
  pub pair : HasPairAt places key value i

-- place i is free, and the key that it shows means nothing
pub record IsFree {K : Type 0} (places : List (K × ℕ)) (i : ℕ) : Type 0 where
  pub key : K
  pub at : slice_get places i ≡ Some (key, free_mark)

-- no pair of the block has the key
abbrev pub IsNew : {K : Type 0} → List (K × ℕ) → K → Type 0
IsNew places key = (i : ℕ) → HasKey places key i → ⊥

-- no place that is open to the page is free
abbrev pub IsCrowded : {K : Type 0} → Bool → ℕ → List (K × ℕ) → Type 0
IsCrowded linear page places = (i : ℕ) → IsOpen linear page i → IsFree places i → ⊥

-- place i is the first free one that is open to the page
pub record IsFirstFree {K : Type 0} (linear : Bool) (page : ℕ) (places : List (K × ℕ)) (i : ℕ) : Type 0 where
  pub vacant : IsFree places i
  pub reached : IsOpen linear page i
  pub first : (j : ℕ) → j < i → IsOpen linear page j → IsFree places j → ⊥

-- there is no place where a bucket has no block, and else four a page
abbrev pub IsSized : ℕ → ℕ → Type 0
IsSized log2 count = (count ≡ 0) ⊎ (count ≡ 4 * 2 ^ log2)

-- the places of a lawful block, or of no block
pub record IsLawfulBlock {K : Type 0} (paging : Paging K) (log2 : ℕ) (linear : Bool)
    (places : List (K × ℕ)) : Type 0 where
  pub sized : IsSized log2 (length places)
  pub rule : AreLawfulPlaces paging log2 linear (HasPairAt places)

-- the key that place i shows names the page
pub record NamesPage {K : Type 0} (paging : Paging K) (log2 page : ℕ) (places : List (K × ℕ))
    (i : ℕ) : Type 0 where
  pub key : K
  pub value : ℕ
  pub at : slice_get places i ≡ Some (key, value)
  pub named : page_of paging log2 key ≡ page
