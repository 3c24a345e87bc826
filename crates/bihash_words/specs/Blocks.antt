-- Lawful blocks, whatever their places are made of: `Stands key value i` says that place i has this pair. This is the
-- table's own rule.
use Rattle.std.specs.Prelude.{◌≡◌, ◌≤◌, ℕ, ◌/◌, Bool, true, false, List, Some}
use Rattle.std.specs.FinMap.{get}
use Rattle.bihash_words.specs.Maps.{Pairs}
use Rattle.bihash_words.specs.Pages.{Paging, page_of}

-- place i is open to the keys of a page: each place is where the block is linear, and else the
-- four places of the page are
abbrev pub IsOpen : Bool → ℕ → ℕ → Type 0
IsOpen true page i = Unit {0}
IsOpen false page i = i / 4 ≡ page

-- each key stands once and, unless the block is linear, in the page that its hash names
pub record AreLawfulPlaces {K : Type 0} (paging : Paging K) (log2 : ℕ) (linear : Bool)
    (Stands : K → ℕ → ℕ → Type 0) : Type 0 where
  pub small : log2 ≤ paging.max_log2
  pub once : (key : K) (v w i j : ℕ) → Stands key v i → Stands key w j → i ≡ j
  pub paged : (key : K) (v i : ℕ) → Stands key v i → IsOpen linear (page_of paging log2 key) i

-- each pair at the places is one of the map under the words of its key, and each pair that the map has under the
-- words of a key is at a place
pub record HoldsMap {K : Type 0} (words_of : K → List ℕ) (Stands : K → ℕ → ℕ → Type 0) (m : Pairs) : Type 0 where
  pub mapped : (key : K) (v i : ℕ) → Stands key v i → get m (words_of key) ≡ Some v
  pub found : (key : K) (v : ℕ) → get m (words_of key) ≡ Some v → (i : ℕ) × Stands key v i
