-- How often pages are named, counted for a window of 64 pages at a time.
use Rattle.std.specs.Prelude.{◌≡◌, ◌≤◌, ◌<◌, ℕ, ◌+◌, ◌==◌, ◌∷◌, ◌++◌, Bool, List, [], length, count_by, slice_index}
use Rattle.std.specs.Bool.{OnTrue, OnFalse}
use Rattle.bihash_words.specs.Pages.{Paging, page_of}

-- for each of the 64 pages from the first on there is the number of keys that name it, at most four
pub record IsTally {K : Type 0} (paging : Paging K) (log2 first : ℕ) (keys : List K)
    (counts : List ℕ) : Type 0 where
  pub long : length counts ≡ 64
  pub each : (p : ℕ)
      → p < 64 → slice_index counts p ≡ count_by (λ key. page_of paging log2 key == first + p) keys
  pub few : (p : ℕ) → p < 64 → slice_index counts p ≤ 4

-- no page of the window is named by more than four of the keys
pub record FitsWindow {K : Type 0} (paging : Paging K) (log2 first : ℕ) (keys : List K) : Type 0 where
  pub few : (page : ℕ)
      → first ≤ page → page < first + 64 → count_by (λ key. page_of paging log2 key == page) keys ≤ 4

-- one more key is counted, or else is one too many for its page
pub record IsCounted {K : Type 0} (paging : Paging K) (log2 first : ℕ) (key : K) (was : List ℕ) (r : Bool)
    (now : List ℕ) : Type 0 where
  pub counted : (keys : List K) → IsTally paging log2 first keys was
      → OnTrue r (IsTally paging log2 first (keys ++ key ∷ []) now)
  pub refused : (keys : List K) → IsTally paging log2 first keys was
      → OnFalse r (FitsWindow paging log2 first (keys ++ key ∷ []) → ⊥)
