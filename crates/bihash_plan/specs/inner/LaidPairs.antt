-- Pairs that are laid out in a block, one after the other.
use Rattle.std.specs.Prelude.{◌≡◌, ◌≤◌, ◌<◌, ℕ, ◌*◌, ◌^◌, Bool, true, false, ◌==◌, List, length, take, count_by, All}
use Rattle.bihash_words.specs.Pages.{Paging, page_of}
use Rattle.bihash_words.specs.declared.block_size.BlockSize.{BlockSize}
use Rattle.bihash_plan.specs.Blocks.{HasKey, IsLawfulBlock, is_taken, pairs}
use Rattle.bihash_plan.specs.Layouts.{IsLaid, IsTakenBefore}

-- no place has a pair
abbrev pub AllFree : {K : Type 0} → List (K × ℕ) → Type 0
AllFree places = All (λ place. is_taken place ≡ false) places

-- there are no more pairs than a block of this kind holds
pub record Suits {K : Type 0} (paging : Paging K) (log2 : ℕ) (linear : Bool) (ps : List (K × ℕ)) : Type 0 where
  pub in_pages : linear ≡ false → (page : ℕ) → count_by (λ pair. page_of paging log2 pair.0 == page) ps ≤ 4
  pub in_all : linear ≡ true → length ps ≤ 4 * 2 ^ log2

-- the pairs of a lawful block, which are no more than a block of this kind holds, may be laid out in one without a pair
pub record MayBeLaid {K : Type 0} (paging : Paging K) (log2 : ℕ) (linear : Bool) (old out : List (K × ℕ)) : Type 0 where
  pub was : BlockSize
  pub lawful : IsLawfulBlock paging was.log2 was.linear old
  pub suits : Suits paging log2 linear (pairs old)
  pub free : AllFree out

-- what is in the block after the first places: keys of these places alone
pub record IsLaidSoFar {K : Type 0} (paging : Paging K) (log2 : ℕ) (linear : Bool) (old : List (K × ℕ))
    (i next : ℕ) (out : List (K × ℕ)) : Type 0 where
  pub laid : IsLaid paging log2 linear (pairs (take i old)) out
  pub before : IsTakenBefore linear next out
  pub from_old : (k : K) (j : ℕ) → HasKey out k j → (n : ℕ) × (n < i) × HasKey old k n
