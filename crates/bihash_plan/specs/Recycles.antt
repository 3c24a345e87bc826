-- Which pair of a block goes for a new one, and whether the block is linear then. This is the table's own rule.
use Rattle.std.specs.Prelude.{◌≡◌, ◌≢◌, ◌<◌, ◌/◌, ◌^◌, ◌||◌, ◌==◌, ℕ, Bool, true, false, not, List}
use Rattle.std.specs.Cmp.Lexicographic.{slice_cmp}
use Rattle.std.specs.Ordering.{nat_cmp}
use Rattle.std.specs.declared.cmp.Ordering.TheVariants.{Greater}
use Rattle.bihash_words.specs.Pages.{Paging, page_of}
use Rattle.bihash_words.specs.declared.block_size.BlockSize.{BlockSize}
use Rattle.bihash_plan.specs.Blocks.{HasPairAt}
use Rattle.bihash_plan.specs.declared.recycled_place.Recycle.{Recycle}

-- the pair at place i is expired, and no expired pair has a key that is less by its words
pub record IsLeastExpired {K : Type 0} (words_of : K → List ℕ) (is_expired : ℕ → Bool) (places : List (K × ℕ))
    (i : ℕ) : Type 0 where
  pub key : K
  pub value : ℕ
  pub pair : HasPairAt places key value i
  pub word : value < 2 ^ 64
  pub expired : is_expired value ≡ true
  pub least : (other : K) (v j : ℕ) → HasPairAt places other v j → is_expired v ≡ true
      → slice_cmp nat_cmp (words_of key) (words_of other) ≢ Greater

-- no pair is expired
abbrev pub NoneIsExpired : {K : Type 0} → (ℕ → Bool) → List (K × ℕ) → Type 0
NoneIsExpired {K} is_expired places = (key : K) (value i : ℕ) → HasPairAt places key value i → is_expired value ≡ false

-- the block is linear where it was, or where the place isn't in the page of the new key
abbrev pub IsMarked : {K : Type 0} → Paging K → BlockSize → K → Recycle → Type 0
IsMarked paging size key r = r.linear ≡ (size.linear || not (r.place / 4 == page_of paging size.log2 key))
