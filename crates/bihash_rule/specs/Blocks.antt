-- The block of a bucket: pages of four places each, in which the pairs of a map stand.
use Rattle.std.specs.Prelude.{◌≡◌, ◌≢◌, ℕ, ◌+◌, ◌*◌, ◌^◌, ◌<◌, false, List, slice_index, zero, suc}
use Rattle.std.proofs.Math.ListN.{take, drop}
use Rattle.std.specs.FinMap.{empty}
use Rattle.bihash_words.specs.Blocks.{AreLawfulPlaces, HoldsMap}
use Rattle.bihash_words.specs.Maps.{Pairs}
use Rattle.bihash_words.specs.Pages.{word_paging}
pub use Rattle.bihash_words.specs.Patches.{free_mark as free}
use Rattle.bihash_words.specs.Sizes.{Sizes}
use Rattle.bihash_rule.specs.Words.{place_words}
use Rattle.bihash_rule.specs.declared.view.Extent.{Extent}

-- a bucket without a block has this
abbrev pub no_block : Extent
no_block = record { page = 0; size = record { log2 = 0; linear = false } }

-- how many places the block of this log2 at a page has, where page 0 stands for no block
abbrev pub places : ℕ → ℕ → ℕ
places zero log2 = 0
places (suc page) log2 = 4 * 2 ^ log2

-- the words of the key, and the value, of place i
abbrev pub key_in : Sizes → List ℕ → ℕ → List ℕ
key_in z block i = take z.key_words (drop (i * place_words z) block)

abbrev pub value_in : Sizes → List ℕ → ℕ → ℕ
value_in z block i = slice_index block (i * place_words z + z.key_words)

-- place i has a pair
abbrev pub HasPair : Sizes → Extent → List ℕ → ℕ → Type 0
HasPair z e block i = (i < places e.page e.size.log2) × (value_in z block i ≢ free)

-- place i has this pair
pub record HoldsPair (z : Sizes) (e : Extent) (block key : List ℕ) (value i : ℕ) : Type 0 where
  pub pair : HasPair z e block i
  pub stands : key_in z block i ≡ key
  pub has : value_in z block i ≡ value

-- A lawful block of the map m. A bucket without pairs has no block.
pub record IsBlockOf (z : Sizes) (e : Extent) (block : List ℕ) (m : Pairs) : Type 0 where
  pub absent : e.page ≡ 0 → e ≡ no_block
  pub bare : m ≡ empty → e.page ≡ 0
  pub rule : AreLawfulPlaces (word_paging z) e.size.log2 e.size.linear (HoldsPair z e block)
  pub map : HoldsMap (λ key. key) (HoldsPair z e block) m
