-- What the word of a bucket tells a search of its block, and which places a search looks at.
use Rattle.std.specs.Prelude.{◌≡◌, ◌↔◌, ℕ, ◌*◌, ◌^◌, ◌<◌, ◌≤◌, false, List}
use Rattle.bihash_words.specs.Sizes.{Sizes, IsSound}
use Rattle.bihash_words.specs.Words.{FitsWord, packed}
use Rattle.bihash_rule.specs.Blocks.{places}
use Rattle.bihash_rule.specs.Buckets.{word_of}
use Rattle.bihash_rule.specs.declared.view.Extent.{Extent}
use Rattle.bihash_rule.specs.Places.{IsOpenTo}

-- the unlocked word of a bucket that has this block
pub record IsWordOf (z : Sizes) (word : ℕ) (e : Extent) : Type 0 where
  pub version : ℕ
  pub fits : FitsWord (word_of e false version)
  pub stood : word ≡ packed (word_of e false version)
  pub small : e.size.log2 ≤ z.max_log2

-- the places from one to before another are those of the block that are open to the key
pub record AreOpenTo (z : Sizes) (e : Extent) (key : List ℕ) (from to : ℕ) : Type 0 where
  pub within : to ≤ places e.page e.size.log2
  pub exact : (i : ℕ) → i < places e.page e.size.log2 → ((from ≤ i) × (i < to)) ↔ IsOpenTo z e key i

-- such a word of some block
pub record NamesBlock (z : Sizes) (word : ℕ) : Type 0 where
  pub sound : IsSound z
  pub extent : Extent
  pub names : IsWordOf z word extent

-- the block of the word has so many places
pub record CountsPlaces (z : Sizes) (word n : ℕ) : Type 0 where
  pub count : (e : Extent) → IsWordOf z word e → n ≡ places e.page e.size.log2
  pub few : n ≤ 4 * 2 ^ z.max_log2

-- the pages from one to before another are those of the word's block that are open to the key
pub record AreOpenPages (z : Sizes) (word : ℕ) (key : List ℕ) (from to : ℕ) : Type 0 where
  pub order : from ≤ to
  pub few : to ≤ 2 ^ 24
  pub pages : (e : Extent) → IsWordOf z word e → AreOpenTo z e key (4 * from) (4 * to)
