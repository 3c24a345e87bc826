-- The words of a block as places of keys and values.
use Rattle.std.specs.Prelude.{◌≡◌, ◌≢◌, ℕ, ◌*◌, ◌<◌, List, length, slice_get, Some}
use Rattle.bihash_words.specs.Blocks.{IsOpen}
use Rattle.bihash_words.specs.Pages.{page_of, word_paging}
use Rattle.bihash_words.specs.Sizes.{Sizes, sizes_of}
use Rattle.bihash_words.specs.declared.shape.Shape.{Ghosts}
use Rattle.bihash_rule.specs.Words.{place_words}
use Rattle.bihash_rule.specs.Blocks.{places, key_in, value_in, free, HoldsPair}
use Rattle.bihash_rule.specs.declared.view.Extent.{Extent}

-- place i may hold pairs of the key: each place where the block is linear, and else those of the key's page
abbrev pub IsOpenTo : Sizes → Extent → List ℕ → ℕ → Type 0
IsOpenTo z e key i = IsOpen e.size.linear (page_of (word_paging z) e.size.log2 key) i

-- place i is free, and open to the key
pub record IsFreeFor (z : Sizes) (e : Extent) (block : List ℕ) (key : List ℕ) (i : ℕ) : Type 0 where
  pub inside : i < places e.page e.size.log2
  pub free : value_in z block i ≡ free
  pub reached : IsOpenTo z e key i

-- no place that is open to the key is free
abbrev pub IsCrowdedFor : Sizes → Extent → List ℕ → List ℕ → Type 0
IsCrowdedFor z e block key = (i : ℕ) → IsFreeFor z e block key i → ⊥

-- the pair of the key is at place i
abbrev pub HasPairOf : Sizes → Extent → List ℕ → List ℕ → ℕ → Type 0
HasPairOf z e block key i = HoldsPair z e block key (value_in z block i) i

-- the places have the values of these words and, where they aren't free, the keys
pub record ArePlaces {A K : Type 0} (g : Ghosts A K) (ps : List (K × ℕ)) (words : List ℕ) : Type 0 where
  pub count : length words ≡ length ps * place_words (sizes_of g)
  pub key : (i : ℕ) (p : K × ℕ) → slice_get ps i ≡ Some p → p.1 ≢ free
      → key_in (sizes_of g) words i ≡ g.words_of p.0
  pub value : (i : ℕ) (p : K × ℕ) → slice_get ps i ≡ Some p → value_in (sizes_of g) words i ≡ p.1
