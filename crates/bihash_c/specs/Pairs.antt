-- The pairs of a table that was closed, for C.
use Rattle.std.specs.Prelude.{◌≡◌, ℕ, Bool, true, false, List, [], ◌∷◌, slice_index, Option, None, Some}
use Rattle.bihash_c.specs.declared.pair.Pair.{Pair}

-- two words, and three that are 0
abbrev pub padded : List ℕ → List ℕ
padded words = slice_index words 0 ∷ slice_index words 1 ∷ 0 ∷ 0 ∷ 0 ∷ []

-- a pair whose key has two words
abbrev pub of_two : Option (List ℕ × ℕ) → Option Pair
of_two None = None
of_two (Some pair) = Some (record { key = record { words = padded pair.0 }; value = pair.1 })

-- a pair whose key has five words
abbrev pub of_five : Option (List ℕ × ℕ) → Option Pair
of_five None = None
of_five (Some pair) = Some (record { key = record { words = pair.0 }; value = pair.1 })

-- the pair that was found was given, or there was none
abbrev pub IsGiven : Option Pair → (before after : Pair) → Bool → Type 0
IsGiven None before after given = (given ≡ false) × (after ≡ before)
IsGiven (Some pair) before after given = (given ≡ true) × (after ≡ pair)
