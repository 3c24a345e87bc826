-- Which words count as expired, as a list that an entry can bear, and which pair of a map goes first. This is the
-- table's own rule.
use Rattle.std.specs.Prelude.{ℕ, zero, suc, ◌^◌, ◌==◌, Bool, true, false, if◌then◌else◌, List, [], ◌∷◌, Option, Some, None}
use Rattle.bihash_words.specs.declared.recycling_note.Recycling.{Recycling}

-- the words below a bound of which the test holds
unfoldable pub words_below : (ℕ → Bool) → ℕ → List ℕ
words_below test zero = []
words_below test (suc n) = if test n then n ∷ words_below test n else words_below test n

-- the words at which an expiry says that a value is expired
unfoldable pub expired_words : (ℕ → Bool) → List ℕ
expired_words test = words_below test (2 ^ 64)

-- whether a word is among them
abbrev pub is_among : ℕ → List ℕ → Bool
is_among value [] = false
is_among value (word ∷ words) = if word == value then true else is_among value words

-- the key of the first of these pairs whose value is among the expired words
abbrev pub first_expired : List ℕ → List (List ℕ × ℕ) → Option (List ℕ)
first_expired expired [] = None
first_expired expired (pair ∷ pairs) = if is_among pair.1 expired then Some pair.0 else first_expired expired pairs

-- an entry of a call without an expiry
abbrev pub no_recycling : Recycling
no_recycling = record { expired = []; removed = None }
