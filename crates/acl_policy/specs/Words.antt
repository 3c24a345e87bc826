-- The words of a line, in this project's policy grammar.
use Rattle.std.specs.Prelude.{ℕ, Bool, true, false, List, [], ◌∷◌, ◌||◌, ◌==◌, filter}
use Rattle.std.specs.List.{before_first, slice_split}

-- a space or a tab
abbrev pub is_blank : ℕ → Bool
is_blank b = (b == 32) || (b == 9)

abbrev pub is_hash : ℕ → Bool
is_hash b = b == 35

-- a line up to its comment
unfoldable pub without_comment : List ℕ → List ℕ
without_comment line = before_first is_hash line

-- A part between two blanks is a word where it has a byte.
abbrev pub is_word : List ℕ → Bool
is_word [] = false
is_word (byte ∷ bytes) = true

-- what stands between the blanks of a text
unfoldable pub words_of : List ℕ → List (List ℕ)
words_of text = filter is_word (slice_split is_blank text)
