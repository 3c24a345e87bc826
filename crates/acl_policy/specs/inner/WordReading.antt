-- What the readers of words give, as functions on bytes and words. The grammar itself is in the other files.
use Rattle.std.specs.Prelude.{ℕ, Option, Some, None, List, [], ◌∷◌, nat_le, if◌then◌else◌}
pub mod Numerals
pub mod Prefixes
pub mod Traffic

infixl 10 ◌>>=◌
abbrev pub ◌>>=◌ : {A B : Type 0} → Option A → (A → Option B) → Option B
(Some x) >>= f = f x
None >>= f = None

-- the first word and those after it
abbrev pub next_in : List (List ℕ) → Option (List ℕ × List (List ℕ))
next_in [] = None
next_in (word ∷ words) = Some (word, words)

-- a value where no word is left
abbrev pub if_last : {A : Type 0} → A → List (List ℕ) → Option A
if_last value [] = Some value
if_last value (word ∷ words) = None

abbrev pub at_most : ℕ → ℕ → Option ℕ
at_most most n = if nat_le n most then Some n else None
