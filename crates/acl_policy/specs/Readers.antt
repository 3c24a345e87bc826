-- What it is to read as this project's policy grammar says.
use Rattle.std.specs.Prelude.{◌≡◌, ◌≢◌, ◌≤◌, ◌↔◌, ℕ, List, ◌∷◌, ◌++◌, Option, Some, All}
use Rattle.acl_policy.specs.Numerals.{IsNumber}

-- The reader answers a value exactly where the grammar relates that value to what is read.
abbrev pub IsReaderOf : {W V : Type 0} → (W → V → Type 0) → (W → Option V) → Type 0
IsReaderOf {W = W} {V = V} Is read = (said : W) (value : V) → (read said ≡ Some value) ↔ Is said value

-- a number no greater than this
abbrev pub IsNumberUpTo : ℕ → List ℕ → ℕ → Type 0
IsNumberUpTo most word n = IsNumber word n × (n ≤ most)

-- what stands before the first such byte of a word, and what after it
abbrev pub IsCut : ℕ → List ℕ → List ℕ × List ℕ → Type 0
IsCut byte word cut = (word ≡ cut.0 ++ byte ∷ cut.1) × All (λ b. b ≢ byte) cut.0

-- the first of some words, and those after it
abbrev pub IsNext : List (List ℕ) → List ℕ × List (List ℕ) → Type 0
IsNext words next = words ≡ next.0 ∷ next.1
