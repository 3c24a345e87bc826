-- Numbers, and pieces of a word with one byte between them, in this project's policy grammar.
use Rattle.std.specs.Prelude.{◌≡◌, ◌≤◌, ℕ, ◌+◌, ◌*◌, ◌^◌, List, [], ◌∷◌, ◌++◌, length}
use Rattle.std.specs.Str.Parse.{IsNumeral, digits_value}

-- The word is digits in this base, at least one and at most so many, and the number is what they spell.
abbrev pub Spells : ℕ → ℕ → List ℕ → ℕ → Type 0
Spells base most word n = IsNumeral base word × (length word ≤ most) × (n ≡ digits_value base word)

-- one to five decimal digits
abbrev pub IsNumber : List ℕ → ℕ → Type 0
IsNumber word n = Spells 10 5 word n

-- a number of one to three digits, at most 255: a part of an IPv4 address, or an interface's at a capture
abbrev pub IsOctet : List ℕ → ℕ → Type 0
IsOctet word n = Spells 10 3 word n × (n ≤ 255)

-- a group of an IPv6 address
abbrev pub IsGroup : List ℕ → ℕ → Type 0
IsGroup word n = Spells 16 4 word n

-- two hexadecimal digits
abbrev pub IsPair : List ℕ → ℕ → Type 0
IsPair word n = Spells 16 2 word n × (length word ≡ 2)

-- The word is these numbers, each spelt by a piece, with the byte between the pieces.
abbrev pub ArePieces : ℕ → (List ℕ → ℕ → Type 0) → List ℕ → List ℕ → Type 0
ArePieces byte IsPiece word [] = word ≡ []
ArePieces byte IsPiece word (n ∷ []) = IsPiece word n
ArePieces byte IsPiece word (n ∷ m ∷ more) = (first rest : List ℕ) × (word ≡ first ++ byte ∷ rest) × IsPiece first n × ArePieces byte IsPiece rest (m ∷ more)

-- the number with these digits, the highest first
abbrev pub in_base : ℕ → List ℕ → ℕ
in_base base [] = 0
in_base base (digit ∷ digits) = digit * base ^ length digits + in_base base digits
