-- Addresses and prefixes (RFC 4632, section 3.1; RFC 4291, sections 2.2 and 2.3), in this project's policy grammar.
use Rattle.std.specs.Prelude.{◌≡◌, ◌≤◌, ◌⊎◌, ℕ, ◌+◌, List, ◌∷◌, ◌++◌, length, replicate, codes}
use Rattle.packet_view.specs.declared.tuple.Family.{Family}
use Rattle.packet_view.specs.declared.tuple.Family.TheVariants.{V4, V6}
use Rattle.packet_view.specs.declared.tuple.Mac.{Mac}
use Rattle.acl_policy.specs.Numerals.{ArePieces, IsGroup, IsNumber, IsOctet, IsPair, in_base}
use Rattle.acl_policy.specs.Widths.{width}

-- Six pairs of hexadecimal digits with ':' between them.
abbrev pub IsMac : List ℕ → Mac → Type 0
IsMac word mac = (length mac.0 ≡ 6) × ArePieces 58 IsPair word mac.0

-- Four numbers with '.' between them.
abbrev pub IsFourParts : List ℕ → ℕ → Type 0
IsFourParts word address = (parts : List ℕ) × (length parts ≡ 4) × ArePieces 46 IsOctet word parts × (address ≡ in_base 256 parts)

-- Eight groups with ':' between them.
abbrev pub IsEightGroups : List ℕ → ℕ → Type 0
IsEightGroups word address = (groups : List ℕ) × (length groups ≡ 8) × ArePieces 58 IsGroup word groups × (address ≡ in_base 65536 groups)

-- Groups in front of "::" and after it; "::" stands for as many groups of zeros as are missing, and for one at least.
abbrev pub IsShortened : List ℕ → ℕ → Type 0
IsShortened word address =
    (before after front back : List ℕ) × (missing : ℕ) × (word ≡ before ++ 58 ∷ 58 ∷ after)
    × ArePieces 58 IsGroup before front × ArePieces 58 IsGroup after back
    × (1 ≤ missing) × (length front + missing + length back ≡ 8)
    × (address ≡ in_base 65536 (front ++ (replicate missing 0 ++ back)))

abbrev pub IsAddress : Family → List ℕ → ℕ → Type 0
IsAddress V4 word address = IsFourParts word address
IsAddress V6 word address = IsEightGroups word address ⊎ IsShortened word address

-- Every address, one address, or those that begin as this one does.
abbrev pub IsPrefix : Family → List ℕ → ℕ × ℕ → Type 0
IsPrefix family word prefix =
    ((word ≡ codes "any") × (prefix ≡ (0, 0)))
    ⊎ (IsAddress family word prefix.0 × (prefix.1 ≡ width family))
    ⊎ ((address bits : List ℕ) × (word ≡ address ++ 47 ∷ bits) × IsAddress family address prefix.0
    × IsNumber bits prefix.1 × (prefix.1 ≤ width family))
