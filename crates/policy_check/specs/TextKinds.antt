-- What a text is likely to be that is no policy: a file that begins as captures do, an input with its capture or a text for
-- `racl expand` (this project's profile), or one in UTF-16, by its byte order mark (RFC 2781, section 3.2).
use Rattle.std.specs.Prelude.{◌≡◌, ◌⊎◌, ℕ, ◌+◌, ◌==◌, List, [], ◌∷◌, IsTrue, filter, length, take}
use Rattle.racl_io.specs.Inputs.{InputFacts, IsInput}
use Rattle.racl_io.specs.Others.{is_capture}
use Rattle.policy_check.specs.ForExpand.{IsForExpandAt}
use Rattle.policy_check.specs.declared.kinds_of_other_texts.TextKind.{TextKind}
use Rattle.policy_check.specs.declared.kinds_of_other_texts.TextKind.TheVariants.{Capture, ForExpand, Input, Utf16}

-- the text begins with a byte order mark in either order
abbrev pub BeginsAsUtf16 : List ℕ → Type 0
BeginsAsUtf16 text = (take 2 text ≡ 255 ∷ 254 ∷ []) ⊎ (take 2 text ≡ 254 ∷ 255 ∷ [])

-- the text has a marker line, and this is its number
abbrev pub IsMarkedAt : List ℕ → ℕ → Type 0
IsMarkedAt text number =
    (parts : InputFacts) × IsInput text parts × (number ≡ length (filter (λ b. b == 10) parts.policy) + 1)

abbrev pub IsOfKind : List ℕ → TextKind → Type 0
IsOfKind text Capture = IsTrue (is_capture text)
IsOfKind text Utf16 = BeginsAsUtf16 text
IsOfKind text (Input number) = IsMarkedAt text number
IsOfKind text (ForExpand number) = IsForExpandAt text number
