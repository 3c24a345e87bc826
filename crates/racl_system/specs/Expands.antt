-- The files that are read for `expand FILE` (this project's profile).
use Rattle.std.specs.Prelude.{◌≡◌, ◌⊎◌, ℕ, List, [], ◌∷◌, Option, IfSome}
use Rattle.policy_expand.specs.Inclusions.{FileFacts}
use Rattle.racl_system.specs.PolicyTexts.{IsEnded, ended_lines}

-- The text of a file with these bytes: a line feed ends its last line, as it does where a policy is read in any other way.
abbrev pub IsTextOf : List ℕ → List ℕ → Type 0
IsTextOf bytes text =
    (((bytes ≡ []) ⊎ IsEnded bytes) × (text ≡ bytes))
    ⊎ ((IsEnded bytes → ⊥) × (text ≡ ended_lines bytes))

-- Each file has the text of the bytes that are read by its name, where these are known.
abbrev pub AreRead : (List ℕ → Option (List ℕ)) → List FileFacts → Type 0
AreRead named [] = Unit {0}
AreRead named (file ∷ files) = IfSome (named file.name) (λ all. IsTextOf all file.text) × AreRead named files
