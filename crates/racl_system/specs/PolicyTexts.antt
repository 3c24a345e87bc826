-- The text of a policy's file (this project's profile).
use Rattle.std.specs.Prelude.{◌≡◌, ◌<◌, ◌++◌, ◌⊎◌, ℕ, List, [], ◌∷◌, Option, IfSome, length}
use Rattle.racl_io.specs.Inputs.{most_bytes}
use Rattle.racl_io.specs.declared.fault.Fault.{Fault}
use Rattle.racl_io.specs.declared.fault.Fault.TheVariants.{Memory, Read, TooLarge}

-- the bytes of a file, and a line feed, which ends its last line as that of an input whose capture follows
abbrev pub ended_lines : List ℕ → List ℕ
ended_lines bytes = bytes ++ 10 ∷ []

-- a line feed ends it
abbrev pub IsEnded : List ℕ → Type 0
IsEnded text = (bytes : List ℕ) × (text ≡ ended_lines bytes)

-- why the bytes of a file, as far as they are known, can't be had: memory ran out, a read failed, or an input may not have so many
abbrev pub IsUnread : Option (List ℕ) → Fault → Type 0
IsUnread bytes fault = (fault ≡ Memory) ⊎ ((fault ≡ Read) ⊎ ((fault ≡ TooLarge) × IfSome bytes (λ all. most_bytes < length all)))
