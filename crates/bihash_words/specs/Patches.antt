-- What may be stored, and what the fixed patches decide (this project's profile).
use Rattle.std.specs.Prelude.{ℕ, ◌<◌, ◌-◌, ◌^◌, Option, Some, None}
use Rattle.bihash_words.specs.declared.patch.Change.{Change}
use Rattle.bihash_words.specs.declared.patch.Change.TheVariants.{Keep, Set, Remove}

-- the value of a free place, all ones
abbrev pub free_mark : ℕ
free_mark = 2 ^ 64 - 1

-- a value that is set is a word, and no mark of a free place
abbrev pub IsStorable : Change → Type 0
IsStorable Keep = Unit {0}
IsStorable (Set value) = value < free_mark
IsStorable Remove = Unit {0}

-- sets the value of a key that has none
abbrev pub set_if_absent : ℕ → Option ℕ → Change
set_if_absent value None = Set value
set_if_absent value (Some found) = Keep

-- sets the value of a key that has one
abbrev pub set_if_present : ℕ → Option ℕ → Change
set_if_present value None = Keep
set_if_present value (Some found) = Set value
