-- What a replacement of the value that was found before decides (this project's profile: compare and set).
use Rattle.std.specs.Prelude.{◌==◌, ℕ, cond, Option, Some, None}
use Rattle.bihash_words.specs.declared.patch.Change.{Change}
use Rattle.bihash_words.specs.declared.patch.Change.TheVariants.{Keep, Set}

-- sets the value of a key that has still the one that was found
abbrev pub set_if_is : ℕ → ℕ → Option ℕ → Change
set_if_is was value None = Keep
set_if_is was value (Some found) = cond (found == was) (Set value) Keep
