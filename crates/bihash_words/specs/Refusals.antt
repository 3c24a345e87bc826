-- Which replies are refusals (this project's profile).
use Rattle.std.specs.Prelude.{◌≢◌, ℕ}
use Rattle.bihash_words.specs.declared.patch.Reply.{Reply}
use Rattle.bihash_words.specs.declared.patch.Reply.TheVariants.{Kept, Changed, Worn, Full, NoPages}

-- the call was not refused for want of pages
abbrev pub IsNoRefusal : Reply → Type 0
IsNoRefusal reply = (log2 left : ℕ) → reply ≢ NoPages log2 left

-- the call was not refused: what it wanted was made, or stood there
abbrev pub IsTaken : Reply → Type 0
IsTaken (Kept found) = Unit {0}
IsTaken (Changed found) = Unit {0}
IsTaken (Worn found) = ⊥
IsTaken Full = ⊥
IsTaken (NoPages log2 left) = ⊥
