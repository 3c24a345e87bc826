-- Files that are written beside those that they become (this project's profile).
use Rattle.std.specs.Prelude.{◌≡◌, ◌<◌, ◌++◌, ℕ, List, codes, decimal}

-- the name of a file that becomes the one of another name: that one, a point, a number of at most two digits, and `.part`
abbrev pub IsBeside : List ℕ → List ℕ → Type 0
IsBeside target beside = (number : ℕ) × (number < 100) × (beside ≡ target ++ (codes "." ++ (decimal number ++ codes ".part")))
