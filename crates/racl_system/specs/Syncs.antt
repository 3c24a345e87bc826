-- Files that can't be synced (this project's profile).
use Rattle.std.specs.Prelude.{◌≡◌, ◌⊎◌, ℤ, pos, Option, Some}

-- the system's reason why a file of some kind is never synced (Linux: EINVAL, ENOTSUP)
abbrev pub IsNeverSynced : Option ℤ → Type 0
IsNeverSynced number = (number ≡ Some (pos 22)) ⊎ (number ≡ Some (pos 95))
