-- Words that are seen (this project's profile).
use Rattle.std.specs.Prelude.{ℕ, Bool, List, length, ◌==◌, ◌&&◌, not, nat_lt}
use Rattle.std.specs.List.{list_all}

-- visible ASCII, and no `#`
abbrev pub is_ink : ℕ → Bool
is_ink b = nat_lt 32 b && (nat_lt b 127 && not (b == 35))

abbrev pub is_visible_word : List ℕ → Bool
is_visible_word word = not (length word == 0) && list_all is_ink word
