-- How the name of an interface stands in a line.
use Rattle.std.specs.Prelude.{ℕ, List, [], ◌++◌, Option, None, Some, codes, decimal}

-- the name behind the number, with the space before it and not that after it
abbrev pub name_behind : Option ℕ → List ℕ
name_behind None = []
name_behind (Some number) = codes " if " ++ decimal number
