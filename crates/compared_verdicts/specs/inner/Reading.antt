-- The lines of a text.
use Rattle.std.specs.Prelude.{ℕ, List}
use Rattle.std.specs.Borrow.{Bor}

-- the text of a line
abbrev pub line_text : Bor (List ℕ) → List ℕ
line_text line = line.now
