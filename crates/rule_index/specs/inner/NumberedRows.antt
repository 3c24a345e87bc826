-- A row's words.
use Rattle.std.specs.Prelude.{ℕ, List, map, slice_index}
use Rattle.rule_index.specs.declared.numbered_row.Row.{Row}

abbrev pub words_of : Row → List ℕ
words_of row = map (λ (number : ℕ). slice_index row.words.now number) row.numbers.now
