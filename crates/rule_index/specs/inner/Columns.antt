-- What a column of bits says of the ranges that it was made of.
use Rattle.std.specs.Prelude.{◌≡◌, ◌<◌, ℕ, ◌+◌, ◌*◌, ◌/◌, List, length, slice_get, slice_index, Some}
use Rattle.std.specs.Int.{bit_at}
use Rattle.rule_index.specs.declared.column.Column.{Column}
use Rattle.rule_index.specs.Numbered.{AreOf, Laid, numbered_bit}
use Rattle.rule_index.specs.Rows.{IsPlace, IsWithin}

-- the most intervals of a column
abbrev pub most_intervals : ℕ
most_intervals = 5000

-- Each range has its bit in each row that may be of a number of the range.
pub record Holds (ranges : List (ℕ × ℕ)) (column : Column) : Type 0 where
  pub width : column.width ≡ length ranges / 64 + 1
  pub held : (rule row x : ℕ) (range : ℕ × ℕ) → slice_get ranges rule ≡ Some range → IsWithin range x → IsPlace column.starts.items x row
      → numbered_bit column.width column.numbers.items column.words.items row rule ≡ 1

-- The words of 64 ranges, one for each interval: each range has its bit where a number of it may be.
abbrev pub FillsBlock : List ℕ → List (ℕ × ℕ) → ℕ → List ℕ → Type 0
FillsBlock starts ranges block rows = (bit row x : ℕ) (range : ℕ × ℕ) → bit < 64 → slice_get ranges (block * 64 + bit) ≡ Some range
    → IsWithin range x → IsPlace starts x row → bit_at (slice_index rows row) bit ≡ 1

pub record IsBlockLaid (starts : List ℕ) (ranges : List (ℕ × ℕ)) (width block : ℕ) (numbers words : List ℕ) : Type 0 where
  pub rows : List ℕ
  pub fills : FillsBlock starts ranges block rows
  pub laid : Laid (length starts) width block rows numbers words

-- The words of all ranges are laid.
pub record AreLaid (starts : List ℕ) (ranges : List (ℕ × ℕ)) (width : ℕ) (numbers words : List ℕ) : Type 0 where
  pub within : AreOf numbers words
  pub each : (block : ℕ) → block < width → IsBlockLaid starts ranges width block numbers words
