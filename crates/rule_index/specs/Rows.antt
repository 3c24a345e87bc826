-- Rows of bits for ranges of numbers: which of some ranges may hold a number, by the interval in which it lies.
use Rattle.std.specs.Prelude.{◌≡◌, ◌≢◌, ◌≤◌, ◌<◌, ℕ, ◌+◌, ◌*◌, ◌/◌, ◌%◌, List, length, slice_index}
use Rattle.std.specs.Int.{bit_at}
use Rattle.std.specs.List.Sorted.{IsNonDecreasing}

-- Where intervals begin: at 0, and then at greater and greater numbers.
pub record AreStarts (starts : List ℕ) : Type 0 where
  pub some : 0 < length starts
  pub zero : slice_index starts 0 ≡ 0
  pub ordered : IsNonDecreasing starts

-- The last interval that begins at a number or below it.
pub record IsPlace (starts : List ℕ) (x row : ℕ) : Type 0 where
  pub within : row < length starts
  pub from : slice_index starts row ≤ x
  pub until : (k : ℕ) → row < k → k < length starts → x < slice_index starts k

-- the words of a row for this many rules
abbrev pub row_words : ℕ → ℕ
row_words rules = rules / 64 + 1

-- the bit of a rule in a row, where a row is of this many words
abbrev pub bit_in : ℕ → List ℕ → ℕ → ℕ → ℕ
bit_in width rows row rule = bit_at (slice_index rows (row * width + rule / 64)) (rule % 64)

abbrev pub IsWithin : ℕ × ℕ → ℕ → Type 0
IsWithin range x = (range.0 ≤ x) × (x ≤ range.1)

-- The bit of a rule is set in the row of its range's first number, after that of its last one, and nowhere else.
pub record TurnsAt (count width : ℕ) (rows : List ℕ) (rule first last : ℕ) : Type 0 where
  pub begins : bit_in width rows first rule ≡ 1
  pub still : (row : ℕ) → row < count → row ≢ first → row ≢ last + 1 → bit_in width rows row rule ≡ 0

pub record HasTurns (starts : List ℕ) (width : ℕ) (rows : List ℕ) (rule : ℕ) (range : ℕ × ℕ) : Type 0 where
  pub first : ℕ
  pub last : ℕ
  pub begin : IsPlace starts range.0 first
  pub ending : IsPlace starts range.1 last
  pub turns : TurnsAt (length starts) width rows rule first last
