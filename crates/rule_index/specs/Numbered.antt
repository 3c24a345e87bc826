-- Rows of bits whose words have numbers: the words of rows are stored in one list, and a row is the numbers of its words.
use Rattle.std.specs.Prelude.{◌≡◌, ◌≢◌, ◌≤◌, ◌<◌, ℕ, ◌+◌, ◌-◌, ◌*◌, ◌^◌, ◌/◌, ◌%◌, List, length, slice_index, zero, suc}
use Rattle.std.specs.Int.{bit_at}

-- Each number is of a word.
abbrev pub AreOf : List ℕ → List ℕ → Type 0
AreOf numbers words = (i : ℕ) → i < length numbers → slice_index numbers i < length words

-- the bit of a rule in a row, where a row has this many words
abbrev pub numbered_bit : ℕ → List ℕ → List ℕ → ℕ → ℕ → ℕ
numbered_bit width numbers words row rule = bit_at (slice_index words (slice_index numbers (row * width + rule / 64))) (rule % 64)

-- The bits of a word are bits of another one.
abbrev pub Covers : ℕ → ℕ → Type 0
Covers other word = (bit : ℕ) → bit < 64 → bit_at word bit ≡ 1 → bit_at other bit ≡ 1

-- The third word has each bit.
pub record AreWords (words : List ℕ) : Type 0 where
  pub some : 2 < length words
  pub every : slice_index words 2 ≡ 2 ^ 64 - 1

-- Words are as they were, and there may be more.
pub record AreKept (old new : List ℕ) : Type 0 where
  pub more : length old ≤ length new
  pub same : (i : ℕ) → i < length old → slice_index new i ≡ slice_index old i

-- A word has a number, which isn't 0.
pub record IsStored (old new : List ℕ) (word number : ℕ) : Type 0 where
  pub kept : AreKept old new
  pub some : number ≢ 0
  pub within : number < length new
  pub covers : Covers (slice_index new number) word

-- the word of the row before a row, and no bit before the first one
abbrev pub before : List ℕ → ℕ → ℕ
before rows zero = 0
before rows (suc row) = slice_index rows row

-- A row has the number of its word, or 0 where it has the word of the row before.
pub record IsLaid (width block : ℕ) (rows numbers words : List ℕ) (row : ℕ) : Type 0 where
  pub as_before : slice_index numbers (row * width + block) ≡ 0 → slice_index rows row ≡ before rows row
  pub covers : slice_index numbers (row * width + block) ≢ 0 → Covers (slice_index words (slice_index numbers (row * width + block))) (slice_index rows row)

pub record Laid (count width block : ℕ) (rows numbers words : List ℕ) : Type 0 where
  pub stored : AreWords words
  pub within : AreOf numbers words
  pub each : (row : ℕ) → row < count → IsLaid width block rows numbers words row

-- The words of other rules are as they were.
pub record KeepsOthers (width block : ℕ) (old old_words new new_words : List ℕ) : Type 0 where
  pub others : (row other : ℕ) → other < width → other ≢ block → slice_index new (row * width + other) ≡ slice_index old (row * width + other)
  pub kept : AreKept old_words new_words

-- A number that is 0 becomes that of the word a row before.
pub record IsCarried (width : ℕ) (old new : List ℕ) : Type 0 where
  pub len : length new ≡ length old
  pub first : (i : ℕ) → i < width → slice_index new i ≡ slice_index old i
  pub carried : (i : ℕ) → width ≤ i → i < length new → slice_index old i ≡ 0 → slice_index new i ≡ slice_index new (i - width)
  pub others : (i : ℕ) → width ≤ i → i < length new → slice_index old i ≢ 0 → slice_index new i ≡ slice_index old i
  pub below : (n : ℕ) → ((i : ℕ) → i < length old → slice_index old i < n) → (i : ℕ) → i < length new → slice_index new i < n
