-- Words that have numbers, and numbers that are carried.
use Rattle.std.proofs.Common.{◌≡◌, ◌≢◌, ◌⊎◌, ◌≤◌, ◌<◌, ℕ, ◌+◌, ◌-◌, ◌*◌, ◌^◌, ◌/◌, ◌%◌, ◌++◌, [], ◌∷◌, List, length, arith, inl, inr, refl, ap, ◌∙◌, sym, subst, get_or, Some, take, drop, zero, suc}
use Rattle.std.proofs.lemmas.Bool.{cases_eq}
use Rattle.std.proofs.lemmas.List.{get_or_append_left, get_or-drop, get_or-set_other, get_or-set_same, get_or-take, length_push, length-drop, length-set, length-take}
use Rattle.std.proofs.lemmas.Nat.Bits.{bit_at_ones, bit_at-zero}
use Rattle.std.proofs.lemmas.Option.{get_or_from_slice_get, slice_get-get_or, slice_get_within}
use Rattle.std.specs.Prelude.{slice_get, slice_index, slice_set}
use Rattle.std.specs.Int.{bit_at}
use Rattle.rule_index.specs.Numbered.{AreKept, AreOf, AreWords, before, Covers, IsCarried, IsLaid, IsStored, KeepsOthers, Laid, numbered_bit}
use Rattle.rule_index.specs.inner.Columns.{AreLaid}
use Rattle.rule_index.specs.Rows.{IsPlace, IsWithin}
use Rattle.rule_index.proofs.ColumnLemmas.{cell_within, same_row}

-- no bit of no bits
pub covers_none : (other : ℕ) → Covers other 0
covers_none other = λ bit short one. let none : bit_at 0 bit ≡ 0 = bit_at-zero bit in absurd (omega (arith, one, none))

-- a word with each bit
pub covers_every : (word : ℕ) → Covers (2 ^ 64 - 1) word
covers_every word = λ bit short one. bit_at_ones 64 bit short

pub kept_same : (words : List ℕ) → AreKept words words
kept_same words = record { more = omega arith; same = λ i within. refl }

-- words stay with one behind them
pub kept_pushed : (words : List ℕ) (word : ℕ) → AreKept words (words ++ word ∷ [])
kept_pushed words word = record { more = omega (arith, length_push words word); same = λ i within. get_or_append_left words (word ∷ []) 0 i within }

pub kept_then : (a b c : List ℕ) → AreKept a b → AreKept b c → AreKept a c
kept_then a b c first next = record {
  more = omega (arith, first.more, next.more);
  same = λ i within. next.same i (omega (arith, first.more)) ∙ first.same i within;
}

pub words_kept : (old new : List ℕ) → AreKept old new → AreWords old → AreWords new
words_kept old new kept words = record {
  some = omega (arith, kept.more, words.some);
  every = kept.same 2 words.some ∙ words.every;
}

pub of_kept : (numbers old new : List ℕ) → AreKept old new → AreOf numbers old → AreOf numbers new
of_kept numbers old new kept within = λ i inside. let below : slice_index numbers i < length old = within i inside in omega (arith, kept.more, below)

-- a word's own bits
pub covers_same : (other word : ℕ) → other ≡ word → Covers other word
covers_same other word same = λ bit short one. ap (λ (n : ℕ). bit_at n bit) same ∙ one

-- the row before the next one is this one
pub before_next : (rows : List ℕ) (row : ℕ) → before rows (row + 1) ≡ slice_index rows row
before_next rows row = let next : row + 1 ≡ suc row = omega arith in ap (λ (n : ℕ). before rows n) next

-- a row that is laid stays so where numbers are changed elsewhere and words are kept
pub row_kept : (width block : ℕ) (rows old old_words new new_words : List ℕ) (row : ℕ) → slice_index new (row * width + block) ≡ slice_index old (row * width + block)
    → slice_index old (row * width + block) < length old_words → AreKept old_words new_words → IsLaid width block rows old old_words row → IsLaid width block rows new new_words row
row_kept width block rows old old_words new new_words row same within kept laid = record {
  as_before = λ none. laid.as_before (sym same ∙ none);
  covers = λ some.
      let there : slice_index new_words (slice_index new (row * width + block)) ≡ slice_index old_words (slice_index old (row * width + block)) =
      ap (λ (n : ℕ). slice_index new_words n) same ∙ kept.same (slice_index old (row * width + block)) within in
      subst (λ (word : ℕ). Covers word (slice_index rows row)) (sym there) (laid.covers (λ none. some (same ∙ none)));
}

-- the words of a block stay where those of another one are laid
pub block_kept : (count width block other : ℕ) (rows old old_words new new_words : List ℕ) → length old ≡ count * width → block < width → block ≢ other → KeepsOthers width other old old_words new new_words
    → AreOf new new_words → Laid count width block rows old old_words → Laid count width block rows new new_words
block_kept count width block other rows old old_words new new_words sized short apart keeps within laid = record {
  stored = words_kept old_words new_words keeps.kept laid.stored;
  within = within;
  each = λ row inside.
      row_kept width block rows old old_words new new_words row (keeps.others row block short apart)
      (laid.within (row * width + block) (subst (λ (n : ℕ). row * width + block < n) (sym sized) (cell_within row count block width inside short)))
      keeps.kept (laid.each row inside);
}

-- two places of rows are apart
pub places_apart : (r row width a b : ℕ) → a < width → b < width → (r ≢ row) ⊎ (a ≢ b) → r * width + a ≢ row * width + b
places_apart r row width a b short narrow other = λ same.
    let rows : r ≡ row = same_row r row width a b short narrow same in
    let products : r * width ≡ row * width = ap (λ (n : ℕ). n * width) rows in
    elim other [
      | inl apart ↦ apart rows
      | inr beside ↦ beside (omega (arith, same, products))
    ]

-- one more row is laid, which has the word of the row before
pub laid_same : (width block : ℕ) (rows numbers words : List ℕ) (row : ℕ) → slice_index numbers (row * width + block) ≡ 0 → slice_index rows row ≡ before rows row
    → Laid row width block rows numbers words → Laid (row + 1) width block rows numbers words
laid_same width block rows numbers words row none same laid = record {
  stored = laid.stored;
  within = laid.within;
  each = λ r below.
      elim (cases_eq r row) [
        | inl here ↦ subst (λ (i : ℕ). IsLaid width block rows numbers words i) (sym here) (record { as_before = λ zeroed. same; covers = λ some. absurd (some none) })
        | inr other ↦ laid.each r (omega (arith, other, below))
      ];
}

-- one more row is laid, whose word is stored
pub laid_next : (count width block : ℕ) (rows numbers words new_words : List ℕ) (row number : ℕ) → length numbers ≡ count * width → row < count → block < width
    → IsStored words new_words (slice_index rows row) number → Laid row width block rows numbers words
    → Laid (row + 1) width block rows (slice_set numbers (row * width + block) number) new_words
laid_next count width block rows numbers words new_words row number sized inside short stored laid =
    let cell : row * width + block < length numbers = subst (λ (n : ℕ). row * width + block < n) (sym sized) (cell_within row count block width inside short) in
    let here : slice_index (slice_set numbers (row * width + block) number) (row * width + block) ≡ number = get_or-set_same numbers (row * width + block) number 0 cell in
    record {
      stored = words_kept words new_words stored.kept laid.stored;
      within = λ i within.
          elim (cases_eq i (row * width + block)) [
            | inl same ↦ subst (λ (n : ℕ). n < length new_words) (sym (ap (λ (j : ℕ). slice_index (slice_set numbers (row * width + block) number) j) same ∙ here)) stored.within
            | inr other ↦
                let old : slice_index (slice_set numbers (row * width + block) number) i ≡ slice_index numbers i = get_or-set_other numbers (row * width + block) i number 0 other in
                let below : slice_index numbers i < length words = laid.within i (omega (arith, within, length-set numbers (row * width + block) number)) in
                omega (arith, old, below, stored.kept.more)
          ];
      each = λ r below.
          elim (cases_eq r row) [
            | inl same ↦ subst (λ (i : ℕ). IsLaid width block rows (slice_set numbers (row * width + block) number) new_words i) (sym same)
                (record {
                  as_before = λ none. absurd (stored.some (sym here ∙ none));
                  covers = λ some. subst (λ (n : ℕ). Covers (slice_index new_words n) (slice_index rows row)) (sym here) stored.covers;
                })
            | inr other ↦
                let earlier : r < row = omega (arith, other, below) in
                let apart : r * width + block ≢ row * width + block = places_apart r row width block block short short (inl other) in
                let inner : r * width + block < length numbers = subst (λ (n : ℕ). r * width + block < n) (sym sized) (cell_within r count block width (omega (arith, earlier, inside)) short) in
                row_kept width block rows numbers words (slice_set numbers (row * width + block) number) new_words r
                (get_or-set_other numbers (row * width + block) (r * width + block) number 0 apart)
                (laid.within (r * width + block) inner) stored.kept (laid.each r earlier)
          ];
    }

-- a number that is set is of no other block
pub others_next : (width block : ℕ) (first first_words numbers words new_words : List ℕ) (row number : ℕ) → block < width → AreKept words new_words
    → KeepsOthers width block first first_words numbers words → KeepsOthers width block first first_words (slice_set numbers (row * width + block) number) new_words
others_next width block first first_words numbers words new_words row number short kept keeps = record {
  others = λ r other below apart.
      get_or-set_other numbers (row * width + block) (r * width + other) number 0 (places_apart r row width other block below short (inr apart))
      ∙ keeps.others r other below apart;
  kept = kept_then first_words words new_words keeps.kept kept;
}

-- a carried number is of a word with the row's bits
pub carried_covers : (count width block : ℕ) (rows old new words : List ℕ) → IsCarried width old new → length old ≡ count * width → block < width → Laid count width block rows old words
    → (row : ℕ) → row < count → Covers (slice_index words (slice_index new (row * width + block))) (slice_index rows row)
carried_covers count width block rows old new words carried sized short laid zero within =
    let start : 0 * width + block < width = omega arith in
    let first : slice_index new (0 * width + block) ≡ slice_index old (0 * width + block) = carried.first (0 * width + block) start in
    elim (cases_eq (slice_index old (0 * width + block)) 0) [
      | inl none ↦ subst (λ (word : ℕ). Covers (slice_index words (slice_index new (0 * width + block))) word) (sym ((laid.each 0 within).as_before none)) (covers_none _)
      | inr some ↦ subst (λ (number : ℕ). Covers (slice_index words number) (slice_index rows 0)) (sym first) ((laid.each 0 within).covers some)
    ]
carried_covers count width block rows old new words carried sized short laid (suc row) within =
    let next : suc row * width ≡ row * width + width = omega arith in
    let here : suc row * width + block - width ≡ row * width + block = omega (arith, next) in
    let behind : width ≤ suc row * width + block = omega (arith, next) in
    let cell : suc row * width + block < count * width = cell_within (suc row) count block width within short in
    let inside : suc row * width + block < length new = omega (arith, cell, sized, carried.len) in
    elim (cases_eq (slice_index old (suc row * width + block)) 0) [
      | inl none ↦
          let same : slice_index new (suc row * width + block) ≡ slice_index new (row * width + block) =
          carried.carried (suc row * width + block) behind inside none ∙ ap (λ (i : ℕ). slice_index new i) here in
          let word : slice_index rows (suc row) ≡ slice_index rows row = (laid.each (suc row) within).as_before none in
          subst (λ (number : ℕ). Covers (slice_index words number) (slice_index rows (suc row))) (sym same)
          (subst (λ (w : ℕ). Covers (slice_index words (slice_index new (row * width + block))) w) (sym word)
          (carried_covers count width block rows old new words carried sized short laid row (omega arith)))
      | inr some ↦
          subst (λ (number : ℕ). Covers (slice_index words number) (slice_index rows (suc row))) (sym (carried.others (suc row * width + block) behind inside some))
          ((laid.each (suc row) within).covers some)
    ]

-- each range has its bit by the numbers that are carried
pub laid_bit : (starts : List ℕ) (ranges : List (ℕ × ℕ)) (width : ℕ) (old new words : List ℕ) → IsCarried width old new → length old ≡ length starts * width → AreLaid starts ranges width old words
    → (rule row x : ℕ) (range : ℕ × ℕ) → rule / 64 < width → slice_get ranges rule ≡ Some range → IsWithin range x → IsPlace starts x row → numbered_bit width new words row rule ≡ 1
laid_bit starts ranges width old new words carried sized laid rule row x range short read inside place =
    let block = laid.each (rule / 64) short in
    let there : rule ≡ rule / 64 * 64 + rule % 64 = omega arith in
    carried_covers (length starts) width (rule / 64) block.rows old new words carried sized short block.laid row place.within (rule % 64) (omega arith)
    (block.fills (rule % 64) row x range (omega arith) (subst (λ (k : ℕ). slice_get ranges k ≡ Some range) there read) inside place)

-- an element of a part
pub part_read : {X : Type 0} (xs : List X) (from count k : ℕ) (x : X) → k < count → slice_get xs (from + k) ≡ Some x → slice_get (take count (drop from xs)) k ≡ Some x
part_read xs from count k x short read =
    let within : from + k < length xs = slice_get_within xs (from + k) x read in
    let inside : k < length (take count (drop from xs)) = omega (arith, length-take count (drop from xs), length-drop from xs) in
    let there : get_or (take count (drop from xs)) k x ≡ x = get_or-take count (drop from xs) k x short ∙ (get_or-drop from xs k x ∙ get_or_from_slice_get xs (from + k) x x read) in
    slice_get-get_or (take count (drop from xs)) k x inside ∙ ap (λ y. Some y) there
