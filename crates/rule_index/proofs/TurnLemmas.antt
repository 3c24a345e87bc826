-- Bits that turn at two rows, and the rows that they give.
use Rattle.std.proofs.Common.{◌≡◌, ◌≢◌, ◌≤◌, ◌<◌, ℕ, ◌+◌, ◌-◌, ◌*◌, ◌/◌, ◌%◌, List, length, arith, inl, inr, ap, ◌∙◌, sym, subst, zero, suc}
use Rattle.std.proofs.lemmas.Bool.{cases_eq, cases_lt}
use Rattle.std.proofs.lemmas.Nat.Bits.{bit_at_xor}
use Rattle.std.specs.Prelude.{bit_xor, slice_index}
use Rattle.std.specs.Int.{bit_at}
use Rattle.rule_index.specs.Rows.{bit_in, HasTurns, IsPlace, IsWithin, TurnsAt}
use Rattle.rule_index.proofs.ColumnLemmas.{cell_within}

-- a greater number lies in no earlier interval
pub place_rises : (starts : List ℕ) (low x a row : ℕ) → IsPlace starts low a → IsPlace starts x row → low ≤ x → a ≤ row
place_rises starts low x a row here there rising =
    elim (cases_lt row a) [
      | inl behind ↦ let above : x < slice_index starts a = there.until a behind here.within in absurd (omega (arith, above, here.from, rising))
      | inr before ↦ before
    ]

-- the bit after the end is set too
pub turns_set : (count width : ℕ) (once rows : List ℕ) (rule first last : ℕ) → bit_in width once first rule ≡ 1
    → ((row : ℕ) → row < count → row ≢ first → bit_in width once row rule ≡ 0) → bit_in width rows (last + 1) rule ≡ 1
    → ((row : ℕ) → row ≢ last + 1 → bit_in width rows row rule ≡ bit_in width once row rule) → TurnsAt count width rows rule first last
turns_set count width once rows rule first last begun other set kept =
    record {
      begins = elim (cases_eq first (last + 1)) [
        | inl same ↦ subst (λ (row : ℕ). bit_in width rows row rule ≡ 1) (sym same) set
        | inr apart ↦ kept first apart ∙ begun
      ];
      still = λ row within first_apart last_apart. kept row last_apart ∙ other row within first_apart;
    }

-- bits of other rules are as they were
pub turns_kept : (starts : List ℕ) (width : ℕ) (old rows : List ℕ) (rule : ℕ) (range : ℕ × ℕ) → ((row : ℕ) → bit_in width rows row rule ≡ bit_in width old row rule)
    → HasTurns starts width old rule range → HasTurns starts width rows rule range
turns_kept starts width old rows rule range same has =
    record {
      first = has.first;
      last = has.last;
      begin = has.begin;
      ending = has.ending;
      turns = record {
        begins = same has.first ∙ has.turns.begins;
        still = λ row within first_apart last_apart. same row ∙ has.turns.still row within first_apart last_apart;
      };
    }

-- what rows become by `accumulate`
pub record Sums (count width : ℕ) (old rows : List ℕ) : Type 0 where
  pub len : length rows ≡ count * width
  pub first : (i : ℕ) → i < width → slice_index rows i ≡ slice_index old i
  pub rest : (i : ℕ) → width ≤ i → i < length rows → slice_index rows i ≡ bit_xor (slice_index old i) (slice_index rows (i - width))

sum_at_first : (count width : ℕ) (old rows : List ℕ) (rule : ℕ) → Sums count width old rows → rule / 64 < width → bit_in width rows 0 rule ≡ bit_in width old 0 rule
sum_at_first count width old rows rule sums short =
    let start : 0 * width + rule / 64 ≡ rule / 64 = omega arith in
    ap (λ (word : ℕ). bit_at word (rule % 64)) (sums.first (0 * width + rule / 64) (omega (arith, start, short)))

sum_at_next : (count width : ℕ) (old rows : List ℕ) (rule row : ℕ) → Sums count width old rows → rule / 64 < width → suc row < count
    → bit_in width rows (suc row) rule ≡ (bit_in width old (suc row) rule + bit_in width rows row rule) % 2
sum_at_next count width old rows rule row sums short within =
    let below : suc row * width + rule / 64 < length rows = subst (λ (n : ℕ). suc row * width + rule / 64 < n) (sym sums.len) (cell_within (suc row) count (rule / 64) width within short) in
    let next : suc row * width ≡ row * width + width = omega arith in
    let before : suc row * width + rule / 64 - width ≡ row * width + rule / 64 = omega (arith, next) in
    let word : slice_index rows (suc row * width + rule / 64) ≡ bit_xor (slice_index old (suc row * width + rule / 64)) (slice_index rows (row * width + rule / 64)) =
    subst (λ (i : ℕ). slice_index rows (suc row * width + rule / 64) ≡ bit_xor (slice_index old (suc row * width + rule / 64)) (slice_index rows i)) before
    (sums.rest (suc row * width + rule / 64) (omega (arith, next)) below) in
    ap (λ (w : ℕ). bit_at w (rule % 64)) word ∙ bit_at_xor (slice_index old (suc row * width + rule / 64)) (slice_index rows (row * width + rule / 64)) (rule % 64)

-- no bit before the first row, and each from there to the last
pub between : (count width : ℕ) (old rows : List ℕ) (rule first last : ℕ) → Sums count width old rows → rule / 64 < width → TurnsAt count width old rule first last → first ≤ last
    → (row : ℕ) → row < count → row ≤ last → (row < first → bit_in width rows row rule ≡ 0) × (first ≤ row → bit_in width rows row rule ≡ 1)
between count width old rows rule first last sums short turns rising zero within early = (
  λ below. sum_at_first count width old rows rule sums short ∙ turns.still 0 within (λ same. absurd (omega (arith, same, below))) (λ same. absurd (omega (arith, same))),
  λ reached. let here : first ≡ 0 = omega arith in
      sum_at_first count width old rows rule sums short ∙ subst (λ (r : ℕ). bit_in width old r rule ≡ 1) here turns.begins,
)
between count width old rows rule first last sums short turns rising (suc row) within early =
    let before = between count width old rows rule first last sums short turns rising row (omega arith) (omega arith) in
    let sum = sum_at_next count width old rows rule row sums short within in (
      λ below.
          let none : bit_in width old (suc row) rule ≡ 0 = turns.still (suc row) within (λ same. absurd (omega (arith, same, below))) (λ same. absurd (omega (arith, same, early))) in
          let clear : bit_in width rows row rule ≡ 0 = before.0 (omega arith) in
          sum ∙ omega (arith, none, clear),
      λ reached. elim (cases_eq (suc row) first) [
        | inl same ↦
            let one : bit_in width old (suc row) rule ≡ 1 = subst (λ (r : ℕ). bit_in width old r rule ≡ 1) (sym same) turns.begins in
            let clear : bit_in width rows row rule ≡ 0 = before.0 (omega arith) in
            sum ∙ omega (arith, one, clear)
        | inr apart ↦
            let none : bit_in width old (suc row) rule ≡ 0 = turns.still (suc row) within apart (λ same. absurd (omega (arith, same, early))) in
            let set : bit_in width rows row rule ≡ 1 = before.1 (omega (arith, apart, reached)) in
            sum ∙ omega (arith, none, set)
      ],
    )

-- a range has its bit in each row that it may be in
pub range_filled : (starts : List ℕ) (width : ℕ) (old rows : List ℕ) (rule row x : ℕ) (range : ℕ × ℕ) → Sums (length starts) width old rows → rule / 64 < width
    → HasTurns starts width old rule range → IsWithin range x → IsPlace starts x row → bit_in width rows row rule ≡ 1
range_filled starts width old rows rule row x range sums short has within place =
    let reached : has.first ≤ row = place_rises starts range.0 x has.first row has.begin place within.0 in
    let early : row ≤ has.last = place_rises starts x range.1 row has.last place has.ending within.1 in
    let both = between (length starts) width old rows rule has.first has.last sums short has.turns (omega (arith, reached, early)) row place.within early in
    both.1 reached
