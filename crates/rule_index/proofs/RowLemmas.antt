-- Rows of bits whose words have numbers.
use Rattle.std.proofs.Common.{◌≡◌, ◌≤◌, ◌<◌, ℕ, ◌+◌, ◌/◌, ◌%◌, List, length, map, arith, ap, ◌∙◌, sym, take, drop}
use Rattle.std.proofs.lemmas.List.{get_or-drop, get_or-map, get_or-take, length-drop, length-map, length-take}
use Rattle.std.specs.Prelude.{slice_index}
use Rattle.std.specs.Int.{bit_at}
use Rattle.acl_policy.specs.Rules.{RuleFacts}
use Rattle.packet_view.specs.Tuples.{TupleFacts}
use Rattle.rule_index.specs.declared.numbered_row.Row.{Row}
use Rattle.rule_index.specs.inner.NumberedRows.{words_of}
use Rattle.rule_index.specs.inner.Sieves.{Sifts}

-- as many words as numbers
pub row_width : (rules : List RuleFacts) (tuple : TupleFacts) (row : Row) → Sifts rules tuple (words_of row) → length row.numbers.now ≡ length rules / 64 + 1
row_width rules tuple row sifts = sym (length-map row.numbers.now (λ (number : ℕ). slice_index row.words.now number)) ∙ sifts.width

-- rows are as long as each other
pub same_width : (rules : List RuleFacts) (tuple : TupleFacts) (row other : Row) (n : ℕ) → Sifts rules tuple (words_of row) → Sifts rules tuple (words_of other)
    → n ≤ length row.numbers.now → n ≤ length other.numbers.now
same_width rules tuple row other n sifts others within = omega (arith, row_width rules tuple row sifts, row_width rules tuple other others, within)

-- the words of a row that is cut out
pub cut_width : (numbers words : List ℕ) (from count rules : ℕ) → count ≡ rules / 64 + 1 → from + count ≤ length numbers
    → length (map (λ (number : ℕ). slice_index words number) (take count (drop from numbers))) ≡ rules / 64 + 1
cut_width numbers words from count rules same within =
    length-map (take count (drop from numbers)) (λ (number : ℕ). slice_index words number) ∙ omega (arith, length-take count (drop from numbers), length-drop from numbers, same)

-- a bit of a row that is cut out
pub cut_bit : (numbers words : List ℕ) (from count rule : ℕ) → rule / 64 < count → from + count ≤ length numbers → bit_at (slice_index words (slice_index numbers (from + rule / 64))) (rule % 64) ≡ 1
    → bit_at (slice_index (map (λ (number : ℕ). slice_index words number) (take count (drop from numbers))) (rule / 64)) (rule % 64) ≡ 1
cut_bit numbers words from count rule short within one =
    let inside : rule / 64 < length (take count (drop from numbers)) = omega (arith, length-take count (drop from numbers), length-drop from numbers) in
    let number : slice_index (take count (drop from numbers)) (rule / 64) ≡ slice_index numbers (from + rule / 64) =
    get_or-take count (drop from numbers) (rule / 64) 0 short ∙ get_or-drop from numbers (rule / 64) 0 in
    ap (λ (w : ℕ). bit_at w (rule % 64)) (get_or-map (λ (n : ℕ). slice_index words n) (take count (drop from numbers)) (rule / 64) 0 0 inside)
    ∙ (ap (λ (n : ℕ). bit_at (slice_index words n) (rule % 64)) number ∙ one)
