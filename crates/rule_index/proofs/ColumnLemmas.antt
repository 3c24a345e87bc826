-- Bits that are set one by one.
use Rattle.std.proofs.Common.{◌≡◌, ◌≢◌, ◌⊎◌, ◌≤◌, ◌<◌, ℕ, ◌+◌, ◌++◌, ◌*◌, ◌^◌, ◌/◌, ◌%◌, List, length, arith, inl, inr, refl, ap, ◌∙◌, sym, get_or, subst, take, drop}
use Rattle.std.proofs.lemmas.Bool.{cases_eq, cases_order}
use Rattle.std.proofs.lemmas.List.{get_or_default, get_or-drop, get_or-set_other, get_or-set_same, get_or-take}
use Rattle.std.proofs.Math.Seq.{take-append_seam}
use Rattle.std.proofs.lemmas.Option.{slice_get_read, slice_get-get_or, slice_get_within}
use Rattle.rule_index.specs.declared.column.Column.{Column}
use Rattle.rule_index.specs.declared.ranges_of_rules.Dimension.{Dimension}
use Rattle.rule_index.specs.Rows.{bit_in}
use Rattle.rule_index.specs.inner.Columns.{Holds}
use Rattle.rule_index.specs.Dimensions.{Span}
use Rattle.rule_index.specs.Indexes.{Sieves}
use Rattle.acl_policy.specs.Rules.{RuleFacts}
use Rattle.std.specs.Prelude.{slice_get, Some}
use Rattle.acl_policy.proofs.OptionLemmas.{same_some}
use Rattle.std.proofs.lemmas.Nat.{mul-le}
use Rattle.std.proofs.lemmas.Nat.Bits.{bit_at_set_same, bit_at_set_other}
use Rattle.std.specs.Prelude.{bit_or, slice_set}
use Rattle.std.specs.Int.{w64, bit_at}
use mir.Val.{bits}

-- a bit that is set is set
pub set_here : (words : List ℕ) (word bit : ℕ) → word < length words → bit < 64
    → bit_at (get_or (slice_set words word (bit_or (get_or words word 0) (1 * 2 ^ bit % 2 ^ bits w64))) word 0) bit ≡ 1
set_here words word bit within short =
    ap (λ (n : ℕ). bit_at n bit) (get_or-set_same words word (bit_or (get_or words word 0) (1 * 2 ^ bit % 2 ^ bits w64)) 0 within)
    ∙ bit_at_set_same w64 (get_or words word 0) bit short

set_beside : (words : List ℕ) (word bit : ℕ) → word < length words → bit < 64 → (b : ℕ) → b ≢ bit
    → bit_at (get_or (slice_set words word (bit_or (get_or words word 0) (1 * 2 ^ bit % 2 ^ bits w64))) word 0) b ≡ bit_at (get_or words word 0) b
set_beside words word bit within short b other =
    ap (λ (n : ℕ). bit_at n b) (get_or-set_same words word (bit_or (get_or words word 0) (1 * 2 ^ bit % 2 ^ bits w64)) 0 within)
    ∙ bit_at_set_other w64 (get_or words word 0) bit short b other

-- a bit that is set leaves each other one as it is
pub set_other : (words : List ℕ) (word bit : ℕ) → word < length words → bit < 64 → (w b : ℕ) → (w ≢ word) ⊎ (b ≢ bit)
    → bit_at (get_or (slice_set words word (bit_or (get_or words word 0) (1 * 2 ^ bit % 2 ^ bits w64))) w 0) b ≡ bit_at (get_or words w 0) b
set_other words word bit within short w b other =
    elim (cases_eq w word) [
      | inl here ↦ elim other [
        | inl apart ↦ absurd (apart here)
        | inr beside ↦ subst (λ (k : ℕ). bit_at (get_or (slice_set words word (bit_or (get_or words word 0) (1 * 2 ^ bit % 2 ^ bits w64))) k 0) b ≡ bit_at (get_or words k 0) b) (sym here)
            (set_beside words word bit within short b beside)
      ]
      | inr apart ↦ ap (λ (n : ℕ). bit_at n b) (get_or-set_other words word w (bit_or (get_or words word 0) (1 * 2 ^ bit % 2 ^ bits w64)) 0 apart)
    ]

pub same_row : (r row width a b : ℕ) → a < width → b < width → r * width + a ≡ row * width + b → r ≡ row
same_row r row width a b short narrow same =
    elim (cases_order r row) [
      | inl equal ↦ equal
      | inr apart ↦ elim apart [
        | inl below ↦
            let more : (r + 1) * width ≤ row * width = mul-le (r + 1) width row width (omega arith) (omega arith) in
            absurd (omega arith)
        | inr above ↦
            let more : (row + 1) * width ≤ r * width = mul-le (row + 1) width r width (omega arith) (omega arith) in
            absurd (omega arith)
      ]
    ]

-- the bits of two rules, or of two rows, are at two places
pub two_places : (r row width k rule : ℕ) → k / 64 < width → rule / 64 < width → (r ≢ row) ⊎ (k ≢ rule)
    → (r * width + k / 64 ≢ row * width + rule / 64) ⊎ (k % 64 ≢ rule % 64)
two_places r row width k rule short narrow other =
    elim (cases_eq (k % 64) (rule % 64)) [
      | inr apart ↦ inr apart
      | inl same ↦ inl (λ together.
          let rows : r ≡ row = same_row r row width (k / 64) (rule / 64) short narrow together in
          let products : r * width ≡ row * width = ap (λ (n : ℕ). n * width) rows in
          let rules : k ≡ rule = omega (arith, same, together, products) in
          elim other [
            | inl apart ↦ apart rows
            | inr beside ↦ beside rules
          ])
    ]

-- a word of a row is in the rows
pub cell_within : (row rows word width : ℕ) → row < rows → word < width → row * width + word < rows * width
cell_within row rows word width above within =
    let more : (row + 1) * width ≤ rows * width = mul-le (row + 1) width rows width (omega arith) (omega arith) in
    omega arith

-- a bit of a row of its own
pub in_row : (rows : List ℕ) (from count word bit : ℕ) → word < count → bit_at (get_or rows (from + word) 0) bit ≡ 1
    → bit_at (get_or (take count (drop from rows)) word 0) bit ≡ 1
in_row rows from count word bit within one =
    ap (λ (n : ℕ). bit_at n bit) (get_or-take count (drop from rows) word 0 within ∙ get_or-drop from rows word 0) ∙ one

-- all of a list written over
pub written_over : (new old : List ℕ) (n : ℕ) → length new ≡ n → take n (new ++ drop (length new) old) ≡ new
written_over new old n same = rw (← same) (take-append_seam new (drop (length new) old))

-- what is read at a place
pub read_there : {X : Type 0} (xs : List X) (i : ℕ) (x d : X) → slice_get xs i ≡ Some x → get_or xs i d ≡ x
read_there xs i x d read =
    let within : i < length xs = slice_get_within xs i x read in
    let there : slice_get xs i ≡ Some (get_or xs i d) = slice_get_read xs (length xs) i (get_or xs i d) refl within (get_or_default xs i d (get_or xs i d) within) in
    same_some (get_or xs i d) x (sym there ∙ read)

-- the ranges of rules hold what the rules match
pub sieves_from : (dimension : Dimension) (rules : List RuleFacts) (ranges : List (ℕ × ℕ)) (column : Column) → Span dimension rules ranges → Holds ranges column → Sieves dimension rules column
sieves_from dimension rules ranges column span holds =
    record {
      width = subst (λ (n : ℕ). column.width ≡ n / 64 + 1) span.len holds.width;
      held = λ k row x rule tuple read fits at matches place.
          let within : k < length rules = slice_get_within rules k rule read in
          let range : slice_get ranges k ≡ Some (get_or ranges k (0, 0)) = slice_get-get_or ranges k (0, 0) (omega (arith, span.len)) in
          holds.held k row x (get_or ranges k (0, 0)) range (span.each k rule (get_or ranges k (0, 0)) read range tuple x fits at matches) place;
    }

-- bits that are set stay so
pub bits_kept : (width : ℕ) (old rows : List ℕ) (row rule : ℕ) → bit_in width rows row rule ≡ 1
    → ((r k : ℕ) → k / 64 < width → (r ≢ row) ⊎ (k ≢ rule) → bit_in width rows r k ≡ bit_in width old r k)
    → (r k : ℕ) → k / 64 < width → bit_in width old r k ≡ 1 → bit_in width rows r k ≡ 1
bits_kept width old rows row rule set others r k short one =
    elim (cases_eq r row) [
      | inr apart ↦ others r k short (inl apart) ∙ one
      | inl same ↦ elim (cases_eq k rule) [
        | inr beside ↦ others r k short (inr beside) ∙ one
        | inl equal ↦ subst (λ (i : ℕ). bit_in width rows i k ≡ 1) (sym same) (subst (λ (n : ℕ). bit_in width rows row n ≡ 1) (sym equal) set)
      ]
    ]
