-- What the bits of the rules that match leave out.
use Rattle.std.proofs.Common.{◌≡◌, ◌≤◌, ◌<◌, ℕ, ◌+◌, ◌-◌, ◌*◌, ◌^◌, ◌/◌, ◌%◌, List, arith, inl, inr, ap, ◌∙◌, sym, get_or, subst, Some}
use Rattle.std.proofs.lemmas.Bool.{cases_eq, cases_lt}
use Rattle.std.proofs.lemmas.Nat.{and_le_l}
use Rattle.std.proofs.lemmas.Nat.Bits.{bit_at_and, bit_at_clear_same, bit_at_clear_other}
use Rattle.std.specs.Prelude.{bit_and, slice_get}
use Rattle.std.specs.Int.{w64, bit_at, bit_not}
use Rattle.packet_view.specs.Tuples.{TupleFacts}
use Rattle.acl_policy.specs.Rules.{RuleFacts}
use Rattle.rule_index.specs.inner.Sieves.{KeepsMatches, NoneBefore, NotAt, Sifts}
use mir.Val.{bits}

one_or_none : (word bit : ℕ) → bit_at word bit ≡ 1 → bit_at word bit ≡ 0 → ⊥
one_or_none word bit one none = absurd (omega (arith, one, none))

pub none_before_bit : (rules : List RuleFacts) (tuple : TupleFacts) (from word n : ℕ) → n ≤ 64 → NoneBefore rules tuple from → KeepsMatches rules tuple from word
    → ((i : ℕ) → i < n → bit_at word i ≡ 0) → NoneBefore rules tuple (from + n)
none_before_bit rules tuple from word n few before kept clear = λ k other below read matches.
    elim (cases_lt k from) [
      | inl early ↦ before k other early read matches
      | inr late ↦
          let there : k ≡ from + (k - from) = omega arith in
          one_or_none word (k - from)
          (kept (k - from) other (omega arith) (subst (λ (i : ℕ). slice_get rules i ≡ Some other) there read) matches)
          (clear (k - from) (omega arith))
    ]

pub kept_without : (rules : List RuleFacts) (tuple : TupleFacts) (from word n : ℕ) → n < 64 → KeepsMatches rules tuple from word → NotAt rules tuple (from + n)
    → KeepsMatches rules tuple from (bit_and word (bit_not w64 (1 * 2 ^ n % 2 ^ bits w64)))
kept_without rules tuple from word n short kept not = λ bit rule within read matches.
    elim (cases_eq bit n) [
      | inl same ↦ absurd (not rule (subst (λ (i : ℕ). slice_get rules (from + i) ≡ Some rule) same read) matches)
      | inr other ↦ bit_at_clear_other w64 word n short bit within other ∙ kept bit rule within read matches
    ]

pub keeps_row : (rules : List RuleFacts) (tuple : TupleFacts) (words : List ℕ) (i : ℕ) → Sifts rules tuple words → KeepsMatches rules tuple (i * 64) (get_or words i 0)
keeps_row rules tuple words i sifts = λ bit rule within read matches.
    let word : (i * 64 + bit) / 64 ≡ i = omega arith in
    let place : (i * 64 + bit) % 64 ≡ bit = omega arith in
    subst (λ (b : ℕ). bit_at (get_or words i 0) b ≡ 1) place
    (subst (λ (w : ℕ). bit_at (get_or words w 0) ((i * 64 + bit) % 64) ≡ 1) word (sifts.sifted (i * 64 + bit) rule read matches))

pub keeps_both : (rules : List RuleFacts) (tuple : TupleFacts) (from a b : ℕ) → KeepsMatches rules tuple from a → KeepsMatches rules tuple from b
    → KeepsMatches rules tuple from (bit_and a b)
keeps_both rules tuple from a b one other = λ bit rule within read matches.
    let left : bit_at a bit ≡ 1 = one bit rule within read matches in
    let right : bit_at b bit ≡ 1 = other bit rule within read matches in
    bit_at_and a b bit ∙ omega arith

pub cleared_less : (word n : ℕ) → n < 64 → bit_at word n ≡ 1 → bit_and word (bit_not w64 (1 * 2 ^ n % 2 ^ bits w64)) < word
cleared_less word n short one =
    let less : bit_and word (bit_not w64 (1 * 2 ^ n % 2 ^ bits w64)) ≤ word = and_le_l word (bit_not w64 (1 * 2 ^ n % 2 ^ bits w64)) in
    elim (cases_eq (bit_and word (bit_not w64 (1 * 2 ^ n % 2 ^ bits w64))) word) [
      | inl same ↦ absurd (one_or_none word n one (sym (ap (λ (m : ℕ). bit_at m n) same) ∙ bit_at_clear_same w64 word n short))
      | inr apart ↦ omega arith
    ]

-- a word that is that of a row
pub keeps_word : (rules : List RuleFacts) (tuple : TupleFacts) (words : List ℕ) (i word : ℕ) → word ≡ get_or words i 0 → Sifts rules tuple words → KeepsMatches rules tuple (i * 64) word
keeps_word rules tuple words i word same sifts = subst (λ (w : ℕ). KeepsMatches rules tuple (i * 64) w) (sym same) (keeps_row rules tuple words i sifts)
