-- Numbers are read as the grammar says, and a word is cut at the first place of a byte.
use Rattle.std.proofs.Common.{◌≡◌, ℕ, suc, ◌+◌, ◌≤◌, ◌==◌, true, false, not, ◌&&◌, List, [], ◌∷◌, ◌++◌, length, take, drop, Option, Some, None, refl, sym, ap, ◌∙◌, subst, arith, inl, inr}
use Rattle.std.specs.Prelude.{nat_le, option_map, position}
use Rattle.std.specs.Char.{digit_value, is_digit}
use Rattle.std.specs.List.{list_all}
use Rattle.std.specs.Str.{bytes_eq}
use Rattle.std.specs.Str.Parse.{AllDigits, digits_value}
use Rattle.std.proofs.lemmas.Bool.{and_from, and_parts, cases_Bool, eqb-false, eqb-true, eq-eqb, le-leb, leb-true, lt-ltb, ltb-true, ne_eqb, not-true, not_from_false}
use Rattle.acl_policy.specs.Numerals.{IsGroup, IsNumber, IsOctet, IsPair, Spells}
use Rattle.acl_policy.specs.inner.WordReading.Numerals.{cut_in, group_in, is_numeral, number_in, numeral_in, octet_in, pair_in}
use Rattle.acl_policy.proofs.OptionLemmas.{at_most-le, at_most-some, bind_some, bytes_eq-false, chosen, guarded, map_some, same_some}
use Rattle.acl_policy.proofs.PlaceLemmas.{position-here, position-past}

AllDigits-list_all : (base : ℕ) (word : List ℕ) → list_all (λ b. is_digit b base) word ≡ true → AllDigits base word
AllDigits-list_all base [] all = tt
AllDigits-list_all base (b ∷ bs) all =
    let parts = and_parts (is_digit b base) (list_all (λ b. is_digit b base) bs) all in
    (ltb-true (digit_value b) base parts.0, AllDigits-list_all base bs parts.1)

list_all-AllDigits : (base : ℕ) (word : List ℕ) → AllDigits base word → list_all (λ b. is_digit b base) word ≡ true
list_all-AllDigits base [] all = refl
list_all-AllDigits base (b ∷ bs) all =
    and_from (is_digit b base) (list_all (λ b. is_digit b base) bs) (lt-ltb (digit_value b) base all.0) (list_all-AllDigits base bs all.1)

pub numeral_in-sound : (base most : ℕ) (word : List ℕ) (n : ℕ) → numeral_in base most word ≡ Some n → Spells base most word n
unfolding numeral_in
numeral_in-sound base most word n found =
    let numeral = guarded (is_numeral base most word) (digits_value base word) n found in
    let some = not (length word == 0) in
    let few = nat_le (length word) most in
    let parts = and_parts (some && few) (list_all (λ b. is_digit b base) word) numeral.0 in
    let counted = and_parts some few parts.0 in
    let no : length word ≡ 0 → ⊥ = eqb-false (length word) 0 (not-true (length word == 0) counted.0) in
    ((omega (arith, no), AllDigits-list_all base word parts.1), leb-true (length word) most counted.1, sym numeral.1)

pub numeral_in-complete : (base most : ℕ) (word : List ℕ) (n : ℕ) → Spells base most word n → numeral_in base most word ≡ Some n
unfolding numeral_in
numeral_in-complete base most word n spells =
    let some : not (length word == 0) ≡ true = not_from_false (length word == 0) (ne_eqb (length word) 0 (λ none. omega (arith, none, spells.0.0))) in
    let few : nat_le (length word) most ≡ true = le-leb (length word) most spells.1 in
    let digits = list_all-AllDigits base word spells.0.1 in
    let numeral : is_numeral base most word ≡ true =
    and_from (not (length word == 0) && nat_le (length word) most) (list_all (λ b. is_digit b base) word) (and_from (not (length word == 0)) (nat_le (length word) most) some few) digits in
    rw numeral (ap Some (sym spells.2))

pub number_in-sound : (word : List ℕ) (n : ℕ) → number_in word ≡ Some n → IsNumber word n
unfolding number_in
number_in-sound word n found = numeral_in-sound 10 5 word n found

pub number_in-complete : (word : List ℕ) (n : ℕ) → IsNumber word n → number_in word ≡ Some n
unfolding number_in
number_in-complete word n is = numeral_in-complete 10 5 word n is

pub group_in-sound : (word : List ℕ) (n : ℕ) → group_in word ≡ Some n → IsGroup word n
unfolding group_in
group_in-sound word n found = numeral_in-sound 16 4 word n found

pub group_in-complete : (word : List ℕ) (n : ℕ) → IsGroup word n → group_in word ≡ Some n
unfolding group_in
group_in-complete word n is = numeral_in-complete 16 4 word n is

pub octet_in-sound : (word : List ℕ) (n : ℕ) → octet_in word ≡ Some n → IsOctet word n
unfolding octet_in
octet_in-sound word n found =
    let read = bind_some (numeral_in 10 3 word) _ n found in
    let few = at_most-some 255 read.0 n read.2 in
    subst (λ (m : ℕ). IsOctet word m) few.0 (numeral_in-sound 10 3 word read.0 read.1, few.1)

pub octet_in-complete : (word : List ℕ) (n : ℕ) → IsOctet word n → octet_in word ≡ Some n
unfolding octet_in
octet_in-complete word n is = rw (numeral_in-complete 10 3 word n is.0) (at_most-le 255 n is.1)

pub pair_in-sound : (word : List ℕ) (n : ℕ) → pair_in word ≡ Some n → IsPair word n
unfolding pair_in
pair_in-sound word n found = elim (chosen (length word == 2) (numeral_in 16 2 word) None (Some n) found) [
  | inl two ↦ (numeral_in-sound 16 2 word n two.1, eqb-true (length word) 2 two.0)
  | inr other ↦ let none = other.1 in absurd (cc)
]

pub pair_in-complete : (word : List ℕ) (n : ℕ) → IsPair word n → pair_in word ≡ Some n
unfolding pair_in
pair_in-complete word n is = rw (eq-eqb (length word) 2 is.1) (numeral_in-complete 16 2 word n is.0)

-- The byte isn't in the word.
abbrev pub Lacks : ℕ → List ℕ → Type 0
Lacks byte [] = Unit {0}
Lacks byte (b ∷ bs) = ((b == byte) ≡ false) × Lacks byte bs

pub Lacks-append : (byte : ℕ) (a b : List ℕ) → Lacks byte a → Lacks byte b → Lacks byte (a ++ b)
Lacks-append byte [] b front back = back
Lacks-append byte (x ∷ a) b front back = (front.0, Lacks-append byte a b front.1 back)

pub Lacks-AllDigits : (base byte : ℕ) (word : List ℕ) → base ≤ digit_value byte → AllDigits base word → Lacks byte word
Lacks-AllDigits base byte [] none all = tt
Lacks-AllDigits base byte (b ∷ bs) none all =
    (ne_eqb b byte (λ same. let equal : digit_value b ≡ digit_value byte = ap digit_value same in omega (arith, equal, all.0, none)), Lacks-AllDigits base byte bs none all.1)

-- A word without a byte is no name that has it.
pub bytes_eq-Lacks : (byte : ℕ) (word name : List ℕ) → Lacks byte word → (Lacks byte name → ⊥) → bytes_eq word name ≡ false
bytes_eq-Lacks byte word name lacks has = bytes_eq-false word name (λ same. has (subst (Lacks byte) same lacks))

cut_in-nil : (byte : ℕ) → cut_in byte [] ≡ None
unfolding cut_in
cut_in-nil byte = refl

cut_in-here : (byte b : ℕ) (bs : List ℕ) → (b == byte) ≡ true → cut_in byte (b ∷ bs) ≡ Some ([], bs)
unfolding cut_in
cut_in-here byte b bs same = ap (option_map (λ i. (take i (b ∷ bs), drop (i + 1) (b ∷ bs)))) (position-here (λ b. b == byte) b bs same)

cut_later : (b : ℕ) (bs : List ℕ) (o : Option ℕ)
    → option_map {U = List ℕ × List ℕ} (λ i. (take i (b ∷ bs), drop (i + 1) (b ∷ bs))) (option_map suc o)
    ≡ option_map {U = List ℕ × List ℕ} (λ cut. (b ∷ cut.0, cut.1)) (option_map {U = List ℕ × List ℕ} (λ i. (take i bs, drop (i + 1) bs)) o)
cut_later b bs None = refl
cut_later b bs (Some i) =
    let e : suc i + 1 ≡ suc (i + 1) = omega arith in
    ap (λ (n : ℕ). Some (b ∷ take i bs, drop n (b ∷ bs))) e

cut_in-past : (byte b : ℕ) (bs : List ℕ) → (b == byte) ≡ false → cut_in byte (b ∷ bs) ≡ option_map (λ cut. (b ∷ cut.0, cut.1)) (cut_in byte bs)
unfolding cut_in
cut_in-past byte b bs other =
    ap (option_map {U = List ℕ × List ℕ} (λ i. (take i (b ∷ bs), drop (i + 1) (b ∷ bs)))) (position-past (λ b. b == byte) b bs other)
    ∙ cut_later b bs (position (λ b. b == byte) bs)

pub cut_in-sound : (byte : ℕ) (word front back : List ℕ) → cut_in byte word ≡ Some (front, back) → word ≡ front ++ byte ∷ back
cut_in-sound byte [] front back found = let none : cut_in byte [] ≡ None = cut_in-nil byte in absurd (cc)
cut_in-sound byte (b ∷ bs) front back found = elim (cases_Bool (b == byte)) [
  | inl same ↦
      let pair : ([], bs) ≡ (front, back) = same_some ([], bs) (front, back) (sym (cut_in-here byte b bs same) ∙ found) in
      ap (λ (x : ℕ). x ∷ bs) (eqb-true b byte same) ∙ ap (λ (cut : List ℕ × List ℕ). cut.0 ++ byte ∷ cut.1) pair
  | inr other ↦
      let later = map_some {B = List ℕ × List ℕ} (λ cut. (b ∷ cut.0, cut.1)) (cut_in byte bs) (front, back) (sym (cut_in-past byte b bs other) ∙ found) in
      let rest = cut_in-sound byte bs later.0.0 later.0.1 later.1 in
      ap (λ (w : List ℕ). b ∷ w) rest ∙ ap (λ (cut : List ℕ × List ℕ). cut.0 ++ byte ∷ cut.1) (sym later.2)
]

pub cut_in-complete : (byte : ℕ) (front back : List ℕ) → Lacks byte front → cut_in byte (front ++ byte ∷ back) ≡ Some (front, back)
cut_in-complete byte [] back lacks = cut_in-here byte byte back (eq-eqb byte byte refl)
cut_in-complete byte (b ∷ bs) back lacks =
    cut_in-past byte b (bs ++ byte ∷ back) lacks.0 ∙ ap (option_map (λ cut. (b ∷ cut.0, cut.1))) (cut_in-complete byte bs back lacks.1)

pub cut_in-none : (byte : ℕ) (word : List ℕ) → Lacks byte word → cut_in byte word ≡ None
cut_in-none byte [] lacks = cut_in-nil byte
cut_in-none byte (b ∷ bs) lacks = cut_in-past byte b bs lacks.0 ∙ ap (option_map (λ cut. (b ∷ cut.0, cut.1))) (cut_in-none byte bs lacks.1)
