-- One word after the other is read as it is written.
use Rattle.std.proofs.Common.{◌≡◌, ◌^◌, ◌∙◌, ℕ, false, List, ◌∷◌, Option, Some, None, ap, refl, subst, sym}
use Rattle.std.specs.Prelude.{nat_lt, option_map}
use Rattle.std.specs.Str.{bytes_eq}
use Rattle.std.proofs.lemmas.Bool.{lt-ltb, ltb-true}
use Rattle.acl_policy.specs.Numerals.{IsPair}
use Rattle.acl_policy.specs.Readers.{IsNumberUpTo, IsReaderOf}
use Rattle.acl_policy.specs.inner.WordReading.{next_in}
use Rattle.acl_policy.specs.inner.WordReading.Numerals.{numeral_in, pair_in}
use Rattle.acl_policy.specs.inner.WordReading.Traffic.{after_in, number_up_to_in}
use Rattle.acl_policy.proofs.NumeralLaws.{numeral_in-complete, numeral_in-sound, pair_in-complete, pair_in-sound}
use Rattle.acl_policy.proofs.OptionLemmas.{bind_some, bytes_eq-same, bytes_eq-true, guarded, map_some, next_in-some}
use Rattle.acl_policy.proofs.RangeLaws.{number_up_to-complete, number_up_to-sound}
use Rattle.packet_questions.specs.Questions.{IsSecond}
use Rattle.packet_questions.specs.inner.Reading.{below, named_in, second_in, step}

-- a word and what follows it, where the word says this
pub record IsStep {A : Type 0} (Is : List ℕ → A → Type 0) (words : List (List ℕ)) (found : A × List (List ℕ)) : Type 0 where
  pub word : List ℕ
  pub spelt : words ≡ word ∷ found.1
  pub is : Is word found.0

pub step-sound : {A : Type 0} (Is : List ℕ → A → Type 0) (read : List ℕ → Option A) → IsReaderOf Is read → (words : List (List ℕ)) (found : A × List (List ℕ))
    → step read words ≡ Some found → IsStep Is words found
step-sound {A = A} Is read reads words found is =
    let next = bind_some (next_in words) _ found is in
    let value = map_some {B = A × List (List ℕ)} (λ v. (v, next.0.1)) (read next.0.0) found next.2 in
    subst (IsStep Is words) (sym value.2) (record {
      word = next.0.0;
      spelt = next_in-some words next.0.0 next.0.1 next.1;
      is = (reads next.0.0 value.0).0 value.1;
    })

pub step-complete : {A : Type 0} (Is : List ℕ → A → Type 0) (read : List ℕ → Option A) → IsReaderOf Is read → (word : List ℕ) (rest : List (List ℕ)) (value : A)
    → Is word value → step read (word ∷ rest) ≡ Some (value, rest)
step-complete {A = A} Is read reads word rest value is = ap (λ (o : Option A). option_map (λ v. (v, rest)) o) ((reads word value).1 is)

pub after-sound : (name : List ℕ) (words rest : List (List ℕ)) → after_in name words ≡ Some rest → words ≡ name ∷ rest
unfolding after_in
after-sound name words rest found =
    let next = bind_some (next_in words) _ rest found in
    let same = guarded (bytes_eq next.0.0 name) next.0.1 rest next.2 in
    next_in-some words next.0.0 next.0.1 next.1 ∙ ap (λ (w : List ℕ). w ∷ next.0.1) (bytes_eq-true next.0.0 name same.0)
    ∙ ap (λ (ws : List (List ℕ)). name ∷ ws) same.1

pub after-complete : (name : List ℕ) (rest : List (List ℕ)) → after_in name (name ∷ rest) ≡ Some rest
unfolding after_in
after-complete name rest = rw (bytes_eq-same name name refl) refl

pub after-other : (name word : List ℕ) (rest : List (List ℕ)) → bytes_eq word name ≡ false → after_in name (word ∷ rest) ≡ None
unfolding after_in
after-other name word rest other = rw other refl

-- a name, a word, and what follows
pub record IsNamed {A : Type 0} (name : List ℕ) (Is : List ℕ → A → Type 0) (words : List (List ℕ)) (found : A × List (List ℕ)) : Type 0 where
  pub word : List ℕ
  pub spelt : words ≡ name ∷ word ∷ found.1
  pub is : Is word found.0

pub named-sound : {A : Type 0} (name : List ℕ) (Is : List ℕ → A → Type 0) (read : List ℕ → Option A) → IsReaderOf Is read → (words : List (List ℕ)) (found : A × List (List ℕ))
    → named_in name read words ≡ Some found → IsNamed name Is words found
unfolding named_in
named-sound name Is read reads words found is =
    let behind = bind_some (after_in name words) (step read) found is in
    let s = step-sound Is read reads behind.0 found behind.2 in
    record { word = s.word; spelt = after-sound name words behind.0 behind.1 ∙ ap (λ (ws : List (List ℕ)). name ∷ ws) s.spelt; is = s.is }

pub named-complete : {A : Type 0} (name : List ℕ) (Is : List ℕ → A → Type 0) (read : List ℕ → Option A) → IsReaderOf Is read → (word : List ℕ) (rest : List (List ℕ)) (value : A)
    → Is word value → named_in name read (name ∷ word ∷ rest) ≡ Some (value, rest)
unfolding named_in
named-complete name Is read reads word rest value is = rw (after-complete name (word ∷ rest)) (step-complete Is read reads word rest value is)

-- ---- numbers

pub number_read : (most : ℕ) → IsReaderOf (IsNumberUpTo most) (number_up_to_in most)
number_read most word n = (λ found. number_up_to-sound most word n found, λ is. number_up_to-complete most word n is.0 is.1)

pub pair_read : IsReaderOf IsPair pair_in
pair_read word n = (λ found. pair_in-sound word n found, λ is. pair_in-complete word n is)

pub second-sound : (word : List ℕ) (second : ℕ) → second_in word ≡ Some second → IsSecond word second
unfolding second_in
second-sound word second found =
    let number = bind_some (numeral_in 10 10 word) (below (2 ^ 32)) second found in
    let small = guarded (nat_lt number.0 (2 ^ 32)) number.0 second number.2 in
    subst (IsSecond word) small.1 (numeral_in-sound 10 10 word number.0 number.1, ltb-true number.0 (2 ^ 32) small.0)

pub second-complete : (word : List ℕ) (second : ℕ) → IsSecond word second → second_in word ≡ Some second
unfolding second_in
second-complete word second is = rw (numeral_in-complete 10 10 word second is.0, lt-ltb second (2 ^ 32) is.1) refl
