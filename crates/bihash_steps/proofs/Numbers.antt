-- A caller has at most as many numbers as there are, and each of them where it has as many.
use Rattle.std.proofs.Common.{◌≡◌, ◌≢◌, ◌⊎◌, ℕ, zero, suc, ◌+◌, ◌<◌, ◌≤◌, eqb, ◌||◌, Bool, true, false, true≢false, List, [], ◌∷◌, map, length, refl, sym, ap, ◌∙◌, subst, inl, inr, ⊎_elim, arith, ne_eqb}
use mathlib.Core.Option.{some, some-ne-none, some-injective}
use native.Mathlib.Decide.{ℕ_discrete}
use lib.ListN.{get_elem?, length-map}
use Rattle.std.specs.List.{IsDistinct, AllByRecursion, list_any}
use Rattle.std.proofs.lemmas.Bool.{eqb-true}
use Rattle.std.proofs.lemmas.Map.Steps.{length-le_from_distinct_below}
use Rattle.bihash_rule.specs.Callers.{HasNumbers, HasNumber, IsWhole}
use Rattle.bihash_rule.specs.Views.{empty_record}
use Rattle.bihash_rule.specs.declared.view.Record.{Record}

-- no two records have one number; each number is below n; none is n
abbrev Once : List Record → Type 0
Once rs = (i k : ℕ) (r q : Record) → i ≢ k → get_elem? rs i ≡ some r → get_elem? rs k ≡ some q → r.number ≢ q.number

abbrev Below : ℕ → List Record → Type 0
Below n rs = (i : ℕ) (r : Record) → get_elem? rs i ≡ some r → r.number < n

abbrev Without : ℕ → List Record → Type 0
Without n rs = (i : ℕ) (r : Record) → get_elem? rs i ≡ some r → r.number ≢ n

-- ---- Records with other numbers below n are at most n

numbers_of : List Record → List ℕ
numbers_of rs = map (λ (r : Record). r.number) rs

all_other : (n : ℕ) (rs : List Record) → Without n rs → AllByRecursion (λ y. eqb n y ≡ false) (numbers_of rs)
unfolding numbers_of
all_other n [] other = tt
all_other n (q ∷ qs) other = (ne_eqb n q.number (λ h. other 0 q refl (sym h)), all_other n qs (λ i r e. other (suc i) r e))

distinct : (rs : List Record) → Once rs → IsDistinct eqb (numbers_of rs)
unfolding IsDistinct numbers_of
distinct [] once = tt
distinct (q ∷ qs) once = (
  all_other q.number qs (λ i r e h. once 0 (suc i) q r (λ z. omega arith) refl e (sym h)),
  distinct qs (λ i k r p ne e f. once (suc i) (suc k) r p (λ h. ne (omega arith)) e f),
)

below : (rs : List Record) (n : ℕ) → Below n rs → (q : ℕ) → list_any (eqb q) (numbers_of rs) ≡ true → q < n
unfolding numbers_of
below [] n small q e = absurd (true≢false (sym e))
below (r ∷ rs) n small q e = go (λ h. below rs n (λ i p f. small (suc i) p f) q h) (eqb q r.number) refl e
  where
    go : (list_any (eqb q) (numbers_of rs) ≡ true → q < n) → (b : Bool) → eqb q r.number ≡ b
        → (b || list_any (eqb q) (numbers_of rs)) ≡ true → q < n
    go rec true is h = let same = eqb-true q r.number is in let l = small 0 r refl in omega arith
    go rec false is h = rec h

fit_below : (rs : List Record) (n : ℕ) → Once rs → Below n rs → length rs ≤ n
unfolding numbers_of
fit_below rs n once small =
    let l : length (numbers_of rs) ≤ n = length-le_from_distinct_below (numbers_of rs) n (distinct rs once) (below rs n small) in
    let m : length (numbers_of rs) ≡ length rs = length-map rs (λ (r : Record). r.number) in omega arith

-- ---- One record more, with a number of its own

number_is : (n : ℕ) (r : Record) → some (empty_record n) ≡ some r → r.number ≡ n
number_is n r e = ap (λ (x : Record). x.number) (sym (some-injective (empty_record n) r e))

more_once : (n : ℕ) (rs : List Record) → Once rs → Without n rs → Once (empty_record n ∷ rs)
more_once n rs once new zero zero r q ne e f = absurd (ne refl)
more_once n rs once new zero (suc k) r q ne e f = λ h. new k q f (sym h ∙ number_is n r e)
more_once n rs once new (suc i) zero r q ne e f = λ h. new i r e (h ∙ number_is n q f)
more_once n rs once new (suc i) (suc k) r q ne e f = once i k r q (λ h. ne (omega arith)) e f

more_below : (m n : ℕ) (rs : List Record) → m < n → Below n rs → Below n (empty_record m ∷ rs)
more_below m n rs l small zero r e = let h = number_is m r e in omega arith
more_below m n rs l small (suc i) r e = small i r e

-- ---- Callers

no_zero : (seen : ℕ) (rs : List Record) → HasNumbers seen rs → Without 0 rs
no_zero seen rs has i r e h = let l = (has.range i r e).0 in omega arith

all_below : (seen : ℕ) (rs : List Record) → HasNumbers seen rs → Below (seen + 1) rs
all_below seen rs has i r e = let h = (has.range i r e).1 in omega arith

pub few_numbers : (seen : ℕ) (rs : List Record) → HasNumbers seen rs → length rs ≤ seen
few_numbers seen rs has =
    let once = more_once 0 rs has.once (no_zero seen rs has) in
    let small = more_below 0 (seen + 1) rs (omega arith) (all_below seen rs has) in
    let l : suc (length rs) ≤ seen + 1 = fit_below (empty_record 0 ∷ rs) (seen + 1) once small in omega arith

-- as many numbers up to the count, and one besides, would be too many
lacks_none : (count n : ℕ) (rs : List Record) → HasNumbers count rs → count ≡ length rs → 1 ≤ n → n ≤ count → Without n rs → ⊥
lacks_none count n rs has same low high new =
    let more = empty_record n ∷ rs in
    let once = more_once 0 more (more_once n rs has.once new) zero_free in
    let small = more_below 0 (count + 1) more (omega arith) (more_below n (count + 1) rs (omega arith) (all_below count rs has)) in
    let l : suc (suc (length rs)) ≤ count + 1 = fit_below (empty_record 0 ∷ more) (count + 1) once small in omega arith
  where
    zero_free : Without 0 (empty_record n ∷ rs)
    zero_free zero r e = λ h. let m = number_is n r e in omega arith
    zero_free (suc i) r e = no_zero count rs has i r e

has_or_not : (rs : List Record) (n : ℕ) → HasNumber rs n ⊎ Without n rs
has_or_not [] n = inr (λ i r e. absurd (some-ne-none r (sym e)))
has_or_not (q ∷ qs) n = elim (ℕ_discrete q.number n) [
  | yes e ↦ inl (0, q, refl, e)
  | no ne ↦ elim (has_or_not qs n) [ inl h ↦ inl (suc h.0, h.1, h.2, h.3) | inr none ↦ inr (beyond ne none) ]
]
  where
    beyond : q.number ≢ n → Without n qs → Without n (q ∷ qs)
    beyond ne none zero r e = subst (λ (x : Record). x.number ≢ n) (some-injective q r e) ne
    beyond ne none (suc i) r e = none i r e

pub whole_by_count : (count : ℕ) (rs : List Record) → HasNumbers count rs → count ≡ length rs → IsWhole rs count
whole_by_count count rs has same n low high =
    ⊎_elim (λ (h : HasNumber rs n). h) (λ (new : Without n rs). absurd (lacks_none count n rs has same low high new)) (has_or_not rs n)
