-- How many elements lists have.
use Rattle.std.proofs.Common.{◌≡◌, ◌≢◌, ◌∙◌, ◌+◌, ◌<◌, ◌≤◌, ℕ, zero, suc, Bool, true, false, cond, not, List, [], ◌∷◌, length, ap, refl, sym, subst, arith, inl, inr}
use Rattle.std.specs.Prelude.{◌==◌}
use Rattle.std.specs.List.{filter}
use Rattle.std.proofs.lemmas.Bool.Decides.{eqb_tells}
use lib.ListN.{get_elem?}
use mathlib.Core.Option.{some, some-ne-none, some-injective}
use Rattle.flow_dealing.proofs.Places.{kept_there}

module _ {X : Type 0} where
  no_more : (test : X → Bool) (xs : List X) → length (filter test xs) ≤ length xs
  no_more test [] = omega arith
  no_more test (x ∷ xs) = go (test x) (no_more test xs)
    where
      go : (t : Bool) → length (filter test xs) ≤ length xs
          → length (cond t (x ∷ filter test xs) (filter test xs)) ≤ suc (length xs)
      go true few = omega arith
      go false few = omega arith

  -- a list is longer than what passes a test that one element fails
  fewer : (test : X → Bool) (xs : List X) (p : ℕ) (x : X) → get_elem? xs p ≡ some x → test x ≡ false
      → length (filter test xs) + 1 ≤ length xs
  fewer test [] p x at fails = absurd (some-ne-none x (sym at))
  fewer test (y ∷ ys) zero x at fails =
      let here : test y ≡ false = ap test (some-injective y x at) ∙ fails in
      let few = no_more test ys in
      subst (λ (t : Bool). length (cond t (y ∷ filter test ys) (filter test ys)) + 1 ≤ suc (length ys)) (sym here)
      (omega arith)
  fewer test (y ∷ ys) (suc p) x at fails = go (test y) (fewer test ys p x at fails)
    where
      go : (t : Bool) → length (filter test ys) + 1 ≤ length ys
          → length (cond t (y ∷ filter test ys) (filter test ys)) + 1 ≤ suc (length ys)
      go true few = omega arith
      go false few = omega arith

  -- an element with this label
  abbrev pub IsLabelled : (X → ℕ) → List X → ℕ → Type 0
  IsLabelled label xs k = (p : ℕ) × (x : X) × (get_elem? xs p ≡ some x) × (label x ≡ k)

  -- a list with n labels has n elements
  pub at_least : (label : X → ℕ) (n : ℕ) (xs : List X) → ((k : ℕ) → k < n → IsLabelled label xs k) → n ≤ length xs
  at_least label zero xs has = omega arith
  at_least label (suc n) xs has =
      let test : X → Bool = λ x. not (label x == n) in
      let last = has n (omega arith) in
      let less = fewer test xs last.0 last.1 last.2 (elim (eqb_tells (label last.1) n) [
        | inl (is, same) ↦ ap not is
        | inr (is, other) ↦ absurd (other last.3)
      ]) in
      let rest = at_least label n (filter test xs) (λ k few.
      let h = has k (omega arith) in
      let label_is : label h.1 ≡ k = h.3 in
      let j = kept_there test xs h.0 h.1 h.2 (elim (eqb_tells (label h.1) n) [
        | inl (is, same) ↦ absurd (omega arith)
        | inr (is, other) ↦ ap not is
      ]) in
      (j.0, h.1, j.1, h.3)) in
      omega arith

-- the sum of f from w on, of n numbers
abbrev pub sum_at : ℕ → ℕ → (ℕ → ℕ) → ℕ
sum_at w zero f = 0
sum_at w (suc n) f = f w + sum_at (w + 1) n f

pub sum_zero : (w n : ℕ) (f : ℕ → ℕ) → ((k : ℕ) → f k ≡ 0) → sum_at w n f ≡ 0
sum_zero w zero f none = refl
sum_zero w (suc n) f none = let here = none w in let more = sum_zero (w + 1) n f none in omega arith

module _ (which x : ℕ) (f g : ℕ → ℕ) (one : (k : ℕ) → g k ≤ cond (which == k) (f k + x) (f k)) where
  apart : (k : ℕ) → which ≢ k → g k ≤ f k
  apart k other = elim (eqb_tells which k) [
    | inl (test, same) ↦ absurd (other same)
    | inr (test, _) ↦ subst (λ t. g k ≤ cond t (f k + x) (f k)) test (one k)
  ]

  sum_past : (w n : ℕ) → which < w → sum_at w n g ≤ sum_at w n f
  sum_past w zero past = omega arith
  sum_past w (suc n) past =
      let here = apart w (λ same. omega arith) in
      let more = sum_past (w + 1) n (omega arith) in
      omega arith

  -- where one summand alone grows, and by x at most, so does the sum
  pub sum_one : (w n : ℕ) → sum_at w n g ≤ sum_at w n f + x
  sum_one w zero = omega arith
  sum_one w (suc n) = elim (eqb_tells which w) [
    | inl (test, same) ↦
        let here : g w ≤ f w + x = subst (λ t. g w ≤ cond t (f w + x) (f w)) test (one w) in
        let more = sum_past (w + 1) n (omega arith) in
        omega arith
    | inr (test, other) ↦
        let here = apart w other in
        let more = sum_one (w + 1) n in
        omega arith
  ]
