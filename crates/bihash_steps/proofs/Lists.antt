-- Where the elements of a list stand.
use Rattle.std.proofs.Common.{◌≡◌, ◌⊎◌, ℕ, zero, suc, ◌+◌, ◌<◌, List, [], ◌∷◌, ◌++◌, length, take, drop, refl, sym, ap, ◌∙◌, inl, inr, arith}
use mathlib.Core.Option.{some, some-ne-none, some-injective}
use lib.ListN.{get_elem?}
use Rattle.bihash_rule.specs.Words.{Stands}

module _ {A : Type 0} where
  pub within : (l : List A) (i : ℕ) (a : A) → get_elem? l i ≡ some a → i < length l
  within [] i a e = absurd (some-ne-none a (sym e))
  within (x ∷ xs) zero a e = omega arith
  within (x ∷ xs) (suc i) a e = let h = within xs i a e in omega arith

  pub there : (l : List A) (i : ℕ) → i < length l → (a : A) × (get_elem? l i ≡ some a)
  there [] i h = absurd (omega arith)
  there (x ∷ xs) zero h = (x, refl)
  there (x ∷ xs) (suc i) h = there xs i (omega arith)

  -- an element of a list that is one longer is in the list or is its last
  pub at_end : (l : List A) (a b : A) (j : ℕ) → get_elem? (l ++ a ∷ []) j ≡ some b → (get_elem? l j ≡ some b) ⊎ ((j ≡ length l) × (a ≡ b))
  at_end [] a b zero e = inr (refl, some-injective a b e)
  at_end [] a b (suc j) e = absurd (some-ne-none b (sym e))
  at_end (x ∷ xs) a b zero e = inl e
  at_end (x ∷ xs) a b (suc j) e = elim (at_end xs a b j e) [ inl h ↦ inl h | inr h ↦ inr (ap suc h.0, h.1) ]

  pub at_either : (l m : List A) (i : ℕ) (a : A) → get_elem? (l ++ m) i ≡ some a → (get_elem? l i ≡ some a)
      ⊎ ((k : ℕ) × (i ≡ length l + k) × (get_elem? m k ≡ some a))
  at_either [] m i a e = inr (i, omega arith, e)
  at_either (x ∷ xs) m zero a e = inl e
  at_either (x ∷ xs) m (suc i) a e = elim (at_either xs m i a e) [ inl h ↦ inl h | inr h ↦ inr (h.0, (let p = h.1 in omega arith), h.2) ]

  pub at_after : (l m : List A) (k : ℕ) (a : A) → get_elem? m k ≡ some a → get_elem? (l ++ m) (length l + k) ≡ some a
  at_after [] m k a e = let n : 0 + k ≡ k = omega arith in ap (get_elem? m) n ∙ e
  at_after (x ∷ xs) m k a e = let n : suc (length xs) + k ≡ suc (length xs + k) = omega arith in ap (get_elem? (x ∷ (xs ++ m))) n
      ∙ at_after xs m k a e

  pub at_take : (n : ℕ) (l : List A) (i : ℕ) (a : A) → get_elem? (take n l) i ≡ some a → (i < n) × (get_elem? l i ≡ some a)
  at_take zero l i a e = absurd (some-ne-none a (sym e))
  at_take (suc n) [] i a e = absurd (some-ne-none a (sym e))
  at_take (suc n) (x ∷ xs) zero a e = (omega arith, e)
  at_take (suc n) (x ∷ xs) (suc i) a e = let h = at_take n xs i a e in let l = h.0 in (omega arith, h.1)

  pub at_drop : (n : ℕ) (l : List A) (i : ℕ) (a : A) → get_elem? (drop n l) i ≡ some a → get_elem? l (n + i) ≡ some a
  at_drop zero l i a e = let m : 0 + i ≡ i = omega arith in ap (get_elem? l) m ∙ e
  at_drop (suc n) [] i a e = absurd (some-ne-none a (sym e))
  at_drop (suc n) (x ∷ xs) i a e = let m : suc n + i ≡ suc (n + i) = omega arith in ap (get_elem? (x ∷ xs)) m ∙ at_drop n xs i a e

-- no word at all stands anywhere
pub no_row : (words : List ℕ) → Stands words 0 []
no_row words k l = absurd (omega arith)
