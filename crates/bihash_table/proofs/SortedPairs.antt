-- Pairs whose keys differ ascend strictly where they were sorted.
use Rattle.std.proofs.Common.{◌≡◌, ℕ, suc, ◌+◌, ◌<◌, Bool, true, false, true≢false, List, [], ◌∷◌, map, length, get_or, arith, refl, sym, ap, subst}
use lib.ListN.{length-map}
use Rattle.std.proofs.lemmas.List.{get_or-map}
use Rattle.std.proofs.lemmas.List.Elements.{All-from_recursion, recursion_from_All}
use Rattle.std.proofs.lemmas.List.Sorted.{ranks_by, sorted_far}
use Rattle.std.proofs.lemmas.Map.Keys.{IsDistinct-head, IsDistinct-tail}
use Rattle.std.specs.Cmp.{IsTotalOrder}
use Rattle.std.specs.List.{AllByRecursion, IsDistinct}
use Rattle.std.specs.List.Sorted.{IsSortedBy, IsStrictlySortedBy}
use Rattle.std.specs.Ordering.{eq_by_cmp, is_eq, is_lt, ordering_reverse}
use Rattle.std.specs.declared.cmp.Ordering.{Ordering}
use Rattle.std.specs.declared.cmp.Ordering.TheVariants.{Less, Equal, Greater}

module _ {X K : Type 0} {R : K → K → Ordering} (o : IsTotalOrder R) (key : X → K) where
  -- neither greater nor the same
  less_by : (r s : Ordering) → r ≡ ordering_reverse s → is_lt s ≡ false → is_eq r ≡ false → r ≡ Less
  less_by Less s turned up other = refl
  less_by Equal s turned up other = absurd (true≢false other)
  less_by Greater Less turned up other = absurd (true≢false up)
  less_by Greater Equal turned up other = absurd (true≢false (ap is_gt_or turned))
    where
      is_gt_or : Ordering → Bool
      is_gt_or Less = false
      is_gt_or Equal = false
      is_gt_or Greater = true
  less_by Greater Greater turned up other = sym (sym turned)

  below_all : (x : X) (xs : List X) → IsSortedBy (λ p q. is_lt (R (key p) (key q))) (x ∷ xs)
      → AllByRecursion (λ y. eq_by_cmp R (key x) y ≡ false) (map key xs) → AllByRecursion (λ y. R (key x) y ≡ Less) (map key xs)
  below_all x xs up other = recursion_from_All (λ y. R (key x) y ≡ Less) (map key xs) (λ k d within.
      let long = length-map xs key in let inside : k < length xs = omega arith in let y = key (get_or xs k x) in
      let same : get_or (map key xs) k d ≡ y = get_or-map key xs k x d inside in
      let high : is_lt (R y (key x)) ≡ false = sorted_far (λ p q. is_lt (R (key p) (key q))) (ranks_by o key) (x ∷ xs) up 0 (suc k) x
      (omega arith) (omega arith) in
      let apart = All-from_recursion (λ (y : K). eq_by_cmp R (key x) y ≡ false) (map key xs) other k d within in
      subst (λ (y : K). R (key x) y ≡ Less) (sym same)
      (less_by (R (key x) y) (R y (key x)) (o.antisymm (key x) y) high (subst (λ (y : K). eq_by_cmp R (key x) y ≡ false) same apart)))

  pub sorted_strictly : (xs : List X) → IsSortedBy (λ p q. is_lt (R (key p) (key q))) xs
      → IsDistinct (eq_by_cmp R) (map key xs) → IsStrictlySortedBy R (map key xs)
  unfolding IsStrictlySortedBy
  sorted_strictly [] up once = tt
  sorted_strictly (x ∷ xs) up once = (
    below_all x xs up (IsDistinct-head (eq_by_cmp R) (key x) (map key xs) once),
    sorted_strictly xs (λ k d low within. let e : suc k + 1 ≡ suc (k + 1) = omega arith in
        subst (λ (n : ℕ). is_lt (R (key (get_or (x ∷ xs) n d)) (key (get_or xs k d))) ≡ false) e (up (suc k) d (omega arith) (omega arith)))
        (IsDistinct-tail (eq_by_cmp R) (key x) (map key xs) once),
  )
