-- Lists of pairs in the order of their keys: those with the same pairs are the same.
use Rattle.std.proofs.Common.{◌≡◌, ◌∙◌, ℕ, suc, zero, Bool, true, false, List, [], ◌∷◌, ap, ap₂, arith, filter, inl, inr, refl, subst, sym, true≢false}
use Rattle.std.specs.Prelude.{◌⊎◌, Contains, if◌then◌else◌}
use Rattle.std.specs.Cmp.Lexicographic.{nat_list_cmp_total, slice_cmp}
use Rattle.std.specs.List.{AllByRecursion}
use Rattle.std.specs.List.Sorted.{IsStrictlySortedBy}
use Rattle.std.specs.Ordering.{nat_cmp, ordering_reverse}
use Rattle.std.specs.declared.cmp.Ordering.{Ordering}
use Rattle.std.specs.declared.cmp.Ordering.TheVariants.{Equal, Greater, Less}
use Rattle.flow_workers.specs.Stored.{keys_in}

abbrev Pair : Type 0
Pair = List ℕ × ℕ

abbrev IsBelow : List ℕ → List ℕ → Type 0
IsBelow one other = slice_cmp nat_cmp one other ≡ Less

abbrev pub AreSorted : List Pair → Type 0
AreSorted pairs = IsStrictlySortedBy (slice_cmp nat_cmp) (keys_in pairs)

-- ---- elements

at_head : (p : Pair) (pairs : List Pair) → Contains (p ∷ pairs) p
at_head p pairs = (zero, omega arith, refl)

behind_head : (q p : Pair) (pairs : List Pair) → Contains pairs p → Contains (q ∷ pairs) p
behind_head q p pairs (k, inside, at) = (suc k, omega arith, at)

head_or_behind : (q p : Pair) (pairs : List Pair) → Contains (q ∷ pairs) p → (q ≡ p) ⊎ Contains pairs p
head_or_behind q p pairs (zero, inside, at) = inl at
head_or_behind q p pairs (suc k, inside, at) = inr (k, omega arith, at)

none_inside : (p : Pair) → Contains [] p → ⊥
none_inside p (k, inside, at) = omega arith

-- ---- order

is_less : Ordering → Bool
is_less Less = true
is_less Equal = false
is_less Greater = false

less_or_greater : (o : Ordering) → o ≡ Less → ordering_reverse o ≡ Less → ⊥
less_or_greater Less is back = let f = ap is_less back in cc
less_or_greater Equal is back = let f = ap is_less is in cc
less_or_greater Greater is back = let f = ap is_less is in cc

not_both : (one other : List ℕ) → IsBelow one other → IsBelow other one → ⊥
not_both one other below above =
    less_or_greater (slice_cmp nat_cmp one other) below (sym (nat_list_cmp_total.antisymm other one) ∙ above)

-- ---- a list and its first pair

below_all : (key : List ℕ) (pairs : List Pair) (p : Pair) → AllByRecursion (λ other. IsBelow key other) (keys_in pairs) → Contains pairs p → IsBelow key p.0
below_all key [] p all inside = absurd (none_inside p inside)
below_all key (q ∷ pairs) p all inside =
    elim (head_or_behind q p pairs inside) [ inl same ↦ subst (λ (r : Pair). IsBelow key r.0) same all.0 | inr later ↦ below_all key pairs p all.1 later ]

-- where the first pair is the same, the others are, too
tail_within : (x y p : Pair) (xs ys : List Pair) → x ≡ y → AllByRecursion (λ other. IsBelow x.0 other) (keys_in xs) → Contains (y ∷ ys) p → Contains xs p → Contains ys p
tail_within x y p xs ys same above all inside =
    elim (head_or_behind y p ys all) [
      | inl first ↦
          let low = below_all x.0 xs p above inside in
          let here : IsBelow x.0 x.0 = subst (λ (r : Pair). IsBelow x.0 r.0) (sym (same ∙ first)) low in absurd (not_both x.0 x.0 here here)
      | inr later ↦ later
    ]

-- the first pairs are the same where each is in the other list
heads_are : (x y : Pair) (xs ys : List Pair) → AllByRecursion (λ other. IsBelow x.0 other) (keys_in xs) → AllByRecursion (λ other. IsBelow y.0 other) (keys_in ys)
    → (y ≡ x) ⊎ Contains ys x → (x ≡ y) ⊎ Contains xs y → x ≡ y
heads_are x y xs ys first second (inl same) other = sym same
heads_are x y xs ys first second (inr later) (inl same) = same
heads_are x y xs ys first second (inr later) (inr behind) = absurd (not_both x.0 y.0 (below_all x.0 xs y first behind) (below_all y.0 ys x second later))

pub same_pairs : (xs ys : List Pair) → AreSorted xs → AreSorted ys → ((p : Pair) → Contains xs p → Contains ys p) → ((p : Pair) → Contains ys p → Contains xs p) → xs ≡ ys
unfolding IsStrictlySortedBy
same_pairs [] [] first second to from = refl
same_pairs [] (y ∷ ys) first second to from = absurd (none_inside y (from y (at_head y ys)))
same_pairs (x ∷ xs) [] first second to from = absurd (none_inside x (to x (at_head x xs)))
same_pairs (x ∷ xs) (y ∷ ys) first second to from =
    let heads : x ≡ y = heads_are x y xs ys first.0 second.0 (head_or_behind y x ys (to x (at_head x xs))) (head_or_behind x y xs (from y (at_head y ys))) in
    ap₂ (λ p (pairs : List Pair). p ∷ pairs) heads
    (same_pairs xs ys first.1 second.1 (λ p inside. tail_within x y p xs ys heads first.0 (to p (behind_head x p xs inside)) inside)
    (λ p inside. tail_within y x p ys xs (sym heads) second.0 (from p (behind_head y p ys inside)) inside))

-- ---- pairs that pass a test

of_first : (test : Pair → Bool) (q p : Pair) (pairs rest : List Pair) (passes : Bool) → test q ≡ passes → (Contains rest p → Contains pairs p × (test p ≡ true))
    → Contains (if passes then q ∷ rest else rest) p → Contains (q ∷ pairs) p × (test p ≡ true)
of_first test q p pairs rest false is behind has = let later = behind has in (behind_head q p pairs later.0, later.1)
of_first test q p pairs rest true is behind has = go (head_or_behind q p rest has)
  where
    go : (q ≡ p) ⊎ Contains rest p → Contains (q ∷ pairs) p × (test p ≡ true)
    go (inl same) = (subst (Contains (q ∷ pairs)) same (at_head q pairs), ap test (sym same) ∙ is)
    go (inr more) = let later = behind more in (behind_head q p pairs later.0, later.1)

pub of_filter : (test : Pair → Bool) (pairs : List Pair) (p : Pair) → Contains (filter test pairs) p → Contains pairs p × (test p ≡ true)
of_filter test [] p inside = absurd (none_inside p inside)
of_filter test (q ∷ pairs) p inside = of_first test q p pairs (filter test pairs) (test q) refl (of_filter test pairs p) inside

in_first : (test : Pair → Bool) (q p : Pair) (pairs rest : List Pair) (passes : Bool) → test q ≡ passes → test p ≡ true → (Contains pairs p → Contains rest p)
    → (q ≡ p) ⊎ Contains pairs p → Contains (if passes then q ∷ rest else rest) p
in_first test q p pairs rest true is passing behind (inl same) = subst (Contains (q ∷ rest)) same (at_head q rest)
in_first test q p pairs rest true is passing behind (inr later) = behind_head q p rest (behind later)
in_first test q p pairs rest false is passing behind (inl same) = absurd (true≢false (sym passing ∙ ap test (sym same) ∙ is))
in_first test q p pairs rest false is passing behind (inr later) = behind later

pub in_filter : (test : Pair → Bool) (pairs : List Pair) (p : Pair) → Contains pairs p → test p ≡ true → Contains (filter test pairs) p
in_filter test [] p inside passing = absurd (none_inside p inside)
in_filter test (q ∷ pairs) p inside passing =
    in_first test q p pairs (filter test pairs) (test q) refl passing (λ later. in_filter test pairs p later passing) (head_or_behind q p pairs inside)

-- the keys of a list whose first pair may pass are above a key
below_first : (key : List ℕ) (q : Pair) (rest : List Pair) (passes : Bool) → IsBelow key q.0 → AllByRecursion (λ other. IsBelow key other) (keys_in rest)
    → AllByRecursion (λ other. IsBelow key other) (keys_in (if passes then q ∷ rest else rest))
below_first key q rest true first others = (first, others)
below_first key q rest false first others = others

below_filter : (test : Pair → Bool) (key : List ℕ) (pairs : List Pair) → AllByRecursion (λ other. IsBelow key other) (keys_in pairs)
    → AllByRecursion (λ other. IsBelow key other) (keys_in (filter test pairs))
below_filter test key [] all = tt
below_filter test key (q ∷ pairs) all = below_first key q (filter test pairs) (test q) all.0 (below_filter test key pairs all.1)

sorted_first : (q : Pair) (rest : List Pair) (passes : Bool) → AllByRecursion (λ other. IsBelow q.0 other) (keys_in rest) → AreSorted rest
    → AreSorted (if passes then q ∷ rest else rest)
unfolding IsStrictlySortedBy
sorted_first q rest true above sorted = (above, sorted)
sorted_first q rest false above sorted = sorted

pub sorted_filter : (test : Pair → Bool) (pairs : List Pair) → AreSorted pairs → AreSorted (filter test pairs)
unfolding IsStrictlySortedBy
sorted_filter test [] sorted = tt
sorted_filter test (q ∷ pairs) sorted = sorted_first q (filter test pairs) (test q) (below_filter test q.0 pairs sorted.0) (sorted_filter test pairs sorted.1)
