-- Lemmas on the pairs of a block as a list, and on counts of their keys.
use Rattle.std.proofs.Common.{◌≡◌, ◌≢◌, ◌<◌, ◌≤◌, ◌+◌, ℕ, Bool, true, false, cond, ◌&&◌, List, [], ◌∷◌, ◌++◌, length, get_or, take, drop, map, refl, sym, ap, ◌∙◌, arith, zero-add}
use Rattle.std.specs.Prelude.{count_by, filter}
use Rattle.std.proofs.lemmas.Bool.{eq-eqb, ne_eqb, not_from_false, not_from_true}
use Rattle.std.proofs.lemmas.List.{append-nil, map-append, take-append-drop}
use Rattle.std.proofs.lemmas.List.Elements.{filter-append, filter_more}
use Rattle.std.proofs.lemmas.List.Sums.{sum_by-append, sum_by-cons}
use Rattle.bihash_words.specs.Patches.{free_mark}
use Rattle.bihash_plan.specs.Blocks.{is_taken, pairs}
use Rattle.bihash_plan.specs.Plans.{keys_of}

pub is_taken-pair : {K : Type 0} (place : K × ℕ) → place.1 ≢ free_mark → is_taken place ≡ true
is_taken-pair place taken = not_from_false _ (ne_eqb _ _ taken)

pub is_taken-free : {K : Type 0} (place : K × ℕ) → place.1 ≡ free_mark → is_taken place ≡ false
is_taken-free place is = not_from_true _ (eq-eqb _ _ is)

pub pairs-append : {K : Type 0} (xs ys : List (K × ℕ)) → pairs (xs ++ ys) ≡ pairs xs ++ pairs ys
pairs-append xs ys = filter-append is_taken xs ys

pub keys_of-append : {K : Type 0} (xs ys : List (K × ℕ)) → keys_of (xs ++ ys) ≡ keys_of xs ++ keys_of ys
keys_of-append xs ys = ap (map (λ pair. pair.0)) (pairs-append xs ys)
    ∙ map-append (λ pair. pair.0) (pairs xs) (pairs ys)

-- one more place that has a pair
pub pairs_more : {K : Type 0} (places : List (K × ℕ)) (i : ℕ) (place : K × ℕ)
    → i < length places → place ≡ get_or places i place → place.1 ≢ free_mark
    → pairs (take (i + 1) places) ≡ pairs (take i places) ++ place ∷ []
pairs_more places i place inside is taken =
    filter_more is_taken places i place inside
    ∙ ap (λ x. pairs (take i places) ++ cond (is_taken x) (x ∷ []) []) (sym is)
    ∙ ap (λ t. pairs (take i places) ++ cond t (place ∷ []) []) (is_taken-pair place taken)

-- one more place that is free
pub pairs_same : {K : Type 0} (places : List (K × ℕ)) (i : ℕ) (place : K × ℕ)
    → i < length places → place ≡ get_or places i place → place.1 ≡ free_mark
    → pairs (take (i + 1) places) ≡ pairs (take i places)
pairs_same places i place inside is vacant =
    filter_more is_taken places i place inside
    ∙ ap (λ x. pairs (take i places) ++ cond (is_taken x) (x ∷ []) []) (sym is)
    ∙ ap (λ t. pairs (take i places) ++ cond t (place ∷ []) []) (is_taken-free place vacant)
    ∙ append-nil (pairs (take i places))

pub keys_more : {K : Type 0} (places : List (K × ℕ)) (i : ℕ) (place : K × ℕ)
    → i < length places → place ≡ get_or places i place → place.1 ≢ free_mark
    → keys_of (take (i + 1) places) ≡ keys_of (take i places) ++ place.0 ∷ []
keys_more places i place inside is taken =
    ap (map (λ pair. pair.0)) (pairs_more places i place inside is taken)
    ∙ map-append (λ pair. pair.0) (pairs (take i places)) (place ∷ [])

-- the keys so far are no more than all
pub count_by-keys_of-take : {K : Type 0} (test : K → Bool) (places : List (K × ℕ)) (i : ℕ)
    → count_by test (keys_of (take i places)) ≤ count_by test (keys_of places)
count_by-keys_of-take test places i =
    let whole : keys_of places ≡ keys_of (take i places) ++ keys_of (drop i places) =
    ap keys_of (sym (take-append-drop i places)) ∙ keys_of-append (take i places) (drop i places) in
    omega (
      arith,
      ap (count_by test) whole,
      sum_by-append (λ key. cond (test key) 1 0) (keys_of (take i places)) (keys_of (drop i places)),
    )

-- a test that nothing passes counts nothing
pub count_by-none : {X : Type 0} (test : X → Bool)
    → ((x : X) → test x ≡ false) → (xs : List X) → count_by test xs ≡ 0
count_by-none test fails [] = refl
count_by-none test fails (x ∷ xs) =
    sum_by-cons (λ y. cond (test y) 1 0) x xs ∙ ap (λ t. cond t 1 0 + count_by test xs) (fails x)
    ∙ omega (arith, count_by-none test fails xs)

-- what passes both of two tests, counted at once or after a filter
pub count_by-filter : {X : Type 0} (keep test : X → Bool) (xs : List X)
    → count_by test (filter keep xs) ≡ count_by (λ x. keep x && test x) xs
count_by-filter keep test [] = refl
count_by-filter keep test (x ∷ xs) =
    by_kept (keep x) (count_by-filter keep test xs) ∙ sym (sum_by-cons (λ y. cond (keep y && test y) 1 0) x xs)
  where
    by_kept : (kept : Bool)
        → count_by test (filter keep xs) ≡ count_by (λ y. keep y && test y) xs
        → count_by test (cond kept (x ∷ filter keep xs) (filter keep xs))
        ≡ cond (kept && test x) 1 0 + count_by (λ y. keep y && test y) xs
    by_kept true more = sum_by-cons (λ y. cond (test y) 1 0) x (filter keep xs)
        ∙ ap (λ n. cond (test x) 1 0 + n) more
    by_kept false more = more ∙ sym (zero-add _)

pub count_by-map : {X Y : Type 0} (f : X → Y) (test : Y → Bool) (xs : List X)
    → count_by test (map f xs) ≡ count_by (λ x. test (f x)) xs
count_by-map f test [] = refl
count_by-map f test (x ∷ xs) =
    sum_by-cons (λ y. cond (test y) 1 0) (f x) (map f xs)
    ∙ ap (λ n. cond (test (f x)) 1 0 + n) (count_by-map f test xs)
    ∙ sym (sum_by-cons (λ y. cond (test (f y)) 1 0) x xs)

-- the keys that pass a test, counted over the places
pub count_by-keys_of : {K : Type 0} (test : K → Bool) (places : List (K × ℕ))
    → count_by test (keys_of places) ≡ count_by (λ place. is_taken place && test place.0) places
count_by-keys_of test places = count_by-map (λ pair. pair.0) test (pairs places)
    ∙ count_by-filter is_taken (λ place. test place.0) places
