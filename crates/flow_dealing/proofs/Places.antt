-- Where the elements of lists stand.
use Rattle.std.proofs.Common.{◌≡◌, ◌∙◌, ℕ, zero, suc, Bool, true, false, cond, List, [], ◌∷◌, ◌++◌, length, map, Some, ap, refl, sym, subst}
use Rattle.std.specs.Prelude.{slice_get}
use Rattle.std.specs.List.{All, AllZip, filter}
use Rattle.std.proofs.lemmas.List.Elements.{All-cons, All-head, All-nil, All-tail}
use lib.ListN.{get_elem?}
use mathlib.Core.Option.{some, some-ne-none, some-injective}

module _ {X : Type 0} where
  pub all_at : (P : X → Type 0) (xs : List X) (k : ℕ) (x : X) → All P xs → get_elem? xs k ≡ some x → P x
  all_at P [] k x all at = absurd (some-ne-none x (sym at))
  all_at P (y ∷ ys) zero x all at = subst P (some-injective y x at) (All-head P y ys all)
  all_at P (y ∷ ys) (suc k) x all at = all_at P ys k x (All-tail P y ys all) at

  pub all_of : (P : X → Type 0) (xs : List X) (k : ℕ) (x : X) → All P xs → slice_get xs k ≡ Some x → P x
  all_of P [] k x all at = let f : ⊥ = cc in absurd f
  all_of P (y ∷ ys) zero x all at = let same : y ≡ x = cc in subst P same (All-head P y ys all)
  all_of P (y ∷ ys) (suc k) x all at = all_of P ys k x (All-tail P y ys all) at

  pub all_from : (P : X → Type 0) (xs : List X) → ((k : ℕ) (x : X) → get_elem? xs k ≡ some x → P x) → All P xs
  all_from P [] each = All-nil P
  all_from P (x ∷ xs) each = All-cons P x xs (each 0 x refl) (all_from P xs (λ k y at. each (suc k) y at))

  pub zip_count : {Y : Type 0} (R : X → Y → Type 0) (xs : List X) (ys : List Y) → AllZip R xs ys → length xs ≡ length ys
  zip_count R [] [] all = refl
  zip_count R [] (y ∷ ys) all = absurd all
  zip_count R (x ∷ xs) [] all = absurd all
  zip_count R (x ∷ xs) (y ∷ ys) all = ap suc (zip_count R xs ys all.1)

  -- the element that is there before a map
  pub before_map : {Y : Type 0} (f : X → Y) (xs : List X) (k : ℕ) (y : Y) → get_elem? (map f xs) k ≡ some y
      → (x : X) × (get_elem? xs k ≡ some x) × (f x ≡ y)
  before_map f [] k y at = absurd (some-ne-none y (sym at))
  before_map f (x ∷ xs) zero y at = (x, refl, some-injective (f x) y at)
  before_map f (x ∷ xs) (suc k) y at = before_map f xs k y at

  pub after_map : {Y : Type 0} (f : X → Y) (xs : List X) (k : ℕ) (x : X) → get_elem? xs k ≡ some x
      → get_elem? (map f xs) k ≡ some (f x)
  after_map f [] k x at = absurd (some-ne-none x (sym at))
  after_map f (y ∷ ys) zero x at = ap (λ z. some (f z)) (some-injective y x at)
  after_map f (y ∷ ys) (suc k) x at = after_map f ys k x at

  pub at_front : (xs ys : List X) (k : ℕ) (x : X) → get_elem? xs k ≡ some x → get_elem? (xs ++ ys) k ≡ some x
  at_front [] ys k x at = absurd (some-ne-none x (sym at))
  at_front (z ∷ zs) ys zero x at = at
  at_front (z ∷ zs) ys (suc k) x at = at_front zs ys k x at

  -- an element that passes a test stands among those that do
  pub kept_there : (test : X → Bool) (xs : List X) (k : ℕ) (x : X) → get_elem? xs k ≡ some x → test x ≡ true
      → (j : ℕ) × (get_elem? (filter test xs) j ≡ some x)
  kept_there test [] k x at passes = absurd (some-ne-none x (sym at))
  kept_there test (y ∷ ys) zero x at passes =
      let same : y ≡ x = some-injective y x at in
      let here : test y ≡ true = ap test same ∙ passes in
      (0, ap (λ (b : Bool). get_elem? (cond b (y ∷ filter test ys) (filter test ys)) 0) here ∙ ap some same)
  kept_there test (y ∷ ys) (suc k) x at passes = go (test y) (kept_there test ys k x at passes)
    where
      go : (b : Bool) → (j : ℕ) × (get_elem? (filter test ys) j ≡ some x)
          → (j : ℕ) × (get_elem? (cond b (y ∷ filter test ys) (filter test ys)) j ≡ some x)
      go true j = (suc j.0, j.1)
      go false j = j
