-- The first place of a list that passes a test, by cases on the list.
use Rattle.std.proofs.Common.{◌≡◌, ℕ, suc, Bool, true, false, cond, not, ltb, List, ◌∷◌, length, Some, None, refl, ap, ◌∙◌, arith, inl, inr}
use Rattle.std.specs.Prelude.{option_map, position, unwrap_or}
use Rattle.std.specs.List.{position_or_len}
use Rattle.std.proofs.lemmas.Bool.{cases_lt, lt-ltb, le-ltb}
use Rattle.std.proofs.lemmas.List.Sums.{prefix_len-le-length}

pub position-here : {X : Type 0} (p : X → Bool) (x : X) (xs : List X) → p x ≡ true → position p (x ∷ xs) ≡ Some 0
position-here p x xs h = rw (h, lt-ltb 0 (suc (length xs)) (omega arith)) refl

stepped : {X : Type 0} (p : X → Bool) (x : X) (xs : List X) → p x ≡ false → position_or_len p (x ∷ xs) ≡ suc (position_or_len p xs)
stepped p x xs h = rw h (omega arith)

pub position-past : {X : Type 0} (p : X → Bool) (x : X) (xs : List X) → p x ≡ false → position p (x ∷ xs) ≡ option_map suc (position p xs)
position-past p x xs h =
    let n = position_or_len p xs in
    let step : position_or_len p (x ∷ xs) ≡ suc n = stepped p x xs h in
    let to_cond : position p (x ∷ xs) ≡ cond (ltb (suc n) (suc (length xs))) (Some (suc n)) None =
    ap (λ (k : ℕ). cond (ltb k (suc (length xs))) (Some k) None) step in
    elim (cases_lt n (length xs)) [
      | inl below ↦ to_cond ∙ rw (lt-ltb (suc n) (suc (length xs)) (omega arith), lt-ltb n (length xs) below) refl
      | inr above ↦ to_cond ∙ rw (le-ltb (suc n) (suc (length xs)) (omega arith), le-ltb n (length xs) above) refl
    ]

-- the first place, and the length where there is none
pub unwrap_or-position : {X : Type 0} (p : X → Bool) (xs : List X) → unwrap_or (position p xs) (length xs) ≡ position_or_len p xs
unwrap_or-position p xs =
    let n = position_or_len p xs in
    elim (cases_lt n (length xs)) [
      | inl below ↦ rw (lt-ltb n (length xs) below) refl
      | inr above ↦ rw (le-ltb n (length xs) above) (omega (arith, prefix_len-le-length (λ x. not (p x)) xs))
    ]
