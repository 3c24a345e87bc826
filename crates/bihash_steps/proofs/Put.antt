-- A function that has another value at one place.
use Rattle.std.proofs.Common.{◌≡◌, ◌≢◌, ℕ, refl}
use native.Mathlib.Decide.{ℕ_discrete}

module _ {A : Type 0} where
  abbrev pick : {P : Type 0} → Dec P → A → A → A
  pick (yes _) a b = a
  pick (no _) a b = b

  pub put : (ℕ → A) → ℕ → A → ℕ → A
  put f i a j = pick (ℕ_discrete j i) a (f j)

  pub put_here : (f : ℕ → A) (i : ℕ) (a : A) → put f i a i ≡ a
  unfolding put
  put_here f i a = go (ℕ_discrete i i)
    where
      go : (d : Dec (i ≡ i)) → pick d a (f i) ≡ a
      go (yes _) = refl
      go (no ne) = absurd (ne refl)

  pub put_else : (f : ℕ → A) (i j : ℕ) (a : A) → j ≢ i → put f i a j ≡ f j
  unfolding put
  put_else f i j a ne = go (ℕ_discrete j i)
    where
      go : (d : Dec (j ≡ i)) → pick d a (f j) ≡ f j
      go (yes e) = absurd (ne e)
      go (no _) = refl
