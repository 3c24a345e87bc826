-- What a step that may fail gave, and tests in a row.
use Rattle.std.proofs.Common.{◌≡◌, ℕ, ◌≤◌, Bool, true, false, cond, List, [], ◌∷◌, Option, Some, None, refl, ap, ◌⊎◌, inl, inr}
use Rattle.std.specs.Prelude.{nat_le, option_map}
use Rattle.std.specs.Str.{bytes_eq}
use Rattle.std.proofs.lemmas.Bool.{false_from_ne_true, le-leb, leb-true}
use Rattle.std.proofs.lemmas.Slice.Eq.{bytes_eq-Decides}
use Rattle.acl_policy.specs.inner.WordReading.{at_most, if_last, next_in, ◌>>=◌}

pub bind_some : {A B : Type 0} (o : Option A) (f : A → Option B) (y : B) → (o >>= f) ≡ Some y → (x : A) × (o ≡ Some x) × (f x ≡ Some y)
bind_some None f y h = absurd (cc)
bind_some (Some x) f y h = (x, refl, h)

pub same_some : {A : Type 0} (x y : A) → Some x ≡ Some y → x ≡ y
same_some x y h = cc

pub map_some : {A B : Type 0} (f : A → B) (o : Option A) (y : B) → option_map f o ≡ Some y → (x : A) × (o ≡ Some x) × (y ≡ f x)
map_some f None y h = absurd (cc)
map_some f (Some x) y h = (x, refl, cc)

pub chosen : {A : Type 0} (b : Bool) (x y z : A) → cond b x y ≡ z → ((b ≡ true) × (x ≡ z)) ⊎ ((b ≡ false) × (y ≡ z))
chosen true x y z h = inl (refl, h)
chosen false x y z h = inr (refl, h)

pub guarded : {A : Type 0} (b : Bool) (x y : A) → cond b (Some x) None ≡ Some y → (b ≡ true) × (x ≡ y)
guarded true x y h = (refl, cc)
guarded false x y h = absurd (cc)

pub at_most-some : (most n m : ℕ) → at_most most n ≡ Some m → (n ≡ m) × (n ≤ most)
at_most-some most n m h = let found = guarded (nat_le n most) n m h in (found.1, leb-true n most found.0)

pub at_most-le : (most n : ℕ) → n ≤ most → at_most most n ≡ Some n
at_most-le most n few = rw (le-leb n most few) refl

pub next_in-some : (words : List (List ℕ)) (word : List ℕ) (rest : List (List ℕ)) → next_in words ≡ Some (word, rest) → words ≡ word ∷ rest
next_in-some [] word rest h = absurd (cc)
next_in-some (w ∷ ws) word rest h = ap (λ (next : List ℕ × List (List ℕ)). next.0 ∷ next.1) (same_some (w, ws) (word, rest) h)

pub if_last-some : {A : Type 0} (value other : A) (words : List (List ℕ)) → if_last value words ≡ Some other → (words ≡ []) × (value ≡ other)
if_last-some value other [] h = (refl, cc)
if_last-some value other (w ∷ ws) h = absurd (cc)

pub bytes_eq-true : (a b : List ℕ) → bytes_eq a b ≡ true → a ≡ b
bytes_eq-true a b h = (bytes_eq-Decides a b).0 h

pub bytes_eq-same : (a b : List ℕ) → a ≡ b → bytes_eq a b ≡ true
bytes_eq-same a b h = (bytes_eq-Decides a b).1 h

pub bytes_eq-false : (a b : List ℕ) → (a ≡ b → ⊥) → bytes_eq a b ≡ false
bytes_eq-false a b h = false_from_ne_true (bytes_eq a b) (λ same. h (bytes_eq-true a b same))
