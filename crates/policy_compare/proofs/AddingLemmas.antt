-- What is added to a list, one after the other.
use Rattle.std.proofs.Common.{◌≡◌, ◌⊎◌, List, [], ◌∷◌, ◌++◌, Option, Some, None, IfSome, map, refl, sym, subst, ap, ◌∙◌, inl, inr, arith}
use Rattle.std.specs.Prelude.{Contains, option_to_list}
use Rattle.std.proofs.lemmas.List.{append-nil, append_assoc, map-append}
use Rattle.std.proofs.lemmas.List.Elements.{All-append, All-cons, All-nil, All-weaker, Contains-append_left, Contains-append_right}
use Rattle.policy_compare.specs.inner.Found.{Adds}

pub adds_none : {A K : Type 0} (key : A → K) (P : A → Type 0) (W : K → Type 0) (all : List A) → ((k : K) → W k → ⊥) → Adds key P W all all
adds_none key P W all none = record {
  more = [];
  is = sym (append-nil all);
  each = All-nil P;
  every = λ k wanted. absurd (none k wanted);
}

-- Both steps add what is wanted.
pub adds_both : {A K : Type 0} (key : A → K) (P : A → Type 0) (V W U : K → Type 0) (old mid new : List A) → Adds key P V old mid → Adds key P W mid new
    → ((k : K) → U k → V k ⊎ W k) → Adds key P U old new
adds_both key P V W U old mid new one two parts = record {
  more = one.more ++ two.more;
  is = two.is ∙ ap (λ (xs : List _). xs ++ two.more) one.is ∙ append_assoc old one.more two.more;
  each = All-append P one.more two.more one.each two.each;
  every = λ k wanted. subst (λ (ks : List _). Contains ks k) (sym (map-append key one.more two.more))
      (elim (parts k wanted) [
        | inl first ↦ Contains-append_left (map key one.more) (map key two.more) k (one.every k first)
        | inr second ↦ Contains-append_right (map key one.more) (map key two.more) k (two.every k second)
      ]);
}

-- What may be found is wanted, and it is added where it is there.
pub adds_found : {A K : Type 0} (key : A → K) (P : A → Type 0) (W : K → Type 0) (old new : List A) (found : Option A) → new ≡ old ++ option_to_list found
    → IfSome found P → ((k : K) → W k → IfSome found (λ a. key a ≡ k)) → (found ≡ None → (k : K) → W k → ⊥) → Adds key P W old new
adds_found key P W old new None is right same none = record {
  more = [];
  is = is;
  each = All-nil P;
  every = λ k wanted. absurd (none refl k wanted);
}
adds_found key P W old new (Some a) is right same none = record {
  more = a ∷ [];
  is = is;
  each = All-cons P a [] right (All-nil P);
  every = λ k wanted. (0, omega arith, same k wanted);
}

-- More may be right, and less be wanted.
pub adds_other : {A K : Type 0} (key : A → K) (P Q : A → Type 0) (V W : K → Type 0) (old new : List A) → ((a : A) → P a → Q a) → ((k : K) → W k → V k)
    → Adds key P V old new → Adds key Q W old new
adds_other key P Q V W old new right wanted adds = record {
  more = adds.more;
  is = adds.is;
  each = All-weaker P Q right adds.more adds.each;
  every = λ k is. adds.every k (wanted k is);
}
