-- The expired pair with the least key, with one place more.
use Rattle.std.proofs.Common.{◌≡◌, ◌≢◌, ◌∙◌, ◌<◌, ◌≤◌, ◌+◌, ◌^◌, ◌∷◌, [], ℕ, Bool, true, true≢false, ap, arith, sym, subst, refl, inl, inr, List, length, Option, Some, None}
use Rattle.std.specs.Prelude.{IfNone, IfSome, slice_get, slice_index}
use Rattle.std.proofs.lemmas.Bool.{cases_eq}
use Rattle.std.specs.Cmp.{alike_right, nat_cmp_is}
use Rattle.std.specs.Cmp.Lexicographic.{nat_list_cmp_total, slice_cmp}
use Rattle.std.specs.Ordering.{nat_cmp, ordering_reverse, ordering_then}
use Rattle.std.specs.declared.cmp.Ordering.TheVariants.{Less, Equal, Greater}
use Rattle.bihash_plan.specs.Blocks.{HasPairAt}
use Rattle.bihash_plan.specs.inner.LeastPairs.{IsBound, IsLeastAmong, IsLeastTo}
use Rattle.bihash_plan.specs.declared.least_expired_pair.Least.{Least}

-- a key below one that is not above another is not above that other
still_least : (a b c : List ℕ) → slice_cmp nat_cmp b a ≡ Greater → slice_cmp nat_cmp b c ≢ Greater → slice_cmp nat_cmp a c ≢ Greater
still_least a b c above not =
    let below : slice_cmp nat_cmp a b ≡ Less = nat_list_cmp_total.antisymm a b ∙ ap ordering_reverse above in
    elim (slice_cmp nat_cmp b c) as (λ r. slice_cmp nat_cmp b c ≡ r → slice_cmp nat_cmp a c ≢ Greater) [
      | Less ↦ λ is more. let less = sym (nat_list_cmp_total.trans a b c below is) ∙ more in let e : ⊥ = cc in e
      | Equal ↦ λ is more. let less = sym (sym (alike_right nat_list_cmp_total b c a is) ∙ below) ∙ more in let e : ⊥ = cc in e
      | Greater ↦ λ is. absurd (not is)
    ] refl

-- lists of words are in the order of their first words, where these differ
first_less : (a b : List ℕ) → 1 ≤ length a → 1 ≤ length b → slice_index a 0 < slice_index b 0 → slice_cmp nat_cmp a b ≢ Greater
first_less [] b some other less = absurd (omega arith)
first_less (x ∷ xs) [] some other less = absurd (omega arith)
first_less (x ∷ xs) (y ∷ ys) some other less = λ more.
    let below = ap (λ o. ordering_then o (slice_cmp nat_cmp xs ys)) (nat_cmp_is x y Less less) in
    let e : ⊥ = cc in e

module _ {K : Type 0} (words_of : K → List ℕ) (is_expired : ℕ → Bool) (places : List (K × ℕ)) where
  -- a place shows one key
  same_key : (key other : K) (value v i : ℕ) → slice_get places i ≡ Some (key, value) → HasPairAt places other v i → key ≡ other
  same_key key other value v i at b =
      let both : Some (key, value) ≡ Some (other, v) = sym at ∙ b.at in
      let pair : (key, value) ≡ (other, v) = cc in
      ap (λ (p : K × ℕ). p.0) pair

  module _ (i : ℕ) (key : K) (value : ℕ) (pair : HasPairAt places key value i) (word : value < 2 ^ 64)
      (expired : is_expired value ≡ true) where
    itself : (other : K) (v : ℕ) → HasPairAt places other v i → slice_cmp nat_cmp (words_of key) (words_of other) ≢ Greater
    itself other v h more =
        let same = same_key key other value v i pair.at h in
        let tied = tied_itself' in tied same more
      where
        tied_itself' : key ≡ other → slice_cmp nat_cmp (words_of key) (words_of other) ≡ Greater → ⊥
        tied_itself' same more =
            let turned = nat_list_cmp_total.antisymm (words_of key) (words_of key) in
            let here : slice_cmp nat_cmp (words_of key) (words_of key) ≡ Greater =
            ap (λ (k : K). slice_cmp nat_cmp (words_of key) (words_of k)) same ∙ more in
            let e : Greater ≡ Less = sym here ∙ turned ∙ ap ordering_reverse here in
            let c : ⊥ = cc in c

    least_with : ((other : K) (v j : ℕ) → j < i → HasPairAt places other v j → is_expired v ≡ true
        → slice_cmp nat_cmp (words_of key) (words_of other) ≢ Greater)
        → IsLeastAmong words_of is_expired places (i + 1) (Some i)
    least_with before = record {
      found = record {
        key = key;
        value = value;
        pair = pair;
        word = word;
        expired = expired;
        least = λ other v j l h counts. elim (cases_eq j i) [
          | inl here ↦ itself other v (subst (HasPairAt places other v) here h)
          | inr differ ↦ before other v j (omega arith) h counts
        ];
      };
      none = tt;
    }

    -- the first expired pair
    pub first_least : IsLeastAmong words_of is_expired places i None → IsLeastAmong words_of is_expired places (i + 1) (Some i)
    first_least h = least_with (λ other v j l p counts. absurd (true≢false (sym counts ∙ h.none other v j l p)))

    -- an expired pair with a lesser key
    pub lesser_least : (k : ℕ) (h : IsLeastTo words_of is_expired places i k)
        → slice_cmp nat_cmp (words_of h.key) (words_of key) ≡ Greater → IsLeastAmong words_of is_expired places (i + 1) (Some i)
    lesser_least k h above = least_with (λ other v j l p counts.
        still_least (words_of key) (words_of h.key) (words_of other) above (h.least other v j l p counts))

  -- the place shows a key that isn't less
  pub same_least : (i : ℕ) (key : K) (value : ℕ) → slice_get places i ≡ Some (key, value) → (k : ℕ) (h : IsLeastTo words_of is_expired places i k)
      → slice_cmp nat_cmp (words_of h.key) (words_of key) ≢ Greater → IsLeastAmong words_of is_expired places (i + 1) (Some k)
  same_least i key value at k h not = record {
    found = record {
      key = h.key;
      value = h.value;
      pair = h.pair;
      word = h.word;
      expired = h.expired;
      least = λ other v j l p counts. elim (cases_eq j i) [
        | inl here ↦ subst (λ (x : K). slice_cmp nat_cmp (words_of h.key) (words_of x) ≢ Greater)
            (same_key key other value v i at (subst (HasPairAt places other v) here p)) not
        | inr differ ↦ h.least other v j (omega arith) p counts
      ];
    };
    none = tt;
  }

  -- ---- The bound

  -- a key that begins with a word above the bound isn't less
  pub above_least : (i : ℕ) (key : K) (value : ℕ) (least : Least) → slice_get places i ≡ Some (key, value)
      → 1 ≤ length (words_of key) → slice_index (words_of key) 0 < 2 ^ 64 → least.bound < slice_index (words_of key) 0
      → IsBound words_of places least → IsLeastAmong words_of is_expired places i least.place → IsLeastAmong words_of is_expired places (i + 1) least.place
  above_least i key value least at some fits above bound h = above_at least.place refl
    where
      above_at : (r : Option ℕ) → r ≡ least.place → IsLeastAmong words_of is_expired places (i + 1) least.place
      above_at None none =
          let most : least.bound ≡ 18446744073709551615 = subst (λ r. IfNone r (least.bound ≡ 18446744073709551615)) (sym none) bound.none in
          absurd (omega arith)
      above_at (Some k) there =
          let found = subst (λ r. IsLeastAmong words_of is_expired places i r) (sym there) h in
          let its = subst (λ r. IfSome r (λ i. (key : K) (value : ℕ) → HasPairAt places key value i
          → (least.bound ≡ slice_index (words_of key) 0) × (1 ≤ length (words_of key)))) (sym there) bound.word in
          let first = its found.found.key found.found.value found.found.pair in
          let word = first.0 in
          subst (IsLeastAmong words_of is_expired places (i + 1)) there
          (same_least i key value at k found.found (first_less (words_of found.found.key) (words_of key) first.1 some (omega arith)))
      -- ---- All places
