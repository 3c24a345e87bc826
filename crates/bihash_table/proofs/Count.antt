-- How many pairs a map has: as many as the places of its block.
use Rattle.std.proofs.Common.{◌≡◌, ◌≢◌, ◌∙◌, ◌+◌, ◌*◌, ◌^◌, ◌<◌, ◌≤◌, ℕ, zero, suc, cond, eqb, List, Some, None, ap, arith, refl, sym, subst, eq-eqb, ne_eqb, ⊎_elim}
use Rattle.std.specs.Cmp.Lexicographic.{nat_list_cmp_total, slice_cmp}
use Rattle.std.specs.FinMap.{empty, empty_of_len, get, get-empty, len, len-empty, nat_cmp-IsAntisymmetric, remove, same_map, slice_cmp-IsAntisymmetric}
use Rattle.std.specs.Ordering.{nat_cmp}
use Rattle.std.proofs.lemmas.Bool.{cases_eq}
use Rattle.std.proofs.Math.Pow.{pow-lt, pow_mono}
use Rattle.bihash_words.specs.Blocks.{AreLawfulPlaces, HoldsMap}
use Rattle.bihash_words.specs.Maps.{Pairs}
use Rattle.bihash_words.specs.Pages.{word_paging}
use Rattle.bihash_words.specs.Sizes.{Sizes}
use Rattle.bihash_words.proofs.BlockLemmas.{holds_without}
use Rattle.bihash_words.proofs.MapValues.{len_less}
use Rattle.bihash_rule.specs.Blocks.{HasPair, HoldsPair, IsBlockOf, places, key_in, value_in, free}
use Rattle.bihash_rule.specs.declared.view.Extent.{Extent}

-- how many of the first n places have a pair
abbrev pub pairs_before : Sizes → List ℕ → ℕ → ℕ
pairs_before z block zero = 0
pairs_before z block (suc n) =
    cond (eqb (value_in z block n) free) (pairs_before z block n) (pairs_before z block n + 1)

more_free : (z : Sizes) (block : List ℕ) (n : ℕ) → value_in z block n ≡ free
    → pairs_before z block (suc n) ≡ pairs_before z block n
more_free z block n is = ap (λ t. cond t (pairs_before z block n) (pairs_before z block n + 1))
    (eq-eqb (value_in z block n) free is)

more_taken : (z : Sizes) (block : List ℕ) (n : ℕ) → value_in z block n ≢ free
    → pairs_before z block (suc n) ≡ pairs_before z block n + 1
more_taken z block n taken = ap (λ t. cond t (pairs_before z block n) (pairs_before z block n + 1))
    (ne_eqb (value_in z block n) free taken)

-- a map with a pair is not empty
some_pair : (m : Pairs) (key : List ℕ) (value : ℕ) → get m key ≡ Some value → 1 ≤ len m
some_pair m key value is = ⊎_elim
    (λ (none : len m ≡ 0).
    absurd (let clash = sym is ∙ (ap (λ n. get n key) (empty_of_len m none) ∙ get-empty _ key) in let c : ⊥ = cc in c))
    (λ (some : len m ≡ 0 → ⊥). omega arith)
    (cases_eq (len m) 0)

module _ (z : Sizes) (e : Extent) (block : List ℕ) (rule : AreLawfulPlaces (word_paging z) e.size.log2 e.size.linear (HoldsPair z e block)) where
  -- the pairs at the first n places are those of the map
  abbrev HasFirst : ℕ → Pairs → Type 0
  HasFirst n m = HoldsMap (λ key. key) (λ key v i. (i < n) × HoldsPair z e block key v i) m

  nothing_first : (m : Pairs) → HasFirst 0 m → len m ≡ 0
  nothing_first m has =
      let none : (key : List ℕ) → get m key ≡ get (empty {X = ℕ} {R = slice_cmp nat_cmp}) key =
      λ key. elim (get m key) as (λ o. get m key ≡ o → o ≡ get (empty {X = ℕ} {R = slice_cmp nat_cmp}) key) [
        | None ↦ λ is. sym (get-empty _ key)
        | Some value ↦ λ is. absurd (let at = has.found key value is in let below = at.1.0 in omega arith)
      ] refl in
      ap len (same_map nat_list_cmp_total (slice_cmp-IsAntisymmetric nat_cmp-IsAntisymmetric) m empty none)
      ∙ len-empty (slice_cmp nat_cmp) ℕ

  -- without the last of them
  less_free : (n : ℕ) (m : Pairs) → HasFirst (suc n) m → value_in z block n ≡ free → HasFirst n m
  less_free n m has is = record {
    mapped = λ key v i h. let below = h.0 in has.mapped key v i (omega arith, h.1);
    found = λ key v there.
        let at = has.found key v there in
        let other : at.0 ≢ n = λ here. at.1.1.pair.1 (ap (value_in z block) here ∙ is) in
        let below = at.1.0 in
        (at.0, (omega arith, at.1.1));
  }

  less_taken : (n : ℕ) (m : Pairs) → HasFirst (suc n) m → HasPair z e block n → HasFirst n (remove m (key_in z block n))
  less_taken n m has pair = holds_without m (key_in z block n)
      (λ key v i h. let below = h.0 in (
        λ same. let here = rule.once key v (value_in z block n) i n h.1 (record { pair = pair; stands = sym same; has = refl }) in omega arith,
        has.mapped key v i (omega arith, h.1),
      ))
      (λ key v apart there.
      let at = has.found key v there in
      let other : at.0 ≢ n = λ here. apart (sym at.1.1.stands ∙ ap (key_in z block) here) in
      let below = at.1.0 in
      (at.0, (omega arith, at.1.1)))

  count_first : (n : ℕ) (m : Pairs) → n ≤ places e.page e.size.log2 → HasFirst n m → len m ≡ pairs_before z block n
  count_first zero m room has = nothing_first m has
  count_first (suc n) m room has = ⊎_elim
      (λ (is : value_in z block n ≡ free).
      count_first n m (omega arith) (less_free n m has is) ∙ sym (more_free z block n is))
      (λ (taken : value_in z block n ≢ free).
      let pair : HasPair z e block n = (omega arith, taken) in
      let there = has.mapped (key_in z block n) (value_in z block n) n (omega arith, record { pair = pair; stands = refl; has = refl }) in
      let fewer : len (remove m (key_in z block n)) ≡ pairs_before z block n =
      count_first n (remove m (key_in z block n)) (omega arith) (less_taken n m has pair) in
      omega (
        arith,
        fewer,
        len_less m (key_in z block n) (value_in z block n) there,
        some_pair m (key_in z block n) (value_in z block n) there,
        more_taken z block n taken,
      ))
      (cases_eq (value_in z block n) free)

-- a map has as many pairs as its block
pub len-pairs_before : (z : Sizes) (e : Extent) (block : List ℕ) (m : Pairs) → IsBlockOf z e block m
    → len m ≡ pairs_before z block (places e.page e.size.log2)
len-pairs_before z e block m pairs = count_first z e block pairs.rule (places e.page e.size.log2) m (omega arith) (record {
  mapped = λ key v i h. pairs.map.mapped key v i h.1;
  found = λ key v there. let at = pairs.map.found key v there in (at.0, (at.1.pair.0, at.1));
})

pub pairs_before-le : (z : Sizes) (block : List ℕ) (n : ℕ) → pairs_before z block n ≤ n
pairs_before-le z block zero = omega arith
pairs_before-le z block (suc n) = ⊎_elim
    (λ (is : value_in z block n ≡ free). omega (arith, more_free z block n is, pairs_before-le z block n))
    (λ (taken : value_in z block n ≢ free). omega (arith, more_taken z block n taken, pairs_before-le z block n))
    (cases_eq (value_in z block n) free)

-- where each place has a pair they are as many as the places
pub pairs_before-all : (z : Sizes) (block : List ℕ) (n : ℕ)
    → ((i : ℕ) → i < n → value_in z block i ≢ free) → pairs_before z block n ≡ n
pairs_before-all z block zero each = refl
pairs_before-all z block (suc n) each =
    omega (arith, more_taken z block n (each n (omega arith)), pairs_before-all z block n (λ i below. each i (omega arith)))

-- and where one is free they are fewer
pub pairs_before-free : (z : Sizes) (block : List ℕ) (i n : ℕ) → i < n → value_in z block i ≡ free
    → pairs_before z block n < n
pairs_before-free z block i zero inside is = absurd (omega arith)
pairs_before-free z block i (suc n) inside is = ⊎_elim
    (λ (here : i ≡ n). omega (
      arith,
      more_free z block n (subst (λ (k : ℕ). value_in z block k ≡ free) here is),
      pairs_before-le z block n,
    ))
    (λ (below : i ≡ n → ⊥).
    let fewer = pairs_before-free z block i n (omega arith) is in
    ⊎_elim
    (λ (vacant : value_in z block n ≡ free). omega (arith, more_free z block n vacant, fewer))
    (λ (taken : value_in z block n ≢ free). omega (arith, more_taken z block n taken, fewer))
    (cases_eq (value_in z block n) free))
    (cases_eq i n)

places-le : (page log2 most : ℕ) → log2 ≤ most → places page log2 ≤ 4 * 2 ^ most
places-le zero log2 most small = omega arith
places-le (suc page) log2 most small = let more : 2 ^ log2 ≤ 2 ^ most = pow_mono small in
    let p : ℕ = 2 ^ log2 in let q : ℕ = 2 ^ most in omega arith

-- a block with a free place has fewer pairs than the most that there may be
pub few_pairs : (z : Sizes) (e : Extent) (block : List ℕ) (m : Pairs) (i : ℕ) → IsBlockOf z e block m
    → i < places e.page e.size.log2 → value_in z block i ≡ free → len m < 4 * 2 ^ z.max_log2
few_pairs z e block m i pairs inside is =
    omega (
      arith,
      len-pairs_before z e block m pairs,
      pairs_before-free z block i (places e.page e.size.log2) inside is,
      places-le e.page e.size.log2 z.max_log2 pairs.rule.small,
    )

-- a block of places that all have pairs has as many pairs
pub full_block : (z : Sizes) (e : Extent) (block : List ℕ) (m : Pairs) → IsBlockOf z e block m
    → ((i : ℕ) → i < places e.page e.size.log2 → value_in z block i ≢ free) → len m ≡ places e.page e.size.log2
full_block z e block m pairs each =
    len-pairs_before z e block m pairs ∙ pairs_before-all z block (places e.page e.size.log2) each

-- a block below the greatest size has fewer pairs than the most that there may be
pub few_places : (z : Sizes) (e : Extent) (block : List ℕ) (m : Pairs) → IsBlockOf z e block m
    → e.size.log2 < z.max_log2 → len m < 4 * 2 ^ z.max_log2
few_places z e block m pairs small =
    let more : 2 ^ e.size.log2 < 2 ^ z.max_log2 = pow-lt small in
    let p : ℕ = 2 ^ e.size.log2 in let q : ℕ = 2 ^ z.max_log2 in
    omega (
      arith,
      len-pairs_before z e block m pairs,
      pairs_before-le z block (places e.page e.size.log2),
      places-le e.page e.size.log2 e.size.log2 (omega arith),
    )
