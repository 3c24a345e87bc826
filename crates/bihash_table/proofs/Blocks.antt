-- The block of a map after a change at one place.
use Rattle.std.proofs.Common.{◌≡◌, ◌≢◌, ◌∙◌, ◌⊎◌, ◌<◌, ℕ, Bool, true, false, true≢false, arith, List, Some, None, ap, sym, subst, refl, inl, inr}
use Rattle.std.specs.FinMap.{get, get-empty, insert, remove}
use Rattle.std.proofs.lemmas.Bool.{cases_eq}
use Rattle.bihash_words.specs.Blocks.{AreLawfulPlaces, HoldsMap, IsOpen}
use Rattle.bihash_words.specs.Maps.{Pairs}
use Rattle.bihash_words.specs.Pages.{page_of, word_paging}
use Rattle.bihash_words.specs.Sizes.{Sizes}
use Rattle.bihash_words.proofs.BlockLemmas.{holds_with, holds_without, lawful_as, lawful_with}
use Rattle.bihash_words.proofs.MapValues.{get_left, get_removed, get_set, same_or_other}
use Rattle.bihash_rule.specs.Blocks.{HasPair, HoldsPair, IsBlockOf, places, key_in, value_in, free}
use Rattle.bihash_steps.specs.BucketSteps.{marked}
use Rattle.bihash_rule.specs.declared.view.Extent.{Extent}
use Rattle.bihash_rule.specs.Places.{IsFreeFor, IsOpenTo}
use Rattle.bihash_table.specs.inner.Stores.{IsPlaceSet}
use Rattle.bihash_table.proofs.PlaceWords.{key_beside, value_beside}

-- a value that may be stored is no mark of a free place
pub below_free : (value : ℕ) → value < free → value ≢ free
below_free value storable none = let low = storable in absurd (omega arith)

-- no other place changed
module _ (z : Sizes) (e : Extent) (block now : List ℕ) (m : Pairs) (i : ℕ) (pairs : IsBlockOf z e block m)
    (placed : IsPlaceSet z block now i) where
  -- another place has the pair that it had
  had : (key : List ℕ) (v k : ℕ) → k ≢ i → HoldsPair z e now key v k → HoldsPair z e block key v k
  had key v k differ h = let same = value_beside z block now i placed k differ in record {
    pair = (h.pair.0, λ none. h.pair.1 (same ∙ none));
    stands = sym (key_beside z block now i placed k differ) ∙ h.stands;
    has = sym same ∙ h.has;
  }

  stays : (key : List ℕ) (v k : ℕ) → k ≢ i → HoldsPair z e block key v k → HoldsPair z e now key v k
  stays key v k differ h = let same = value_beside z block now i placed k differ in record {
    pair = (h.pair.0, λ none. h.pair.1 (sym same ∙ none));
    stands = key_beside z block now i placed k differ ∙ h.stands;
    has = same ∙ h.has;
  }

  -- the pair of the key is at place i, where its old one stood or none did
  module _ (key : List ℕ) (value : ℕ) (inside : i < places e.page e.size.log2) (open_to : IsOpenTo z e key i)
      (only : (v k : ℕ) → HoldsPair z e block key v k → k ≡ i)
      (own : (other : List ℕ) (v : ℕ) → HoldsPair z e block other v i → other ≡ key) (storable : value < free)
      (key_is : key_in z now i ≡ key) (value_is : value_in z now i ≡ value) where
    here : HoldsPair z e now key value i
    here = record { pair = (inside, λ none. below_free value storable (sym value_is ∙ none)); stands = key_is; has = value_is }

    here_or_had : (other : List ℕ) (v k : ℕ) → HoldsPair z e now other v k
        → ((k ≡ i) × (other ≡ key) × (value ≡ v)) ⊎ ((k ≢ i) × HoldsPair z e block other v k)
    here_or_had other v k h = elim (cases_eq k i) [
      | inl at ↦ inl (
        at,
        sym h.stands ∙ ap (key_in z now) at ∙ key_is,
        sym value_is ∙ ap (value_in z now) (sym at) ∙ h.has,
      )
      | inr differ ↦ inr (differ, had other v k differ h)
    ]

    entered_block : IsBlockOf z e now (insert m key value)
    entered_block = record {
      absent = pairs.absent;
      bare = λ none. absurd (let clash = sym (get_set m key value) ∙ (ap (λ n. get n key) none ∙ get-empty _ key) in cc);
      rule = lawful_with key i pairs.rule open_to only
          (λ other v k h. elim (here_or_had other v k h) [ inl at ↦ inl (at.0, at.1) | inr was ↦ inr was.1 ]);
      map = holds_with m key value
          (λ other v k h. elim (here_or_had other v k h) [
            | inl at ↦ inl (at.1, at.2)
            | inr was ↦ inr (
              λ same. was.0 (only v k (subst (λ (x : List ℕ). HoldsPair z e block x v k) same was.1)),
              pairs.map.mapped other v k was.1,
            )
          ])
          (λ other same. (i, subst (λ (x : List ℕ). HoldsPair z e now x value i) (sym same) here))
          (λ other v differ is. let at = pairs.map.found other v is in
          (at.0, stays other v at.0 (λ same. differ (own other v (subst (HoldsPair z e block other v) same at.1))) at.1));
    }

  -- the pair of the key got another value
  pub overwritten_block : (key : List ℕ) (old value : ℕ) → HoldsPair z e block key old i → value < free
      → key_in z now i ≡ key → value_in z now i ≡ value → IsBlockOf z e now (insert m key value)
  overwritten_block key old value has =
      entered_block key value has.pair.0 (pairs.rule.paged key old i has)
      (λ v k other. pairs.rule.once key v old k i other has)
      (λ other v at. sym at.stands ∙ has.stands)

  -- a pair of a new key is at a place that was free
  pub filled_block : (key : List ℕ) (value : ℕ) → get m key ≡ None → IsFreeFor z e block key i → value < free
      → key_in z now i ≡ key → value_in z now i ≡ value → IsBlockOf z e now (insert m key value)
  filled_block key value new vacant =
      entered_block key value vacant.inside vacant.reached
      (λ v k other. absurd (let clash = sym new ∙ pairs.map.mapped key v k other in let c : ⊥ = cc in c))
      (λ other v at. absurd (at.pair.1 vacant.free))

  -- the pair of the key is gone, and another is left
  pub freed_block : (key : List ℕ) (old : ℕ) → HoldsPair z e block key old i → value_in z now i ≡ free
      → (k : ℕ) → k ≢ i → HasPair z e block k → IsBlockOf z e now (remove m key)
  freed_block key old has gone left apart stood = record {
    absent = pairs.absent;
    bare = λ none. absurd (let other = key_in z block left in
        let is = map.mapped other (value_in z block left) left
        (stays other (value_in z block left) left apart (record { pair = stood; stands = refl; has = refl })) in
        let clash = sym is ∙ (ap (λ n. get n other) none ∙ get-empty _ other) in let c : ⊥ = cc in c);
    rule = lawful_as (λ k. k) pairs.rule pairs.rule.small (λ other v k h. (was other v k h, refl));
    map = map;
  }
    where
      elsewhere : (k : ℕ) → HasPair z e now k → k ≢ i
      elsewhere k h here = h.1 (ap (value_in z now) here ∙ gone)

      was : (other : List ℕ) (v k : ℕ) → HoldsPair z e now other v k → HoldsPair z e block other v k
      was other v k h = had other v k (elsewhere k h.pair) h

      map : HoldsMap (λ k. k) (HoldsPair z e now) (remove m key)
      map = holds_without m key
          (λ other v k h. (
            λ same. elsewhere k h.pair (pairs.rule.once key v old k i
                (subst (λ (x : List ℕ). HoldsPair z e block x v k) same (was other v k h)) has),
            pairs.map.mapped other v k (was other v k h),
          ))
          (λ other v differ is. let at = pairs.map.found other v is in
          (at.0, stays other v at.0 (λ here. differ (sym at.1.stands ∙ (ap (key_in z block) here ∙ has.stands))) at.1))

-- a place that is open stays so where the block becomes linear
pub still_open : (was is : Bool) (page i : ℕ) → (was ≡ true → is ≡ true) → IsOpen was page i → IsOpen is page i
still_open true true page i stays h = tt
still_open true false page i stays h = absurd (true≢false (sym (stays refl)))
still_open false true page i stays h = tt
still_open false false page i stays h = h

-- the pair at place i made room for that of a new key, and the block has this linear mark then
module _ (z : Sizes) (e : Extent) (block now : List ℕ) (m : Pairs) (i : ℕ) (pairs : IsBlockOf z e block m)
    (placed : IsPlaceSet z block now i) (linear : Bool) (gone key : List ℕ) (old value : ℕ)
    (has : HoldsPair z e block gone old i) (new : get m key ≡ None)
    (open_to : IsOpen linear (page_of (word_paging z) e.size.log2 key) i) (stays_linear : e.size.linear ≡ true → linear ≡ true)
    (storable : value < free) (key_is : key_in z now i ≡ key) (value_is : value_in z now i ≡ value) where
  abbrev e' : Extent
  e' = marked e linear

  -- a pair of the old block at another place
  abbrev Was : List ℕ → ℕ → ℕ → Type 0
  Was k v j = (j ≢ i) × HoldsPair z e block k v j

  remarked : (k : List ℕ) (v j : ℕ) → HoldsPair z e now k v j → HoldsPair z e' now k v j
  remarked k v j h = record { pair = h.pair; stands = h.stands; has = h.has }

  unmarked : (k : List ℕ) (v j : ℕ) → HoldsPair z e' now k v j → HoldsPair z e now k v j
  unmarked k v j h = record { pair = h.pair; stands = h.stands; has = h.has }

  entered : HoldsPair z e' now key value i
  entered = record { pair = (has.pair.0, λ none. below_free value storable (sym value_is ∙ none)); stands = key_is; has = value_is }

  entered_or_was : (k : List ℕ) (v j : ℕ) → HoldsPair z e' now k v j → ((j ≡ i) × (k ≡ key) × (value ≡ v)) ⊎ Was k v j
  entered_or_was k v j h = elim (cases_eq j i) [
    | inl at ↦ inl (at, sym h.stands ∙ ap (key_in z now) at ∙ key_is, sym value_is ∙ ap (value_in z now) (sym at) ∙ h.has)
    | inr differ ↦ inr (differ, had z e block now m i pairs placed k v j differ (unmarked k v j h))
  ]

  -- such a pair isn't that of the new key, and not that of the key that is gone
  not_new : (k : List ℕ) (v j : ℕ) → HoldsPair z e block k v j → k ≢ key
  not_new k v j h same =
      let clash : None ≡ Some v = sym new ∙ ap (get m) (sym same) ∙ pairs.map.mapped k v j h in let c : ⊥ = cc in c

  not_gone : (k : List ℕ) (v j : ℕ) → Was k v j → k ≢ gone
  not_gone k v j h same = h.0 (pairs.rule.once gone v old j i (subst (λ (x : List ℕ). HoldsPair z e block x v j) same h.1) has)

  lawful_was : AreLawfulPlaces (word_paging z) e.size.log2 linear Was
  lawful_was = record {
    small = pairs.rule.small;
    once = λ k v w a b p q. pairs.rule.once k v w a b p.1 q.1;
    paged = λ k v j p. still_open e.size.linear linear (page_of (word_paging z) e.size.log2 k) j stays_linear (pairs.rule.paged k v j p.1);
  }

  pub replaced_block : IsBlockOf z e' now (insert (remove m gone) key value)
  replaced_block = record {
    absent = λ none. absurd (let inside : i < places 0 e.size.log2 = subst (λ (p : ℕ). i < places p e.size.log2) none has.pair.0 in
        omega arith);
    bare = λ none. absurd (let clash = sym (get_set (remove m gone) key value) ∙ (ap (λ n. get n key) none ∙ get-empty _ key) in cc);
    rule = lawful_with key i lawful_was open_to (λ v j p. absurd (not_new key v j p.1 refl))
        (λ k v j h. elim (entered_or_was k v j h) [ inl at ↦ inl (at.0, at.1) | inr was ↦ inr was ]);
    map = holds_with (remove m gone) key value
        (λ k v j h. elim (entered_or_was k v j h) [
          | inl at ↦ inl (at.1, at.2)
          | inr was ↦ inr (
            not_new k v j was.1,
            get_left m gone k (not_gone k v j was) ∙ pairs.map.mapped k v j was.1,
          )
        ])
        (λ k same. (i, subst (λ (x : List ℕ). HoldsPair z e' now x value i) (sym same) entered))
        (λ k v differ is. elim (same_or_other k gone) [
          | inl same ↦ absurd (let clash : None ≡ Some v = sym (get_removed m gone) ∙ ap (get (remove m gone)) (sym same) ∙ is in
              let c : ⊥ = cc in c)
          | inr other ↦
              let at = pairs.map.found k v (sym (get_left m gone k other) ∙ is) in (
                at.0,
                remarked k v at.0 (stays z e block now m i pairs placed k v at.0
                    (λ here. other (sym at.1.stands ∙ (ap (key_in z block) here ∙ has.stands))) at.1),
              )
        ]);
  }
