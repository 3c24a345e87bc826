-- A block as words and as places: the places of a lawful block hold its map, and a block that was laid out
-- anew is lawful as words.
use Rattle.std.proofs.Common.{◌≡◌, ◌≢◌, ◌∙◌, ◌⊎◌, ◌<◌, ◌≤◌, ◌*◌, ◌/◌, ◌^◌, ◌++◌, ◌∷◌, ℕ, zero, suc, List, [], Some, None, ap, arith, get_or, le-mul_of_pos_right, mul-div_cancel, inl, inr, length, refl, subst, sym}
use Rattle.std.specs.FinMap.{get, get-empty, insert}
use Rattle.std.specs.List.{Contains}
use Rattle.std.specs.Prelude.{slice_get}
use Rattle.std.proofs.lemmas.List.Elements.{Contains-append_left, Contains-push, Contains-push_cases}
use Rattle.std.proofs.lemmas.List.Sorted.{Contains-permutation, IsPermutation-sym}
use Rattle.std.proofs.lemmas.Option.{slice_get-get_or}
use Rattle.bihash_words.specs.declared.block_size.BlockSize.{BlockSize}
use Rattle.bihash_words.specs.declared.shape.Shape.{Ghosts}
use Rattle.bihash_words.specs.Blocks.{HoldsMap}
use Rattle.bihash_words.specs.Maps.{Pairs}
use Rattle.bihash_words.specs.Pages.{page_of, paging_of, word_paging}
use Rattle.bihash_words.specs.Patches.{free_mark}
use Rattle.bihash_words.specs.Sizes.{sizes_of}
use Rattle.bihash_words.proofs.BlockLemmas.{holds_with, lawful_as}
use Rattle.bihash_words.proofs.MapValues.{get_other, get_set, same_or_other}
use Rattle.bihash_plan.specs.Blocks.{HasPairAt, IsLawfulBlock, IsSized, pairs}
use Rattle.bihash_plan.specs.Layouts.{IsRehash}
use Rattle.bihash_plan.proofs.Places.{block_sized, pair_inside}
use Rattle.bihash_rule.specs.Words.{place_words, block_words}
use Rattle.bihash_rule.specs.Blocks.{HoldsPair, IsBlockOf, places, value_in}
use Rattle.bihash_rule.specs.declared.view.Extent.{Extent}
use Rattle.bihash_rule.specs.Places.{ArePlaces}
use Rattle.bihash_table.proofs.OpenPlaces.{some_places}
use Rattle.bihash_table.proofs.PlacePairs.{contains_pair, stands_at}

-- a key is the key of its words
pub record AreKeyWords {A K : Type 0} (g : Ghosts A K) : Type 0 where
  pub law : (key : K) → g.key_of (g.words_of key) ≡ key

pub same_key : {A K : Type 0} {g : Ghosts A K} → AreKeyWords g → (a b : K) → g.words_of a ≡ g.words_of b → a ≡ b
same_key {g = g} keys a b e = sym (keys.law a) ∙ ap g.key_of e ∙ keys.law b

-- how many places there are
pub count_places : {A K : Type 0} (g : Ghosts A K) (page log2 : ℕ) (words : List ℕ) (ps : List (K × ℕ))
    → length words ≡ block_words (sizes_of g) page log2 → ArePlaces g ps words → length ps ≡ places page log2
count_places g zero log2 words ps size are =
    let more : length ps ≤ length ps * place_words (sizes_of g) = le-mul_of_pos_right (length ps) (omega arith) in
    let all : ℕ = length ps * place_words (sizes_of g) in
    let few : all ≡ length words = sym are.count in omega arith
count_places g (suc page) log2 words ps size are =
    let one : ℕ = place_words (sizes_of g) in
    let some : 0 < one = omega arith in
    let many : ℕ = 4 * 2 ^ log2 in
    let same : length ps * one ≡ many * one = sym are.count ∙ size ∙ omega arith in
    sym (mul-div_cancel (length ps) some) ∙ ap (λ n. n / one) same ∙ mul-div_cancel many some

pub sized : (page log2 count : ℕ) → count ≡ places page log2 → IsSized log2 count
sized zero log2 count is = inl is
sized (suc page) log2 count is = inr is

module _ {A K : Type 0} (g : Ghosts A K) (e : Extent) (words : List ℕ) (ps : List (K × ℕ))
    (are : ArePlaces g ps words) (count : length ps ≡ places e.page e.size.log2) where
  -- a pair at a place, as words
  pub as_words : (key : K) (v i : ℕ) → HasPairAt ps key v i → HoldsPair (sizes_of g) e words (g.words_of key) v i
  as_words key v i h =
      let value : value_in (sizes_of g) words i ≡ v = are.value i (key, v) h.at in
      record {
        pair = (omega (arith, pair_inside h, count), λ vacant. h.taken (sym value ∙ vacant));
        stands = are.key i (key, v) h.at h.taken;
        has = value;
      }

  -- a pair in words, at its place
  pub as_place : K → (w : List ℕ) (v i : ℕ) → HoldsPair (sizes_of g) e words w v i
      → (key : K) × HasPairAt ps key v i × (w ≡ g.words_of key)
  as_place any w v i h =
      let d : K × ℕ = (any, 0) in
      let p : K × ℕ = get_or ps i d in
      let at : slice_get ps i ≡ Some p = slice_get-get_or ps i d (omega (arith, h.pair.0, count)) in
      let value : p.1 ≡ v = sym (are.value i p at) ∙ h.has in
      let taken : v ≢ free_mark = λ vacant. h.pair.1 (h.has ∙ vacant) in (
        p.0,
        record { at = at ∙ ap (λ n. Some (p.0, n)) value; taken = taken },
        sym h.stands ∙ are.key i p at (λ vacant. taken (sym value ∙ vacant)),
      )

-- the keys of the map are words of keys
pub record AreKeysOf {A K : Type 0} (g : Ghosts A K) (m : Pairs) : Type 0 where
  pub each : (words : List ℕ) (value : ℕ) → get m words ≡ Some value → (key : K) × (words ≡ g.words_of key)

-- the places of a block hold its map
module _ {A K : Type 0} (g : Ghosts A K) (keys : AreKeyWords g) (e : Extent) (words : List ℕ) (ps : List (K × ℕ)) (m : Pairs)
    (size : length words ≡ block_words (sizes_of g) e.page e.size.log2) (block : IsBlockOf (sizes_of g) e words m)
    (are : ArePlaces g ps words) where
  count : length ps ≡ places e.page e.size.log2
  count = count_places g e.page e.size.log2 words ps size are

  pub lawful_places : IsLawfulBlock (paging_of g) e.size.log2 e.size.linear ps
  lawful_places = record {
    sized = sized e.page e.size.log2 (length ps) count;
    rule = lawful_as g.words_of block.rule block.rule.small (λ key v i h. (as_words g e words ps are count key v i h, refl));
  }

  pub hold_map : HoldsMap g.words_of (HasPairAt ps) m
  hold_map = record {
    mapped = λ key v i h. block.map.mapped (g.words_of key) v i (as_words g e words ps are count key v i h);
    found = λ key v is. let f = block.map.found (g.words_of key) v is in
        let p = as_place g e words ps are count key (g.words_of key) v f.0 f.1 in
        (f.0, subst (λ (k : K). HasPairAt ps k v f.0) (sym (same_key keys key p.0 p.2)) p.1);
  }

  pub are_keys : K → AreKeysOf g m
  are_keys any = record {
    each = λ w v is. let f = block.map.found w v is in let p = as_place g e words ps are count any w v f.0 f.1 in (p.0, p.2);
  }

-- a block of these pages
abbrev pub extent_of : ℕ → BlockSize → Extent
extent_of page size = record { page = page; size = size }

-- the words of a lawful block of places that hold a map with a pair
module _ {A K : Type 0} (g : Ghosts A K) (keys : AreKeyWords g) (page : ℕ) (size : BlockSize) (ps : List (K × ℕ)) (m : Pairs)
    (lawful : IsLawfulBlock (paging_of g) size.log2 size.linear ps) (hold : HoldsMap g.words_of (HasPairAt ps) m) (of : AreKeysOf g m)
    (any : K) (value : ℕ) (there : get m (g.words_of any) ≡ Some value) where
  pub block_of_places : (words : List ℕ) → 1 ≤ page → ArePlaces g ps words → IsBlockOf (sizes_of g) (extent_of page size) words m
  block_of_places words some are = record {
    absent = λ none. absurd (omega arith);
    bare = λ none. absurd (let clash : None ≡ Some value = sym (get-empty _ (g.words_of any))
        ∙ ap (λ x. get x (g.words_of any)) (sym none) ∙ there in let c : ⊥ = cc in c);
    rule = lawful_as g.key_of lawful.rule lawful.rule.small
        (λ w v i h. let p = as_place g (extent_of page size) words ps are count any w v i h in
        let same : g.key_of w ≡ p.0 = ap g.key_of p.2 ∙ keys.law p.0 in (
          subst (λ (k : K). HasPairAt ps k v i) (sym same) p.1,
          ap (page_of (word_paging (sizes_of g)) size.log2) (ap g.words_of same ∙ sym p.2),
        ));
    map = record {
      mapped = λ w v i h. let p = as_place g (extent_of page size) words ps are count any w v i h in
          ap (get m) p.2 ∙ hold.mapped p.0 v i p.1;
      found = λ w v is. let k = of.each w v is in let f = hold.found k.0 v (ap (get m) (sym k.1) ∙ is) in (
        f.0,
        subst (λ (x : List ℕ). HoldsPair (sizes_of g) (extent_of page size) words x v f.0) (sym k.1)
            (as_words g (extent_of page size) words ps are count k.0 v f.0 f.1),
      );
    };
  }
    where
      count : length ps ≡ places page size.log2
      count = block_sized ps size.log2 (let at = hold.found any value there in
          let inside : at.0 < length ps = pair_inside at.1 in omega arith) lawful.sized
          ∙ sym (some_places page size.log2 (λ none. absurd (omega arith)))

module _ {A K : Type 0} (g : Ghosts A K) (keys : AreKeyWords g) (page : ℕ) (size : BlockSize) (old : List (K × ℕ)) (key : K)
    (value : ℕ) (m : Pairs) (new : List (K × ℕ)) (hold : HoldsMap g.words_of (HasPairAt old) m) (of : AreKeysOf g m)
    (absent : get m (g.words_of key) ≡ None) (rehash : IsRehash (paging_of g) size.log2 size.linear old key value new) where
  abbrev e : Extent
  e = extent_of page size

  abbrev more : Pairs
  more = insert m (g.words_of key) value

  there : (pair : K × ℕ) → Contains (pairs old ++ (key, value) ∷ []) pair → Contains (pairs new) pair
  there pair = Contains-permutation _ _ pair rehash.same_pairs

  -- a pair of the new places is the new one or an old one
  new_or_old : (k : K) (v i : ℕ) → HasPairAt new k v i
      → ((g.words_of k ≡ g.words_of key) × (value ≡ v)) ⊎ ((g.words_of k ≢ g.words_of key) × (get m (g.words_of k) ≡ Some v))
  new_or_old k v i h = elim (Contains-push_cases (pairs old) (key, value) (k, v)
      (Contains-permutation _ _ (k, v) (IsPermutation-sym _ _ rehash.same_pairs) (contains_pair new k v i h))) [
        | inl had ↦
            let was = stands_at old k v had in
            let is : get m (g.words_of k) ≡ Some v = hold.mapped k v was.0 was.1 in
            inr (λ same. absurd (let clash : None ≡ Some v = sym absent ∙ ap (get m) (sym same) ∙ is in let c : ⊥ = cc in c), is)
        | inr same ↦ inl (ap (λ p. g.words_of p.0) (sym same), ap (λ p. p.1) same)
      ]

  -- the places of a block that was laid out anew hold the map with the new pair
  laid : HoldsMap g.words_of (HasPairAt new) more
  laid = holds_with m (g.words_of key) value new_or_old
      (λ k same. let at = stands_at new key value (there (key, value) (Contains-push (pairs old) (key, value))) in
      (at.0, subst (λ (k : K). HasPairAt new k value at.0) (sym (same_key keys k key same)) at.1))
      (λ k v differ is. let was = hold.found k v is in
      stands_at new k v (there (k, v) (Contains-append_left (pairs old) ((key, value) ∷ []) (k, v) (contains_pair old k v was.0 was.1))))

  more_keys : (w : List ℕ) (v : ℕ) → get more w ≡ Some v → (k : K) × (w ≡ g.words_of k)
  more_keys w v is = elim (same_or_other w (g.words_of key)) [
    | inl same ↦ (key, same)
    | inr differ ↦ of.each w v (sym (get_other m (g.words_of key) value w differ) ∙ is)
  ]

  -- and its words are a lawful block of it
  pub block_of_rehash : (words : List ℕ) → 1 ≤ page → ArePlaces g new words → IsBlockOf (sizes_of g) e words more
  block_of_rehash = block_of_places g keys page size new more rehash.lawful laid (record { each = more_keys }) key value
      (get_set m (g.words_of key) value)
