-- The pairs of a block but one, and the smaller block in which they are laid out.
use Rattle.std.proofs.Common.{◌≡◌, ◌≢◌, ◌∙◌, ◌<◌, ◌≤◌, ◌∷◌, ℕ, true, false, List, [], Some, ap, arith, length, refl, set, subst, sym, inl, inr}
use Rattle.std.specs.FinMap.{remove}
use Rattle.std.specs.List.{Contains}
use Rattle.std.specs.Prelude.{slice_get}
use Rattle.std.proofs.lemmas.List.{get_or-set_other, length-set}
use Rattle.std.proofs.lemmas.List.Sorted.{Contains-permutation, IsPermutation-sym}
use Rattle.std.proofs.lemmas.Option.{get_or_from_slice_get, slice_get-get_or}
use Rattle.bihash_words.specs.Blocks.{HoldsMap}
use Rattle.bihash_words.specs.Maps.{Pairs}
use Rattle.bihash_words.specs.Pages.{paging_of}
use Rattle.bihash_words.specs.Patches.{free_mark}
use Rattle.bihash_words.specs.Sizes.{Sizes, sizes_of}
use Rattle.bihash_words.specs.Words.{Bucket, FitsWord, packed}
use Rattle.bihash_words.specs.declared.shape.Shape.{Ghosts}
use Rattle.bihash_words.proofs.BlockLemmas.{holds_without, lawful_as}
use Rattle.bihash_words.proofs.MapValues.{get_left, same_or_other}
use Rattle.bihash_plan.specs.Blocks.{HasPairAt, IsLawfulBlock, IsSized, pairs}
use Rattle.bihash_plan.specs.Layouts.{IsLaid}
use Rattle.bihash_plan.proofs.Places.{get_after, pair_inside}
use Rattle.bihash_rule.specs.Words.{block_words}
use Rattle.bihash_rule.specs.Blocks.{HoldsPair, IsBlockOf, places}
use Rattle.bihash_rule.specs.Places.{ArePlaces}
use Rattle.bihash_rule.specs.declared.view.Extent.{Extent}
use Rattle.bihash_rule.specs.declared.view.View.{View}
use Rattle.bihash_table.specs.inner.Laid.{LeavesOut}
use Rattle.bihash_table.specs.inner.OpenReads.{HasOpen, OtherPairTells}
use Rattle.bihash_table.proofs.Bridge.{AreKeyWords, AreKeysOf, are_keys, as_place, as_words, block_of_places, count_places, extent_of, hold_map, lawful_places, same_key}
use Rattle.bihash_table.proofs.OpenReadLemmas.{word_notes}
use Rattle.bihash_table.proofs.PlacePairs.{contains_pair, stands_at}
use Rattle.bihash_table.proofs.StoreLemmas.{log2_is}

-- where there are pairs, one is at a place
some_place : {K : Type 0} (ps : List (K × ℕ)) (xs : List (K × ℕ)) → pairs ps ≡ xs → 1 ≤ length xs
    → (p : K × ℕ) × (j : ℕ) × HasPairAt ps p.0 p.1 j
some_place ps [] is some = absurd (omega arith)
some_place {K} ps (p ∷ xs) is some =
    let at = stands_at ps p.0 p.1 (subst (λ (all : List (K × ℕ)). Contains all p) (sym is) (0, omega arith, refl)) in (p, at.0, at.1)

-- two pairs at one place have one key
one_key : {K : Type 0} (ps : List (K × ℕ)) (a b : K) (v w i : ℕ) → slice_get ps i ≡ Some (a, v) → slice_get ps i ≡ Some (b, w) → a ≡ b
one_key ps a b v w i at there =
    ap (λ p. p.0) (sym (get_or_from_slice_get ps i (a, v) (a, v) at) ∙ get_or_from_slice_get ps i (b, w) (a, v) there)

-- the places without the pair of the key, which was at place i
module _ {A K : Type 0} (g : Ghosts A K) (keys : AreKeyWords g) (e : Extent) (block : List ℕ) (m : Pairs) (key : K) (v i : ℕ)
    (size : length block ≡ block_words (sizes_of g) e.page e.size.log2) (held : IsBlockOf (sizes_of g) e block m)
    (has : HoldsPair (sizes_of g) e block (g.words_of key) v i) (ps kept : List (K × ℕ)) (are : ArePlaces g ps block)
    (left : LeavesOut ps i kept) where
  count : length ps ≡ places e.page e.size.log2
  count = count_places g e.page e.size.log2 block ps size are

  gone : (k : K) × HasPairAt ps k v i × (g.words_of key ≡ g.words_of k)
  gone = as_place g e block ps are count key (g.words_of key) v i has

  abbrev freed : K × ℕ
  freed = (gone.0, free_mark)

  kept_is : kept ≡ set ps i freed
  kept_is = left (gone.0, v) gone.1.at

  all_lawful : IsLawfulBlock (paging_of g) e.size.log2 e.size.linear ps
  all_lawful = lawful_places g keys e block ps m size held are

  -- what stays was there before, at another place than that
  was : (k : K) (w j : ℕ) → HasPairAt kept k w j → (j ≢ i) × HasPairAt ps k w j
  was k w j h = elim (get_after ps i j freed (k, w) (pair_inside gone.1)
      (subst (λ (xs : List (K × ℕ)). slice_get xs j ≡ Some (k, w)) kept_is h.at)) [
        | inl here ↦ absurd (h.taken (sym (ap (λ (p : K × ℕ). p.1) here.1)))
        | inr there ↦ (there.0, record { at = there.1; taken = h.taken })
      ]

  stays : (k : K) (w j : ℕ) → j ≢ i → HasPairAt ps k w j → HasPairAt kept k w j
  stays k w j apart h = let pair : K × ℕ = (k, w) in record {
    at = ap (λ (xs : List (K × ℕ)). slice_get xs j) kept_is
        ∙ (slice_get-get_or (set ps i freed) j pair (let inside = pair_inside h in omega (arith, length-set ps i freed))
        ∙ ap Some (get_or-set_other ps i j freed pair apart ∙ get_or_from_slice_get ps j pair pair h.at));
    taken = h.taken;
  }

  same_place : (k : K) (w j : ℕ) → HasPairAt ps k w j → g.words_of k ≡ g.words_of key → j ≡ i
  same_place k w j h same = all_lawful.rule.once k w v j i h
      (subst (λ (x : K). HasPairAt ps x v i) (same_key keys gone.0 k (sym (same ∙ gone.2))) gone.1)

  pub kept_lawful : IsLawfulBlock (paging_of g) e.size.log2 e.size.linear kept
  kept_lawful = record {
    sized = subst (IsSized e.size.log2) (sym (ap length kept_is ∙ length-set ps i freed)) all_lawful.sized;
    rule = lawful_as (λ (k : K). k) all_lawful.rule all_lawful.rule.small (λ k w j h. ((was k w j h).1, refl));
  }

  kept_map : HoldsMap g.words_of (HasPairAt kept) (remove m (g.words_of key))
  kept_map = let hold = hold_map g keys e block ps m size held are in holds_without m (g.words_of key)
      (λ k w j h. let had = was k w j h in ((λ same. had.0 (same_place k w j had.1 same)), hold.mapped k w j had.1))
      (λ k w differ is. let at = hold.found k w is in
      (at.0, stays k w at.0 (λ here. differ (ap g.words_of (one_key ps k gone.0 w v i (ap (slice_get ps) (sym here) ∙ at.1.at) gone.1.at) ∙ sym gone.2)) at.1))

  kept_keys : AreKeysOf g (remove m (g.words_of key))
  kept_keys = record {
    each = λ w x is. elim (same_or_other w (g.words_of key)) [
      | inl same ↦ (key, same)
      | inr differ ↦ (are_keys g keys e block ps m size held are key).each w x (sym (get_left m (g.words_of key) w differ) ∙ is)
    ];
  }

  module _ (some : 1 ≤ length (pairs kept)) where
    other : (p : K × ℕ) × (j : ℕ) × HasPairAt kept p.0 p.1 j
    other = some_place kept (pairs kept) refl some

    -- another pair is left
    pub another : OtherPairTells (sizes_of g) i true e block
    another = let had = was other.0.0 other.0.1 other.1 other.2 in
        (other.1, had.0, (as_words g e block ps are count other.0.0 other.0.1 other.1 had.1).pair)

    module _ (log2 : ℕ) (new : List (K × ℕ)) (laid : IsLaid (paging_of g) log2 false (pairs kept) new) where
      laid_map : HoldsMap g.words_of (HasPairAt new) (remove m (g.words_of key))
      laid_map = record {
        mapped = λ k w j h. let had = stands_at kept k w (Contains-permutation _ _ (k, w)
            (IsPermutation-sym _ _ laid.same_pairs) (contains_pair new k w j h)) in kept_map.mapped k w had.0 had.1;
        found = λ k w is. let at = kept_map.found k w is in
            stands_at new k w (Contains-permutation _ _ (k, w) laid.same_pairs (contains_pair kept k w at.0 at.1));
      }

      -- the block in which they are laid out
      pub kept_block : (page : ℕ) (words : List ℕ) → 1 ≤ page → ArePlaces g new words
          → IsBlockOf (sizes_of g) (extent_of page (record { log2 = log2; linear = false })) words (remove m (g.words_of key))
      kept_block page words first there = block_of_places g keys page (record { log2 = log2; linear = false }) new
          (remove m (g.words_of key)) laid.lawful laid_map kept_keys other.0.0 other.0.1
          (kept_map.mapped other.0.0 other.0.1 other.1 other.2) words first there

-- it is no larger than a block may be
pub smaller_fits : (z : Sizes) (v : View) (b word : ℕ) (h : HasOpen z v b word) (log2 smaller : ℕ)
    → ((x : Bucket) → FitsWord x → word ≡ packed x → log2 ≡ x.log2) → smaller < log2 → smaller ≤ z.max_log2
smaller_fits z v b word h log2 smaller tells less =
    let told = word_notes z v word h.extent h.block in
    let at = log2_is z word h.extent told log2 tells in
    let small = told.small in omega arith
