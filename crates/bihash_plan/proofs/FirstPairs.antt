-- The first pair of a list of places, and what stands behind it.
use Rattle.std.proofs.Common.{◌≡◌, ◌≢◌, ◌<◌, ◌≤◌, ◌+◌, ◌↔◌, ◌∙◌, ℕ, Bool, true, false, List, [], ◌∷◌, ◌++◌, IsTrue, length, take, drop, get_or, map, arith, ap, refl, sym}
use Rattle.std.proofs.lemmas.Bool.{false≢true}
use Rattle.std.proofs.lemmas.List.{length-drop, take-append-drop, take_all}
use Rattle.std.proofs.lemmas.Option.{get_or_from_slice_get, slice_get-get_or}
use Rattle.bihash_words.specs.Patches.{free_mark}
use Rattle.bihash_words.specs.Pages.{Paging}
use Rattle.bihash_plan.specs.Blocks.{IsFree, pairs}
use Rattle.bihash_plan.specs.Plans.{keys_of}
use Rattle.bihash_plan.specs.SmallerBlocks.{IsFirstPair, IsSmaller}
use Rattle.bihash_plan.proofs.Pairs.{pairs-append, pairs_more, pairs_same}
use Rattle.bihash_plan.proofs.Places.{free_at, free_inside}

-- one more place is free
pub first_more : {K : Type 0} (places : List (K × ℕ)) (i : ℕ) (b : Bool) → IsTrue b ↔ IsFree places i → b ≡ true
    → pairs (take i places) ≡ [] → pairs (take (i + 1) places) ≡ []
first_more {K} places i b told is none =
    let vacant = told.0 is in
    let place : K × ℕ = (vacant.key, free_mark) in
    pairs_same places i place (free_inside vacant) (sym (get_or_from_slice_get places i place place vacant.at)) refl ∙ none

-- or it isn't, and has the first pair
pub first_found : {K : Type 0} (places : List (K × ℕ)) (i : ℕ) (b : Bool) → IsTrue b ↔ IsFree places i → b ≡ false
    → i < length places → pairs (take i places) ≡ [] → IsFirstPair places i
first_found [] i b told is inside none = absurd (omega arith)
first_found {K} (d ∷ rest) i b told is inside none =
    let places : List (K × ℕ) = d ∷ rest in
    let pair : K × ℕ = get_or places i d in
    let behind : List (K × ℕ) = drop (i + 1) places in
    let taken : pair.1 ≢ free_mark = λ e. false≢true (sym is ∙ told.1 (free_at places i d inside e)) in
    let at = slice_get-get_or places i d inside in
    let front : pairs (take (i + 1) places) ≡ pair ∷ [] =
    pairs_more places i pair inside (sym (get_or_from_slice_get places i pair pair at)) taken
    ∙ ap (λ (ps : List (K × ℕ)). ps ++ pair ∷ []) none in
    record {
      inside = inside;
      pair = pair;
      at = at;
      splits = ap pairs (sym (take-append-drop (i + 1) places)) ∙ pairs-append (take (i + 1) places) behind
          ∙ ap (λ (ps : List (K × ℕ)). ps ++ pairs behind) front;
    }

-- no place has a pair
pub first_none : {K : Type 0} (places : List (K × ℕ)) (n : ℕ) → length places ≤ n → pairs (take n places) ≡ [] → pairs places ≡ []
first_none places n past none = ap pairs (sym (take_all n places past)) ∙ none

-- the keys are that of the first pair and those behind it
pub first_keys : {K : Type 0} (places : List (K × ℕ)) (i : ℕ) (key : K) (value : ℕ) (rest : List (K × ℕ)) → (h : IsFirstPair places i)
    → (key, value) ≡ get_or places i (key, value) → rest ≡ drop (i + 1) places → key ∷ keys_of rest ≡ keys_of places
first_keys {K} places i key value rest h is behind =
    let same : (key, value) ≡ h.pair = is ∙ get_or_from_slice_get places i h.pair (key, value) h.at in
    (λ n. (same n).0 ∷ keys_of (behind n)) ∙ sym (ap (map (λ (p : K × ℕ). p.0)) h.splits)

-- a slice to the end is what stands from its beginning on
pub slice_to_end : {X : Type 0} (xs : List X) (n m : ℕ) → length xs ≤ n + m → take m (drop n xs) ≡ drop n xs
slice_to_end xs n m all = take_all m (drop n xs) (omega (arith, length-drop n xs))

pub some_pair : {K : Type 0} (places : List (K × ℕ)) (i : ℕ) → IsFirstPair places i → 1 ≤ length (pairs places)
some_pair places i h = omega (arith, ap length h.splits)

-- a list without a pair has no smaller block
pub no_pair : {K : Type 0} (paging : Paging K) (below log2 : ℕ) (places : List (K × ℕ)) → pairs places ≡ []
    → IsSmaller paging below places log2 → ⊥
no_pair paging below log2 places none h = omega (arith, h.some, ap length none)
