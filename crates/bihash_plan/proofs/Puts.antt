-- Lemmas on a block after a pair was put at one of its free places.
use Rattle.std.proofs.Common.{◌≡◌, ◌≢◌, ◌<◌, ◌*◌, ◌^◌, ◌⊎◌, ℕ, suc, Bool, List, ◌∷◌, ◌++◌, length, cond, get_or, set, take, drop, ap, sym, ◌∙◌, inl, inr, ⊎_elim}
use Rattle.std.specs.List.Sorted.{IsPermutation}
use Rattle.std.proofs.lemmas.List.{length-set, set-get_or, set_split}
use Rattle.std.proofs.lemmas.List.Sorted.{IsPermutation-middle, IsPermutation-sym}
use Rattle.bihash_words.specs.Blocks.{IsOpen}
use Rattle.bihash_words.specs.Pages.{Paging, page_of}
use Rattle.bihash_words.specs.Patches.{free_mark}
use Rattle.bihash_words.proofs.BlockLemmas.{lawful_with}
use Rattle.bihash_plan.specs.Blocks.{HasPairAt, IsFree, IsLawfulBlock, IsNew, pairs}
use Rattle.bihash_plan.proofs.Pairs.{is_taken-free, is_taken-pair, pairs-append}
use Rattle.bihash_plan.proofs.Places.{free_inside, free_value_at, get_after}

-- the pair is at its place, and each other one where it stood
pub pair_after_put : {K : Type 0} (places : List (K × ℕ)) (i : ℕ) (pair : K × ℕ) (key : K) (value j : ℕ)
    → i < length places → HasPairAt (set places i pair) key value j
    → ((j ≡ i) × (key ≡ pair.0)) ⊎ HasPairAt places key value j
pair_after_put places i pair key value j inside h = elim (get_after places i j pair (key, value) inside h.at) [
  | inl here ↦ inl (here.0, ap (λ p. p.0) (sym here.1))
  | inr there ↦ inr (record { at = there.1; taken = h.taken })
]

-- what is free afterwards was so before
pub free_after_put : {K : Type 0} (places : List (K × ℕ)) (i : ℕ) (pair : K × ℕ) (j : ℕ)
    → i < length places → pair.1 ≢ free_mark → IsFree (set places i pair) j → (j ≢ i) × IsFree places j
free_after_put places i pair j inside taken h = elim (get_after places i j pair (h.key, free_mark) inside h.at) [
  | inl here ↦ absurd (taken (ap (λ p. p.1) here.1))
  | inr there ↦ (there.0, record { key = h.key; at = there.1 })
]

pub lawful_put : {K : Type 0} (paging : Paging K) (log2 : ℕ) (linear : Bool) (places : List (K × ℕ)) (i : ℕ)
    (pair : K × ℕ)
    → IsLawfulBlock paging log2 linear places → i < length places
    → IsOpen linear (page_of paging log2 pair.0) i → IsNew places pair.0
    → IsLawfulBlock paging log2 linear (set places i pair)
lawful_put paging log2 linear places i pair lawful inside reached new = record {
  sized = ⊎_elim (λ (none : length places ≡ 0). inl (length-set places i pair
      ∙ none)) (λ (whole : length places ≡ 4 * 2 ^ log2). inr (length-set places i pair ∙ whole)) lawful.sized;
  rule = lawful_with pair.0 i lawful.rule reached
      (λ v j had. absurd (new j (record { value = v; pair = had })))
      (λ key v j had. pair_after_put places i pair key v j inside had);
}

-- the block has the pair besides those that it had
pub pairs_put : {K : Type 0} (places : List (K × ℕ)) (i : ℕ) (pair : K × ℕ)
    → IsFree places i → pair.1 ≢ free_mark → IsPermutation (pair ∷ pairs places) (pairs (set places i pair))
pairs_put {K} places i pair vacant taken =
    let d : K × ℕ = (vacant.key, free_mark) in
    let inside : i < length places = free_inside vacant in
    let front : List (K × ℕ) = take i places in
    let back : List (K × ℕ) = drop (suc i) places in
    let old : K × ℕ = get_or places i d in
    let was : pairs places ≡ pairs front ++ pairs back =
    ap pairs (sym (set-get_or places i d) ∙ set_split places i old inside)
    ∙ pairs-append front (old ∷ back)
    ∙ ap (λ t. pairs front ++ cond t (old ∷ pairs back) (pairs back))
    (is_taken-free old (free_value_at d vacant)) in
    let now : pairs (set places i pair) ≡ pairs front ++ pair ∷ pairs back =
    ap pairs (set_split places i pair inside)
    ∙ pairs-append front (pair ∷ back)
    ∙ ap (λ t. pairs front ++ cond t (pair ∷ pairs back) (pairs back)) (is_taken-pair pair taken) in
    rw (was, now) (IsPermutation-sym _ _ (IsPermutation-middle (pairs front) pair (pairs back)))
