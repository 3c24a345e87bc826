-- The pairs of a block as a list, and the places at which they stand.
use Rattle.std.proofs.Common.{◌≡◌, ◌∙◌, ◌<◌, ◌++◌, ◌∷◌, ℕ, true, List, Some, ap, arith, cond, drop, length, refl, set, subst, suc, sym, take}
use Rattle.std.specs.List.{Contains}
use Rattle.std.proofs.lemmas.Bool.{true≢false}
use Rattle.std.proofs.lemmas.List.{set-get_or, set_split}
use Rattle.std.proofs.lemmas.List.Elements.{All-contains, All-contains_itself, All-filter, Contains-append_right, filter_passes}
use Rattle.std.proofs.lemmas.Option.{get_or_from_slice_get, slice_get-get_or, slice_get_within}
use Rattle.bihash_plan.proofs.Pairs.{is_taken-free, is_taken-pair, pairs-append}
use Rattle.bihash_plan.specs.Blocks.{HasPairAt, is_taken, pairs}

-- a pair that is at a place is one of the pairs
pub contains_pair : {K : Type 0} (places : List (K × ℕ)) (key : K) (value i : ℕ) → HasPairAt places key value i
    → Contains (pairs places) (key, value)
contains_pair {K} places key value i h =
    let pair : K × ℕ = (key, value) in
    let inside : i < length places = slice_get_within places i pair h.at in
    let same : set places i pair ≡ places = ap (set places i) (sym (get_or_from_slice_get places i pair pair h.at))
    ∙ set-get_or places i pair in
    let whole : pairs places ≡ pairs (take i places) ++ pair ∷ pairs (drop (suc i) places) =
    ap pairs (sym same ∙ set_split places i pair inside)
    ∙ pairs-append (take i places) (pair ∷ drop (suc i) places)
    ∙ ap (λ t. pairs (take i places) ++ cond t (pair ∷ pairs (drop (suc i) places)) (pairs (drop (suc i) places)))
    (is_taken-pair pair h.taken) in
    subst (λ ps. Contains ps pair) (sym whole)
    (Contains-append_right (pairs (take i places)) (pair ∷ pairs (drop (suc i) places)) pair (0, omega arith, refl))

-- each of the pairs is at a place
pub stands_at : {K : Type 0} (places : List (K × ℕ)) (key : K) (value : ℕ)
    → Contains (pairs places) (key, value) → (i : ℕ) × HasPairAt places key value i
stands_at {K} places key value there =
    let pair : K × ℕ = (key, value) in
    let at : Contains places pair = All-contains (Contains places) (pairs places) pair
    (All-filter is_taken (Contains places) places (All-contains_itself places)) there in
    let taken : is_taken pair ≡ true = All-contains (λ p. is_taken p ≡ true) (pairs places) pair
    (filter_passes is_taken places) there in (
      at.0,
      record {
        at = slice_get-get_or places at.0 pair at.1 ∙ ap Some at.2;
        taken = λ e. true≢false (sym taken ∙ is_taken-free pair e);
      },
    )
