-- Lemmas on what is at a place of a block.
use Rattle.std.proofs.Common.{◌≡◌, ◌≢◌, ◌<◌, ◌*◌, ◌^◌, ◌⊎◌, ℕ, List, Some, length, get_or, set, arith, refl, ap, sym, ◌∙◌, inl, inr, ⊎_elim}
use Rattle.std.specs.Prelude.{slice_get}
use Rattle.std.proofs.lemmas.Bool.{cases_eq}
use Rattle.std.proofs.lemmas.List.{get_or-set_other, get_or-set_same, length-set}
use Rattle.std.proofs.lemmas.Option.{get_or_from_slice_get, slice_get-get_or, slice_get_read, slice_get_within}
use Rattle.bihash_words.specs.Patches.{free_mark}
use Rattle.bihash_plan.specs.Blocks.{HasKey, HasPairAt, IsFree, IsSized}

-- a place that was read has a pair with the key, where it shows the key and no free place's value
pub has_key_read : {K : Type 0} (places : List (K × ℕ)) (key : K) (i : ℕ) (place : K × ℕ)
    → i < length places → place ≡ get_or places i place → place.1 ≢ free_mark → place.0 ≡ key
    → HasKey places key i
has_key_read places key i place inside is taken same = record {
  value = place.1;
  pair = record {
    at = slice_get_read places (length places) i place refl inside is ∙ ap (λ k. Some (k, place.1)) same;
    taken = taken;
  };
}

pub pair_read : {K : Type 0} {places : List (K × ℕ)} {key : K} {i : ℕ} (place : K × ℕ)
    → place ≡ get_or places i place → (h : HasKey places key i) → place ≡ (key, h.value)
pair_read {places = places} {i = i} place is h = is ∙ get_or_from_slice_get places i _ place h.pair.at

-- what is at a place afterwards was set or stood there
pub get_after : {X : Type 0} (xs : List X) (i j : ℕ) (x y : X)
    → i < length xs → slice_get (set xs i x) j ≡ Some y
    → ((j ≡ i) × (x ≡ y)) ⊎ ((j ≢ i) × (slice_get xs j ≡ Some y))
get_after xs i j x y inside at =
    let read : get_or (set xs i x) j y ≡ y = get_or_from_slice_get (set xs i x) j y y at in
    ⊎_elim
    (λ (here : j ≡ i). inl (
      here,
      sym (get_or-set_same xs i x y inside)
          ∙ ap (λ n. get_or (set xs i x) n y) (sym here) ∙ read,
    ))
    (λ (there : j ≢ i). inr (
      there,
      slice_get-get_or xs j y (omega (arith, length-set xs i x, slice_get_within (set xs i x) j y at))
          ∙ ap Some (sym (get_or-set_other xs i j x y there) ∙ read),
    ))
    (cases_eq j i)

-- a bucket that has a place has a block of four places a page
pub block_sized : {X : Type 0} (places : List X) (log2 : ℕ)
    → 0 < length places → IsSized log2 (length places) → length places ≡ 4 * 2 ^ log2
block_sized places log2 some sized = ⊎_elim
    (λ (none : length places ≡ 0). absurd (omega arith))
    (λ (whole : length places ≡ 4 * 2 ^ log2). whole)
    sized

pub pair_inside : {K : Type 0} {places : List (K × ℕ)} {key : K} {value i : ℕ}
    → HasPairAt places key value i → i < length places
pair_inside {places = places} {i = i} h = slice_get_within places i _ h.at

pub free_inside : {K : Type 0} {places : List (K × ℕ)} {i : ℕ} → IsFree places i → i < length places
free_inside {places = places} {i = i} h = slice_get_within places i _ h.at

-- a place is free where its value is a free place's
pub free_at : {K : Type 0} (places : List (K × ℕ)) (i : ℕ) (d : K × ℕ)
    → i < length places → (get_or places i d).1 ≡ free_mark → IsFree places i
free_at places i d inside is = record {
  key = (get_or places i d).0;
  at = slice_get-get_or places i d inside ∙ ap (λ v. Some ((get_or places i d).0, v)) is;
}

pub free_value_at : {K : Type 0} {places : List (K × ℕ)} {i : ℕ} (d : K × ℕ)
    → IsFree places i → (get_or places i d).1 ≡ free_mark
free_value_at {places = places} {i = i} d h = ap (λ place. place.1) (get_or_from_slice_get places i _ d h.at)
