-- Lemmas on how often the pages of a window are named.
use Rattle.std.proofs.Common.{◌≡◌, ◌≢◌, ◌<◌, ◌≤◌, ◌+◌, ◌-◌, ℕ, zero, cond, ◌==◌, List, [], ◌∷◌, ◌++◌, length, take, get_or, refl, sym, subst, arith, ⊎_elim, ◌^◌}
use Rattle.std.specs.Prelude.{count_by, replicate}
use Rattle.std.proofs.lemmas.Bool.{cases_lt, cond-true, eq-eqb, ne_eqb}
use Rattle.std.proofs.lemmas.List.{get_or-replicate, take_all}
use Rattle.std.proofs.lemmas.List.Sums.{count_by-le-length, sum_by-cons, sum_by_push}
use Rattle.bihash_words.specs.Patches.{free_mark}
use Rattle.bihash_words.specs.Pages.{Paging, page_of}
use Rattle.bihash_plan.specs.Plans.{Fits, keys_of}
use Rattle.bihash_plan.proofs.Pairs.{count_by-keys_of-take, count_by-none, keys_more}
use Rattle.bihash_plan.proofs.PageLemmas.{page_of-lt}
use Rattle.bihash_plan.specs.inner.Tallies.{FitsWindow, IsTally}

-- what is counted for a page of the window
pub tally_at : {K : Type 0} {paging : Paging K} {log2 first : ℕ} {keys : List K} {counts : List ℕ}
    → IsTally paging log2 first keys counts → (page : ℕ) → first ≤ page → page < first + 64
    → get_or counts (page - first) 0 ≡ count_by (λ key. page_of paging log2 key == page) keys
tally_at {paging = paging} {log2 = log2} {first = first} {keys = keys} {counts = counts} tally page low high =
    let same : first + (page - first) ≡ page = omega arith in
    let P : ℕ
    → Type 0 = λ q. get_or counts (page - first) 0 ≡ count_by (λ key. page_of paging log2 key == q) keys in
    subst P same (tally.each (page - first) (omega arith))

pub tally_fits : {K : Type 0} {paging : Paging K} {log2 first : ℕ} {keys : List K} {counts : List ℕ}
    → IsTally paging log2 first keys counts → FitsWindow paging log2 first keys
tally_fits {first = first} tally = record {
  few = λ page low high. omega (arith, tally_at tally page low high, tally.few (page - first) (omega arith));
}

-- one key too many for its page
pub tally_full : {K : Type 0} {paging : Paging K} {log2 first : ℕ} {keys : List K} {counts : List ℕ}
    (key : K) (page : ℕ)
    → IsTally paging log2 first keys counts → page ≡ page_of paging log2 key → first ≤ page
    → page - first < 64 → 4 ≤ get_or counts (page - first) 0
    → FitsWindow paging log2 first (keys ++ key ∷ []) → ⊥
tally_full {paging = paging} {log2 = log2} {keys = keys} key page tally is low inside four fits =
    let one : ℕ = 1 in
    let hit : cond (page_of paging log2 key == page) one 0 ≡ one = cond-true _ one 0 (eq-eqb _ _ (sym is)) in
    omega (
      arith,
      fits.few page low (omega arith),
      tally_at tally page low (omega arith),
      sum_by_push (λ k. cond (page_of paging log2 k == page) 1 0) keys key,
      hit,
    )

pub tally_none : {K : Type 0} (paging : Paging K) (log2 first : ℕ)
    → IsTally paging log2 first [] (replicate 64 0)
tally_none paging log2 first = record {
  long = refl;
  each = λ p inside. zeros p inside;
  few = λ p inside. omega (arith, zeros p inside);
}
  where
    zeros : (p : ℕ) → p < 64 → get_or (replicate 64 0) p 0 ≡ zero
    zeros p inside = get_or-replicate {A = ℕ} 64 p 0 0 inside

-- a window of one key has room for it
pub one_fits : {K : Type 0} (paging : Paging K) (log2 first : ℕ) (key : K)
    → FitsWindow paging log2 first (key ∷ [])
one_fits paging log2 first key = record {
  few = λ page low high. omega (
    arith,
    count_by-le-length (λ k. page_of paging log2 k == page) (key ∷ []),
  );
}

-- the keys of the first places fit where all do
pub fits_so_far : {K : Type 0} {paging : Paging K} {log2 first : ℕ} {key : K} (places : List (K × ℕ))
    (i : ℕ)
    → FitsWindow paging log2 first (key ∷ keys_of places)
    → FitsWindow paging log2 first (key ∷ keys_of (take i places))
fits_so_far {paging = paging} {log2 = log2} {key = key} places i fits = record {
  few = λ page low high.
      let f : _ → ℕ = λ k. cond (page_of paging log2 k == page) 1 0 in
      omega (
        arith,
        fits.few page low high,
        sum_by-cons f key (keys_of places),
        sum_by-cons f key (keys_of (take i places)),
        count_by-keys_of-take (λ k. page_of paging log2 k == page) places i,
      );
}

-- one more place that has a pair
pub tally_more : {K : Type 0} {paging : Paging K} {log2 first : ℕ} {key : K} {counts : List ℕ}
    (places : List (K × ℕ)) (i : ℕ) (place : K × ℕ)
    → i < length places → place ≡ get_or places i place → place.1 ≢ free_mark
    → IsTally paging log2 first (key ∷ keys_of (take i places) ++ place.0 ∷ []) counts
    → IsTally paging log2 first (key ∷ keys_of (take (i + 1) places)) counts
tally_more {paging = paging} {log2 = log2} {first = first} {key = key} {counts = counts} places i place inside is taken tally =
    let P : List _ → Type 0 = λ keys. IsTally paging log2 first (key ∷ keys) counts in
    subst P (sym (keys_more places i place inside is taken)) tally

-- one more place whose pair does not fit
pub window_full : {K : Type 0} {paging : Paging K} {log2 first : ℕ} {key : K} (places : List (K × ℕ))
    (i : ℕ) (place : K × ℕ)
    → i < length places → place ≡ get_or places i place → place.1 ≢ free_mark
    → (FitsWindow paging log2 first (key ∷ keys_of (take i places) ++ place.0 ∷ []) → ⊥)
    → FitsWindow paging log2 first (key ∷ keys_of places) → ⊥
window_full {paging = paging} {log2 = log2} {first = first} {key = key} places i place inside is taken refused fits =
    let P : List _ → Type 0 = λ keys. FitsWindow paging log2 first (key ∷ keys) in
    refused (subst P (keys_more places i place inside is taken) (fits_so_far places (i + 1) fits))

-- all places
pub tally_all : {K : Type 0} {paging : Paging K} {log2 first : ℕ} {key : K} {counts : List ℕ}
    (places : List (K × ℕ)) (i : ℕ)
    → length places ≤ i → IsTally paging log2 first (key ∷ keys_of (take i places)) counts
    → FitsWindow paging log2 first (key ∷ keys_of places)
tally_all {paging = paging} {log2 = log2} {first = first} {key = key} {counts = counts} places i past tally =
    let P : List _ → Type 0 = λ some. IsTally paging log2 first (key ∷ keys_of some) counts in
    tally_fits (subst P (take_all i places past) tally)

-- the pages of a block are those of its windows
pub fits_from_windows : {K : Type 0} (paging : Paging K) (log2 last : ℕ) (keys : List K)
    → 2 ^ log2 ≤ last
    → ((page : ℕ) → page < last → count_by (λ key. page_of paging log2 key == page) keys ≤ 4)
    → Fits paging log2 keys
fits_from_windows paging log2 last keys enough few = record { few = each }
  where
    each : (page : ℕ) → count_by (λ key. page_of paging log2 key == page) keys ≤ 4
    each page = ⊎_elim
        (λ (low : page < last). few page low)
        (λ (high : last ≤ page). omega (
          arith,
          count_by-none (λ key. page_of paging log2 key == page)
              (λ key. ne_eqb _ _ (λ same. absurd (omega (
                arith,
                page_of-lt paging log2 key,
                same,
                enough,
                high,
              )))) keys,
        ))
        (cases_lt page last)
