-- Lemmas on which larger blocks have room for the pairs of a full page and one more key.
use Rattle.std.proofs.Common.{◌≡◌, ◌<◌, ◌≤◌, ◌+◌, ◌*◌, ◌/◌, ◌^◌, ◌%◌, ℕ, Bool, true, false, cond, ◌==◌, ◌&&◌, List, ◌∷◌, length, get_or, arith, ap, refl, sym, ◌∙◌, ⊎_elim}
use Rattle.std.specs.Prelude.{count_by}
use Rattle.std.proofs.lemmas.Bool.{and_from, and_parts, both_ways, cases_eq, cond-true, cond-false, eq-eqb, eqb-true, false_from_ne_true, ne_eqb, not-true}
use Rattle.std.proofs.lemmas.List.Sums.{sum_by-cons}
use Rattle.std.proofs.lemmas.Option.{get_or_from_slice_get, slice_get-get_or}
use Rattle.bihash_words.specs.Pages.{Paging, page_of}
use Rattle.bihash_plan.specs.Blocks.{HasKey, IsCrowded, IsLawfulBlock, is_taken, NamesPage}
use Rattle.bihash_plan.specs.Plans.{Fits, keys_of}
use Rattle.bihash_plan.proofs.Counts.{count_by-page-le, count_by-page-missing, le-count_by-from}
use Rattle.bihash_plan.proofs.PageLemmas.{page_of-lt, page_of-mod}
use Rattle.bihash_plan.proofs.Pairs.{count_by-keys_of, is_taken-pair}
use Rattle.bihash_plan.proofs.Places.{free_at}

-- a place that holds a pair whose key names the page
abbrev taken_in : {K : Type 0} → Paging K → ℕ → ℕ → K × ℕ → Bool
taken_in paging size page place = is_taken place && (page_of paging size place.0 == page)

pub taken_key : {K : Type 0} (places : List (K × ℕ)) (i : ℕ) (d : K × ℕ)
    → i < length places → is_taken (get_or places i d) ≡ true → HasKey places (get_or places i d).0 i
taken_key places i d inside taken = record {
  value = (get_or places i d).1;
  pair = record {
    at = slice_get-get_or places i d inside;
    taken = λ e. both_ways _ (not-true _ taken) (eq-eqb _ _ e);
  };
}

-- the keys that name a page, one more key among them
count_with : {K : Type 0} (paging : Paging K) (size page : ℕ) (key : K) (places : List (K × ℕ))
    → count_by (λ k. page_of paging size k == page) (key ∷ keys_of places)
    ≡ cond (page_of paging size key == page) 1 0 + count_by (taken_in paging size page) places
count_with paging size page key places =
    sum_by-cons (λ k. cond (page_of paging size k == page) 1 0) key (keys_of places)
    ∙ ap (λ n. cond (page_of paging size key == page) 1 0 + n)
    (count_by-keys_of (λ k. page_of paging size k == page) places)

-- the pairs that name a page of the larger block stand in one page of the block
in_one_page : {K : Type 0} (paging : Paging K) (log2 size : ℕ) (places : List (K × ℕ)) (page : ℕ)
    → IsLawfulBlock paging log2 false places → log2 ≤ size → (d : K × ℕ) (i : ℕ) → i < length places
    → taken_in paging size page (get_or places i d) ≡ true → i / 4 ≡ page % 2 ^ log2
in_one_page paging log2 size places page lawful larger d i inside passes =
    let parts = and_parts _ _ passes in
    lawful.rule.paged _ _ i (taken_key places i d inside parts.0).pair
    ∙ sym (page_of-mod paging log2 size (get_or places i d).0 larger)
    ∙ ap (λ n. n % 2 ^ log2) (eqb-true _ _ parts.1)

page_named : {K : Type 0} (paging : Paging K) (size page : ℕ) (places : List (K × ℕ)) (i : ℕ) (d : K × ℕ)
    → NamesPage paging size page places i → page_of paging size (get_or places i d).0 ≡ page
page_named paging size page places i d h = ap (λ place. page_of paging size place.0)
    (get_or_from_slice_get places i _ d h.at) ∙ h.named

-- where one key of a full page goes to another page than the new key, there is room
pub fits_beside : {K : Type 0} (paging : Paging K) (log2 size : ℕ) (places : List (K × ℕ)) (key : K) (i : ℕ)
    → IsLawfulBlock paging log2 false places → log2 ≤ size → i < length places
    → i / 4 ≡ page_of paging log2 key → (NamesPage paging size (page_of paging size key) places i → ⊥)
    → Fits paging size (key ∷ keys_of places)
fits_beside {K} paging log2 size places key i lawful larger inside here other = record { few = few }
  where
    d : K × ℕ
    d = (key, 0)

    one : ℕ
    one = 1

    fails : (page : ℕ)
        → page_of paging size key ≡ page → taken_in paging size page (get_or places i d) ≡ false
    fails page same = false_from_ne_true _ (λ passes. other (record {
      key = (get_or places i d).0;
      value = (get_or places i d).1;
      at = slice_get-get_or places i d inside;
      named = eqb-true _ _ (and_parts _ _ passes).1 ∙ sym same;
    }))

    few : (page : ℕ) → count_by (λ k. page_of paging size k == page) (key ∷ keys_of places) ≤ 4
    few page = ⊎_elim
        (λ (same : page_of paging size key ≡ page).
        let there : i / 4 ≡ page % 2 ^ log2 = here ∙ sym (page_of-mod paging log2 size key larger)
        ∙ ap (λ n. n % 2 ^ log2) same in
        let hit : cond (page_of paging size key == page) one 0 ≡ one = cond-true _ one 0 (eq-eqb _ _ same) in
        omega (
          arith,
          count_with paging size page key places,
          hit,
          count_by-page-missing (taken_in paging size page) places (page % 2 ^ log2) d i
              (in_one_page paging log2 size places page lawful larger d) there inside (fails page same),
        ))
        (λ (apart : page_of paging size key ≡ page → ⊥).
        let missed : cond (page_of paging size key == page) one 0 ≡ 0 = cond-false _ one 0 (ne_eqb _ _ apart) in
        omega (
          arith,
          count_with paging size page key places,
          missed,
          count_by-page-le (taken_in paging size page) places (page % 2 ^ log2) d
              (in_one_page paging log2 size places page lawful larger d),
        ))
        (cases_eq (page_of paging size key) page)

-- where all of them go to the new key's page, there is none
pub overflows : {K : Type 0} (paging : Paging K) (log2 size : ℕ) (places : List (K × ℕ)) (key : K)
    → length places ≡ 4 * 2 ^ log2 → IsCrowded false (page_of paging log2 key) places
    → ((i : ℕ) → i < length places → i / 4 ≡ page_of paging log2 key
    → NamesPage paging size (page_of paging size key) places i)
    → Fits paging size (key ∷ keys_of places) → ⊥
overflows {K} paging log2 size places key sized crowded named fits =
    let d : K × ℕ = (key, 0) in
    let one : ℕ = 1 in
    let page : ℕ = page_of paging size key in
    let from : ℕ = 4 * page_of paging log2 key in
    let hit : cond (page_of paging size key == page) one 0 ≡ one = cond-true _ one 0 (eq-eqb _ _ refl) in
    let four = le-count_by-from (taken_in paging size page) places from 4 d (omega (
      arith,
      page_of-lt paging log2 key,
      sized,
    ))
    (λ i low high.
    let inside : i < length places = omega (arith, page_of-lt paging log2 key, sized) in
    let here : i / 4 ≡ page_of paging log2 key = omega arith in
    and_from _ _ (is_taken-pair (get_or places i d) (λ e. crowded i here (free_at places i d inside e)))
    (eq-eqb _ _ (page_named paging size page places i d (named i inside here)))) in
    omega (arith, fits.few page, count_with paging size page key places, hit, four)
