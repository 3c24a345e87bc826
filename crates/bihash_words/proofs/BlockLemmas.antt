-- Lemmas on lawful blocks: which places are open to a key, and a block that is read otherwise, or has one pair more
-- or less.
use Rattle.std.proofs.Common.{◌≡◌, ◌≢◌, ◌≤◌, ◌⊎◌, ◌∙◌, ◌/◌, ℕ, Bool, true, false, List, Some, None, ap, sym, subst, refl, inl, inr}
use Rattle.std.specs.FinMap.{get, insert, remove}
use Rattle.bihash_words.specs.Blocks.{AreLawfulPlaces, HoldsMap, IsOpen}
use Rattle.bihash_words.specs.Maps.{Pairs}
use Rattle.bihash_words.specs.Pages.{Paging, page_of}
use Rattle.bihash_words.proofs.MapValues.{get_left, get_other, get_removed, get_set, same_or_other}

-- a place that is open where the block isn't linear is one of the page
pub in_page : (linear : Bool) (page i : ℕ) → linear ≡ false → IsOpen linear page i → i / 4 ≡ page
in_page linear page i plain reached = subst (λ (l : Bool). IsOpen l page i) plain reached

pub open_of_page : (linear : Bool) (page i : ℕ) → (linear ≡ false → i / 4 ≡ page) → IsOpen linear page i
open_of_page true page i inside = tt
open_of_page false page i inside = inside refl

-- places that are read otherwise, where each pair names the same page
pub lawful_as : {K L : Type 0} {paging : Paging K} {other : Paging L} {log2 : ℕ} {linear : Bool}
    {Was : K → ℕ → ℕ → Type 0} {Now : L → ℕ → ℕ → Type 0} (f : L → K)
    → AreLawfulPlaces paging log2 linear Was → log2 ≤ other.max_log2
    → ((key : L) (v i : ℕ) → Now key v i → Was (f key) v i × (page_of paging log2 (f key) ≡ page_of other log2 key))
    → AreLawfulPlaces other log2 linear Now
lawful_as {linear = linear} f lawful small same = record {
  small = small;
  once = λ key v w i j a b. lawful.once (f key) v w i j (same key v i a).0 (same key w j b).0;
  paged = λ key v i a. subst (λ (page : ℕ). IsOpen linear page i) (same key v i a).1
      (lawful.paged (f key) v i (same key v i a).0);
}

-- the pair of a key is put at a place that is open to it
pub lawful_with : {K : Type 0} {paging : Paging K} {log2 : ℕ} {linear : Bool} {Was Now : K → ℕ → ℕ → Type 0}
    (key : K) (i : ℕ)
    → AreLawfulPlaces paging log2 linear Was → IsOpen linear (page_of paging log2 key) i
    → ((v j : ℕ) → Was key v j → j ≡ i)
    → ((k : K) (v j : ℕ) → Now k v j → ((j ≡ i) × (k ≡ key)) ⊎ Was k v j)
    → AreLawfulPlaces paging log2 linear Now
lawful_with {K = K} {paging = paging} {log2 = log2} {linear = linear} {Was = Was} {Now = Now} key i lawful reached only told = record {
  small = lawful.small;
  once = λ k v w j n a b. elim (told k v j a) [
    | inl here ↦ here.0 ∙ sym (at_place k w n here.1 b)
    | inr had ↦ elim (told k w n b) [
      | inl there ↦ at_place k v j there.1 a ∙ sym there.0
      | inr has ↦ lawful.once k v w j n had has
    ]
  ];
  paged = λ k v j a. elim (told k v j a) [
    | inl here ↦ subst (λ (x : ℕ × K). IsOpen linear (page_of paging log2 x.1) x.0) (λ n. (sym here.0 n, sym here.1 n)) reached
    | inr had ↦ lawful.paged k v j had
  ];
}
  where
    at_place : (k : K) (v j : ℕ) → k ≡ key → Now k v j → j ≡ i
    at_place k v j same a = elim (told k v j a) [
      | inl here ↦ here.0
      | inr had ↦ only v j (subst (λ (x : K). Was x v j) same had)
    ]

-- the pairs of a map with another value of a key
pub holds_with : {K : Type 0} {words_of : K → List ℕ} {Now : K → ℕ → ℕ → Type 0} (m : Pairs) (words : List ℕ)
    (value : ℕ)
    → ((k : K) (v i : ℕ) → Now k v i
    → ((words_of k ≡ words) × (value ≡ v)) ⊎ ((words_of k ≢ words) × (get m (words_of k) ≡ Some v)))
    → ((k : K) → words_of k ≡ words → (i : ℕ) × Now k value i)
    → ((k : K) (v : ℕ) → words_of k ≢ words → get m (words_of k) ≡ Some v → (i : ℕ) × Now k v i)
    → HoldsMap words_of Now (insert m words value)
holds_with {words_of = words_of} {Now = Now} m words value told put stays = record {
  mapped = λ k v i a. elim (told k v i a) [
    | inl here ↦ ap (get (insert m words value)) here.0 ∙ get_set m words value ∙ ap Some here.1
    | inr had ↦ get_other m words value (words_of k) had.0 ∙ had.1
  ];
  found = λ k v is. elim (same_or_other (words_of k) words) [
    | inl same ↦
        let both : Some value ≡ Some v = sym (get_set m words value) ∙ ap (get (insert m words value)) (sym same) ∙ is in
        let e : value ≡ v = cc in
        subst (λ (x : ℕ). (i : ℕ) × Now k x i) e (put k same)
    | inr differ ↦ stays k v differ (sym (get_other m words value (words_of k) differ) ∙ is)
  ];
}

-- the pairs of a map without a key
pub holds_without : {K : Type 0} {words_of : K → List ℕ} {Now : K → ℕ → ℕ → Type 0} (m : Pairs) (words : List ℕ)
    → ((k : K) (v i : ℕ) → Now k v i → (words_of k ≢ words) × (get m (words_of k) ≡ Some v))
    → ((k : K) (v : ℕ) → words_of k ≢ words → get m (words_of k) ≡ Some v → (i : ℕ) × Now k v i)
    → HoldsMap words_of Now (remove m words)
holds_without {words_of = words_of} m words told stays = record {
  mapped = λ k v i a. let had = told k v i a in get_left m words (words_of k) had.0 ∙ had.1;
  found = λ k v is. elim (same_or_other (words_of k) words) [
    | inl same ↦ absurd (let clash : None ≡ Some v = sym (get_removed m words) ∙ ap (get (remove m words)) (sym same) ∙ is in
        let c : ⊥ = cc in c)
    | inr differ ↦ stays k v differ (sym (get_left m words (words_of k) differ) ∙ is)
  ];
}
