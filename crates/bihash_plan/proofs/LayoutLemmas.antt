-- Lemmas on laying pairs out: what is in the block so far, and that there is a place for each.
use Rattle.std.proofs.Common.{◌≡◌, ◌≢◌, ◌<◌, ◌≤◌, ◌+◌, ◌*◌, ◌/◌, ◌^◌, ◌==◌, ◌&&◌, ℕ, Bool, true, false, cond, List, [], ◌∷◌, ◌++◌, length, get_or, set, take, drop, map, arith, ap, subst, refl, sym, ◌∙◌, inl, inr, ⊎_elim, add_comm}
use Rattle.std.specs.Prelude.{count_by, replicate}
use Rattle.std.specs.List.{sum_by}
use Rattle.std.specs.List.Sorted.{IsPermutation}
use Rattle.std.proofs.lemmas.Bool.{and_from, both_ways, cond-true, eq-eqb, false≢true, true≢false}
use Rattle.std.proofs.lemmas.Grind.{pow_more}
use Rattle.std.proofs.lemmas.List.{length-append, take-append-drop, take_all}
use Rattle.std.proofs.lemmas.List.Elements.{All-replicate, All-same, filter_passes}
use Rattle.std.proofs.lemmas.List.Sorted.{IsPermutation-push_more, IsPermutation-refl, length_permutation, sum_by-IsPermutation}
use Rattle.std.proofs.lemmas.List.Sums.{count_by-le-length, length-filter, sum_by-append, sum_by-cons, sum_by_push}
use Rattle.std.proofs.lemmas.Nat.{pow_pos}
use Rattle.std.proofs.lemmas.Option.{get_or_from_slice_get}
use Rattle.bihash_words.specs.Patches.{free_mark}
use Rattle.bihash_words.specs.declared.block_size.BlockSize.{BlockSize}
use Rattle.bihash_words.specs.Pages.{Paging, page_of}
use Rattle.bihash_plan.specs.Blocks.{HasKey, HasPairAt, IsCrowded, IsFirstFree, IsLawfulBlock, IsNew, is_taken, pairs}
use Rattle.bihash_plan.specs.Layouts.{IsLaid, IsNamed, IsRehash, IsTakenBefore}
use Rattle.bihash_plan.specs.Plans.{Fits, IsGrowth, IsLinearSize, keys_of}
use Rattle.bihash_plan.specs.inner.LaidPairs.{AllFree, IsLaidSoFar, MayBeLaid, Suits}
use Rattle.bihash_plan.proofs.Counts.{le-count_by-from}
use Rattle.bihash_plan.proofs.Orders.{AllTaken, laid_out_none, laid_out_put, none_taken}
use Rattle.bihash_plan.proofs.PageLemmas.{page_of-lt}
use Rattle.bihash_plan.proofs.Pairs.{count_by-filter, count_by-map, is_taken-pair, pairs-append, pairs_more, pairs_same}
use Rattle.bihash_plan.proofs.Places.{block_sized, free_at, free_inside, has_key_read, pair_inside}
use Rattle.bihash_plan.proofs.PlanLemmas.{all_taken, one_free}
use Rattle.bihash_plan.proofs.Puts.{lawful_put, pair_after_put, pairs_put}
use Rattle.bihash_plan.proofs.Room.{taken_key}

pub put_laid : {K : Type 0} (paging : Paging K) (log2 : ℕ) (linear : Bool) (done out : List (K × ℕ))
    (pair : K × ℕ) (i : ℕ)
    → IsLaid paging log2 linear done out → IsFirstFree linear (page_of paging log2 pair.0) out i
    → IsNew out pair.0 → pair.1 ≢ free_mark → AllTaken done
    → IsLaid paging log2 linear (done ++ pair ∷ []) (set out i pair)
put_laid paging log2 linear done out pair i laid first new taken all_done = record {
  lawful = lawful_put paging log2 linear out i pair laid.lawful (free_inside first.vacant) first.reached new;
  same_pairs = IsPermutation-push_more done (pairs out) (pairs (set out i pair)) pair laid.same_pairs
      (pairs_put out i pair first.vacant taken);
  in_order = laid_out_put paging log2 linear done out i pair all_done laid.in_order first;
}

-- a page that is full holds four pairs that name it
full_page : {K : Type 0} (paging : Paging K) (log2 : ℕ) (out : List (K × ℕ)) (key : K)
    → IsLawfulBlock paging log2 false out → length out ≡ 4 * 2 ^ log2
    → IsCrowded false (page_of paging log2 key) out
    → 4 ≤ count_by (λ pair. page_of paging log2 pair.0 == page_of paging log2 key) (pairs out)
full_page {K} paging log2 out key lawful sized crowded =
    let d : K × ℕ = (key, 0) in
    let page : ℕ = page_of paging log2 key in
    let names : K × ℕ → Bool = λ pair. page_of paging log2 pair.0 == page in
    omega (
      arith,
      count_by-filter is_taken names out,
      le-count_by-from (λ place. is_taken place && names place) out (4 * page) 4 d (omega (
        arith,
        page_of-lt paging log2 key,
        sized,
      ))
          (λ i low high.
          let inside : i < length out = omega (arith, page_of-lt paging log2 key, sized) in
          let here : i / 4 ≡ page = omega arith in
          let taken = is_taken-pair (get_or out i d) (λ e. crowded i here (free_at out i d inside e)) in
          and_from _ _ taken
          (eq-eqb _ _ (sym (lawful.rule.paged _ _ i (taken_key out i d inside taken).pair) ∙ here))),
    )

-- so there is a free place for each pair
pub not_crowded : {K : Type 0} (paging : Paging K) (log2 : ℕ) (linear : Bool) (done out : List (K × ℕ))
    (pair : K × ℕ)
    → IsLaid paging log2 linear done out → length out ≡ 4 * 2 ^ log2
    → Suits paging log2 linear (done ++ pair ∷ []) → IsCrowded linear (page_of paging log2 pair.0) out → ⊥
not_crowded {K} paging log2 false done out pair laid sized suits crowded =
    let page : ℕ = page_of paging log2 pair.0 in
    let one : ℕ = 1 in
    let f : K × ℕ → ℕ = λ p. cond (page_of paging log2 p.0 == page) 1 0 in
    let hit : cond (page == page) one 0 ≡ one = cond-true _ one 0 (eq-eqb page page refl) in
    omega (
      arith,
      suits.in_pages refl page,
      sum_by_push f done pair,
      hit,
      sum_by-IsPermutation f done (pairs out) laid.same_pairs,
      full_page paging log2 out pair.0 laid.lawful sized crowded,
    )
not_crowded {K} paging log2 true done out pair laid sized suits crowded =
    omega (
      arith,
      suits.in_all refl,
      length-append done (pair ∷ []),
      length_permutation done (pairs out) laid.same_pairs,
      all_taken out pair (λ i. crowded i tt),
      sized,
    )

-- the pairs of the first places are no more than all pairs
pub suits_so_far : {K : Type 0} (paging : Paging K) (log2 : ℕ) (linear : Bool) (places : List (K × ℕ)) (i : ℕ)
    → Suits paging log2 linear (pairs places) → Suits paging log2 linear (pairs (take i places))
suits_so_far {K} paging log2 linear places i suits =
    let whole : pairs places ≡ pairs (take i places) ++ pairs (drop i places) =
    ap pairs (sym (take-append-drop i places)) ∙ pairs-append (take i places) (drop i places) in
    record {
      in_pages = λ plain page.
          let f : K × ℕ → ℕ = λ p. cond (page_of paging log2 p.0 == page) 1 0 in
          omega (
            arith,
            suits.in_pages plain page,
            ap (sum_by f) whole,
            sum_by-append f (pairs (take i places)) (pairs (drop i places)),
          );
      in_all = λ e. omega (
        arith,
        suits.in_all e,
        ap length whole,
        length-append (pairs (take i places)) (pairs (drop i places)),
      );
    }

-- and so are those without a new one
suits_without : {K : Type 0} (paging : Paging K) (log2 : ℕ) (linear : Bool) (ps : List (K × ℕ)) (new : K × ℕ)
    → Suits paging log2 linear (ps ++ new ∷ []) → Suits paging log2 linear ps
suits_without {K} paging log2 linear ps new suits = record {
  in_pages = λ plain page.
      let f : K × ℕ → ℕ = λ p. cond (page_of paging log2 p.0 == page) 1 0 in
      omega (arith, suits.in_pages plain page, sum_by_push f ps new);
  in_all = λ e. omega (arith, suits.in_all e, length-append ps (new ∷ []));
}

-- a count of a list with one more element at its end, or at its front
count_last : {X Y : Type 0} (f : X → Y) (test : Y → Bool) (xs : List X) (x : X)
    → count_by (λ y. test (f y)) (xs ++ x ∷ []) ≡ count_by test (f x ∷ map f xs)
count_last f test xs x =
    sum_by_push (λ y. cond (test (f y)) 1 0) xs x
    ∙ ap (λ n. n + cond (test (f x)) 1 0) (sym (count_by-map f test xs))
    ∙ add_comm _ _
    ∙ sym (sum_by-cons (λ y. cond (test y) 1 0) (f x) (map f xs))

-- the larger block that a plan names holds the pairs and the new one
growth_suits : {K : Type 0} (paging : Paging K) (was log2 : ℕ) (was_linear linear : Bool)
    (places : List (K × ℕ)) (key : K) (value : ℕ)
    → IsLawfulBlock paging was was_linear places → IsGrowth paging was was_linear places key log2 linear
    → Suits paging log2 linear (pairs places ++ (key, value) ∷ [])
growth_suits {K} paging was log2 was_linear linear [] key value lawful growth = record {
  in_pages = λ plain page. omega (
    arith,
    count_by-le-length (λ (pair : K × ℕ). page_of paging log2 pair.0 == page) ((key, value) ∷ []),
  );
  in_all = λ e. omega (arith, pow_pos log2);
}
growth_suits {K} paging was log2 was_linear false (place ∷ places) key value lawful growth = record {
  in_pages = λ plain page. omega (
    arith,
    count_last (λ (pair : K × ℕ). pair.0) (λ k. page_of paging log2 k == page) (pairs (place ∷ places))
        (key, value),
    growth.0.1.few page,
  );
  in_all = λ e. absurd (false≢true e);
}
growth_suits {K} paging was log2 was_linear true (place ∷ places) key value lawful growth = record {
  in_pages = λ plain. absurd (true≢false plain);
  in_all = λ e. omega (arith, length-append (pairs (place ∷ places)) ((key, value) ∷ []), room growth.1);
}
  where
    sized : length (place ∷ places) ≡ 4 * 2 ^ was
    sized = block_sized (place ∷ places) was (omega arith) lawful.sized

    fewer : length (pairs (place ∷ places)) ≤ length (place ∷ places)
    fewer = omega (arith, length-filter is_taken (place ∷ places), count_by-le-length is_taken (place ∷ places))

    room : IsLinearSize paging was was_linear (place ∷ places) log2 → length (pairs (place ∷ places)) + 1 ≤ 4 * 2 ^ log2
    room (inl e) = omega (arith, fewer, sized, pow_pos was, ap (λ n. 2 ^ n) e.0, pow_more 2 was)
    room (inr e) =
        let same : log2 ≡ was = omega (arith, e.0, e.1.0, lawful.rule.small) in
        omega (arith, one_free (place ∷ places) e.1.2.0 e.1.2.1, sized, ap (λ n. 2 ^ n) same)

pub named_suits : {K : Type 0} {paging : Paging K} {size : BlockSize} {places : List (K × ℕ)}
    {key : K} (value : ℕ)
    → IsNamed paging places key size → Suits paging size.log2 size.linear (pairs places ++ (key, value) ∷ [])
named_suits {paging = paging} {size = size} {places = places} {key = key} value named =
    growth_suits paging named.was.log2 size.log2 named.was.linear size.linear places key value named.lawful named.plan.2

-- a block that was cleared has no pair
pub cleared_free : {K : Type 0} (out : List (K × ℕ)) (n : ℕ) (key : K) → out ≡ replicate n (key, free_mark) → AllFree out
cleared_free out n key cleared = All-same (λ place. is_taken place ≡ false) out (replicate n (key, free_mark)) cleared
    (All-replicate (λ place. is_taken place ≡ false) n (key, free_mark) refl)

pub laid_none : {K : Type 0} (paging : Paging K) (log2 : ℕ) (linear : Bool) (old : List (K × ℕ))
    (out : List (K × ℕ))
    → log2 ≤ paging.max_log2 → length out ≡ 4 * 2 ^ log2 → AllFree out → IsLaidSoFar paging log2 linear old 0 0 out
laid_none {K} paging log2 linear old out small sized free_all = record {
  laid = record {
    lawful = record {
      sized = inr sized;
      rule = record {
        small = small;
        once = λ k v w i j h _. absurd (no_pair k v i h);
        paged = λ k v i h. absurd (no_pair k v i h);
      };
    };
    same_pairs = subst (IsPermutation {X = K × ℕ} []) (sym (none_taken out free_all)) (IsPermutation-refl []);
    in_order = laid_out_none paging log2 linear out free_all;
  };
  before = λ e i less. absurd (omega arith);
  from_old = λ k j h. absurd (no_pair k h.value j h.pair);
}
  where
    no_pair : (k : K) (v j : ℕ) → HasPairAt out k v j → ⊥
    no_pair k v j h =
        let d : K × ℕ = (k, v) in
        let read : get_or out j d ≡ d = get_or_from_slice_get out j (k, v) d h.at in
        both_ways _ (ap is_taken (sym read) ∙ free_all j d (pair_inside h)) (is_taken-pair d h.taken)

-- what `put` did, where there was a place
abbrev pub IsPlaced : {K : Type 0} → Paging K → ℕ → Bool → K × ℕ → List (K × ℕ) → List (K × ℕ) → ℕ → Type 0
IsPlaced paging log2 linear pair before after next =
    (i : ℕ)
    × IsFirstFree linear (page_of paging log2 pair.0) before i
    × (after ≡ set before i pair)
    × IsTakenBefore linear next after

pub laid_more : {K : Type 0} (paging : Paging K) (log2 : ℕ) (linear : Bool) (old : List (K × ℕ))
    (i next result : ℕ) (start out after : List (K × ℕ)) (place : K × ℕ)
    → IsLaidSoFar paging log2 linear old i next out → length out ≡ 4 * 2 ^ log2 → i < length old
    → place ≡ get_or old i place → place.1 ≢ free_mark
    → (place.1 ≢ free_mark → IsTakenBefore linear next out → (IsCrowded linear (page_of paging log2 place.0) out → ⊥)
    → IsPlaced paging log2 linear place out after result)
    → MayBeLaid paging log2 linear old start → IsLaidSoFar paging log2 linear old (i + 1) result after
laid_more {K} paging log2 linear old i next result start out after place so_far sized inside is taken placed may =
    let done : List (K × ℕ) = pairs (take i old) in
    let more : pairs (take (i + 1) old) ≡ done ++ place ∷ [] = pairs_more old i place inside is taken in
    let suits : Suits paging log2 linear (done ++ place ∷ []) = subst (Suits paging log2 linear) more
    (suits_so_far paging log2 linear old (i + 1) may.suits) in
    let there = placed taken so_far.before
    (not_crowded paging log2 linear done out place so_far.laid sized suits) in
    let stands : HasKey old place.0 i = has_key_read old place.0 i place inside is taken refl in
    let new : IsNew out place.0 = λ j h. let was = so_far.from_old place.0 j h in absurd (omega (
      arith,
      was.1,
      may.lawful.rule.once place.0 was.2.value stands.value was.0 i was.2.pair stands.pair,
    )) in
    let laid : IsLaid paging log2 linear (done ++ place ∷ [])
    (set out there.0 place) = put_laid paging log2 linear done out place there.0 so_far.laid there.1 new taken (filter_passes is_taken (take i old)) in
    record {
      laid = rw (more, there.2) laid;
      before = there.3;
      from_old = λ k j h. ⊎_elim
          (λ (put : (j ≡ there.0) × (k ≡ place.0)). (
            i,
            omega arith,
            subst (λ (other : K). HasKey old other i) (sym put.1) stands,
          ))
          (λ (had : HasPairAt out k h.value j).
          let was = so_far.from_old k j (record { value = h.value; pair = had }) in (was.0, omega (arith, was.1), was.2))
          (pair_after_put out there.0 place k h.value j (free_inside there.1.vacant)
          (subst (λ (places : List (K × ℕ)). HasPairAt places k h.value j) there.2 h.pair));
    }

pub laid_last : {K : Type 0} (paging : Paging K) (log2 : ℕ) (linear : Bool) (old : List (K × ℕ)) (key : K)
    (value i next result : ℕ) (out after : List (K × ℕ))
    → IsLaidSoFar paging log2 linear old i next out → length out ≡ 4 * 2 ^ log2 → length old ≤ i
    → value ≢ free_mark
    → (value ≢ free_mark → IsTakenBefore linear next out → (IsCrowded linear (page_of paging log2 key) out → ⊥)
    → IsPlaced paging log2 linear (key, value) out after result)
    → IsNamed paging old key (record { log2 = log2; linear = linear }) → IsRehash paging log2 linear old key value after
laid_last {K} paging log2 linear old key value i next result out after so_far sized past taken placed named =
    let new : K × ℕ = (key, value) in
    let laid_old : IsLaid paging log2 linear (pairs old) out = subst
    (λ (some : List (K × ℕ)). IsLaid paging log2 linear (pairs some) out)
    (take_all i old past) so_far.laid in
    let there = placed taken so_far.before
    (not_crowded paging log2 linear (pairs old) out new laid_old sized (named_suits value named)) in
    let is_new : IsNew out key = λ j h. let was = so_far.from_old key j h in named.plan.0 was.0 was.2 in
    let laid : IsLaid paging log2 linear (pairs old ++ new ∷ []) after = rw there.2
    (put_laid paging log2 linear (pairs old) out new there.0 laid_old there.1 is_new taken
    (filter_passes is_taken old)) in
    record { lawful = laid.lawful; same_pairs = laid.same_pairs; in_order = laid.in_order }

-- a free place has no pair to lay out
pub laid_same : {K : Type 0} (paging : Paging K) (log2 : ℕ) (linear : Bool) (old : List (K × ℕ))
    (i next : ℕ) (out : List (K × ℕ)) (place : K × ℕ)
    → IsLaidSoFar paging log2 linear old i next out → i < length old → place ≡ get_or old i place
    → place.1 ≡ free_mark → IsLaidSoFar paging log2 linear old (i + 1) next out
laid_same paging log2 linear old i next out place so_far inside is vacant = record {
  laid = rw (pairs_same old i place inside is vacant) so_far.laid;
  before = so_far.before;
  from_old = λ k j h. let was = so_far.from_old k j h in (was.0, omega (arith, was.1), was.2);
}

-- ---- What may be laid out

-- the pairs beside which a larger block takes a new one
pub named_may : {K : Type 0} {paging : Paging K} {size : BlockSize} {old : List (K × ℕ)} {key : K} (out : List (K × ℕ)) (n : ℕ)
    → out ≡ replicate n (key, free_mark) → IsNamed paging old key size → MayBeLaid paging size.log2 size.linear old out
named_may {paging = paging} {size = size} {old = old} {key = key} out n cleared named = record {
  was = named.was;
  lawful = named.lawful;
  suits = suits_without paging size.log2 size.linear (pairs old) (key, 0) (named_suits 0 named);
  free = cleared_free out n key cleared;
}

-- the pairs that fit a smaller block
pub kept_may : {K : Type 0} {paging : Paging K} {log2 : ℕ} {old : List (K × ℕ)} (key : K) (out : List (K × ℕ)) (n : ℕ)
    → out ≡ replicate n (key, free_mark) → (was : BlockSize) → IsLawfulBlock paging was.log2 was.linear old
    → Fits paging log2 (keys_of old) → MayBeLaid paging log2 false old out
kept_may {paging = paging} {log2 = log2} {old = old} key out n cleared was lawful fits = record {
  was = was;
  lawful = lawful;
  suits = record {
    in_pages = λ plain page. omega (
      arith,
      fits.few page,
      count_by-map (λ (pair : _ × ℕ). pair.0) (λ k. page_of paging log2 k == page) (pairs old),
    );
    in_all = λ e. absurd (false≢true e);
  };
  free = cleared_free out n key cleared;
}

-- all pairs were laid out
pub laid_whole : {K : Type 0} (paging : Paging K) (log2 next : ℕ) (linear : Bool) (old out : List (K × ℕ))
    → IsLaidSoFar paging log2 linear old (length old) next out → IsLaid paging log2 linear (pairs old) out
laid_whole {K} paging log2 next linear old out so_far = subst
    (λ (some : List (K × ℕ)). IsLaid paging log2 linear (pairs some) out)
    (take_all (length old) old (omega arith)) so_far.laid
