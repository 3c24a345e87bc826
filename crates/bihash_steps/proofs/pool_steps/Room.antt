-- A list of returned blocks has room for all of them, and for one that a seat holds.
use Rattle.std.proofs.Common.{◌≡◌, ◌≢◌, ℕ, zero, suc, ◌+◌, ◌-◌, ◌*◌, ◌/◌, ◌%◌, ◌^◌, ◌<◌, ◌≤◌, eqb, ◌||◌, Bool, true, false, List, [], ◌∷◌, ◌++◌, length, set, refl, sym, ap, ◌∙◌, subst, arith, ne_eqb, le_trans, length-append, div-add-mod', mul-le-mul_right, suc-mul, get_or-set_same, Some, None}
use mathlib.Core.Option.{some}
use mathlib.Core.Logic.{dite}
use native.Mathlib.Decide.{ℕ_discrete, dec_le}
use native.Mathlib.Nat.{mod-lt}
use lib.ListN.{get_elem?}
use Rattle.std.proofs.lemmas.Nat.{pow_pos}
use Rattle.std.proofs.lemmas.Bool.{eqb-true}
use Rattle.std.specs.List.{IsDistinct, AllByRecursion, list_any}
use Rattle.std.proofs.lemmas.Map.Steps.{length-le_from_distinct_below}
use Rattle.std.specs.Prelude.{slice_index}
use Rattle.atomic_table.specs.Table.{State}
use Rattle.bihash_words.specs.Sizes.{Sizes}
use Rattle.bihash_rule.specs.Words.{list_words}
use Rattle.bihash_rule.specs.Partition.{PageRun, returned_at, IsPartition, run_of}
use Rattle.bihash_rule.specs.Buckets.{BucketState}
use Rattle.bihash_rule.specs.PageStores.{returned_in, HoldsBlock, HoldsBlockIf, run_in, runs_now}
use Rattle.bihash_steps.specs.StoreSteps.{first_half, relisted}
use Rattle.bihash_rule.specs.WordRule.{WordRule}
use Rattle.bihash_rule.specs.declared.view.PageStore.{PageStore}
use Rattle.bihash_rule.specs.declared.view.HeldBlock.{HeldBlock}
use Rattle.bihash_rule.specs.declared.view.View.{View}
use Rattle.bihash_steps.proofs.OwnedWords.{page_below}
use Rattle.bihash_steps.proofs.Exchange.{returned_run, parted_relisted, parted_cut}

-- ---- n numbers below m that differ are at most m

module _ (f : ℕ → ℕ) where
  -- the numbers f 0 to f (n - 1), the last first
  abbrev first_of : ℕ → List ℕ
  first_of zero = []
  first_of (suc n) = f n ∷ first_of n

  first_length : (n : ℕ) → length (first_of n) ≡ n
  first_length zero = refl
  first_length (suc n) = ap suc (first_length n)

  all_other : (x n : ℕ) → ((i : ℕ) → i < n → x ≢ f i) → AllByRecursion (λ y. eqb x y ≡ false) (first_of n)
  all_other x zero other = tt
  all_other x (suc n) other = (ne_eqb x (f n) (other n (omega arith)), all_other x n (λ i l. other i (omega arith)))

  all_differ : (n : ℕ) → ((i k : ℕ) → i < n → k < n → f i ≡ f k → i ≡ k) → IsDistinct eqb (first_of n)
  unfolding IsDistinct
  all_differ zero one = tt
  all_differ (suc n) one = (
    all_other (f n) n (λ i l e. let same = one n i (omega arith) (omega arith) e in omega arith),
    all_differ n (λ i k l h. one i k (omega arith) (omega arith)),
  )

  all_below : (n m : ℕ) → ((i : ℕ) → i < n → f i < m) → (q : ℕ) → list_any (eqb q) (first_of n) ≡ true → q < m
  all_below zero m small q e = absurd (cc)
  all_below (suc n) m small q e = go (all_below n m (λ i l. small i (omega arith)) q) (eqb q (f n)) refl e
    where
      go : (list_any (eqb q) (first_of n) ≡ true → q < m) → (b : Bool) → eqb q (f n) ≡ b → (b || list_any (eqb q) (first_of n)) ≡ true → q < m
      go rest true is h = let same = eqb-true q (f n) is in let l = small n (omega arith) in omega arith
      go rest false is h = rest h

  at_most : (n m : ℕ) → ((i k : ℕ) → i < n → k < n → f i ≡ f k → i ≡ k) → ((i : ℕ) → i < n → f i < m) → n ≤ m
  at_most n m one small = let l = length-le_from_distinct_below (first_of n) m (all_differ n one) (all_below n m small) in
      let e = first_length n in omega arith

-- ---- The pages of returned blocks

module _ (pages used : ℕ) (x : ℕ → BucketState) (store : PageStore) (views : List View) (p : IsPartition pages used (runs_now x store views)) where
  -- the returned blocks of one log2 have that many pages together
  pub list_room : (log2 : ℕ) → length (returned_in store log2) * 2 ^ log2 ≤ used
  list_room log2 =
      let d : ℕ = 2 ^ log2 in
      let some_page : 1 ≤ d = pow_pos log2 in
      let count : ℕ = length (returned_in store log2) in
      let first : ℕ → ℕ = λ i. slice_index (returned_in store log2) (i / d) in
      let run : ℕ → PageRun = λ i. record { page = first i; log2 = log2 } in
      let is : (i : ℕ) → i < count * d → runs_now x store views (returned_at log2 (i / d)) ≡ Some (run i) =
      λ i l. returned_run x store views log2 (i / d) (page_below d count i some_page l) in
      let inside : (i : ℕ) → i < count * d → (1 ≤ first i) × (first i + d ≤ used + 1) =
      λ i l. p.inside (returned_at log2 (i / d)) (run i) (is i l) in
      let owner : (i : ℕ) → i < count * d → p.owner (first i + i % d) ≡ returned_at log2 (i / d) =
      λ i l. let r = mod-lt i {m = d} some_page in
      p.owned (returned_at log2 (i / d)) (run i) (first i + i % d) (is i l) (omega arith, omega arith) in
      at_most (λ i. (first i + i % d) - 1) (count * d) used
      (λ i k l h e. let a = (inside i l).0 in let b = (inside k h).0 in
      let same : first i + i % d ≡ first k + k % d = omega arith in
      let owners : returned_at log2 (i / d) ≡ returned_at log2 (k / d) = sym (owner i l) ∙ (ap p.owner same ∙ owner k h) in
      let block : i / d ≡ k / d = cc in
      let begins : first i ≡ first k = ap (slice_index (returned_in store log2)) block in
      let place : i % d ≡ k % d = omega arith in
      sym (div-add-mod' i d) ∙ ((λ t. block t * d + place t) ∙ div-add-mod' k d))
      (λ i l. let h = inside i l in let a = h.0 in let b = h.1 in let r = mod-lt i {m = d} some_page in omega arith)

-- so many blocks of d pages as there can be
at_most_quotient : (n d m : ℕ) → 1 ≤ d → n * d ≤ m → n ≤ m / d
at_most_quotient n d m some_page h = dite (dec_le n (m / d)) (λ l. l) (λ not. absurd (
    let g : suc (m / d) * d ≤ n * d = mul-le-mul_right d (let l : suc (m / d) ≤ n = omega arith in l) in
    let e : suc (m / d) * d ≡ m / d * d + d = suc-mul (m / d) d in let s = div-add-mod' m d in let r = mod-lt m {m = d} some_page in
    let a : ℕ = m / d * d in let b : ℕ = n * d in let c : ℕ = suc (m / d) * d in let g' : c ≤ b = g in let e' : c ≡ a + d = e in let h' : b ≤ m = h in
    omega arith))

module _ (z : Sizes) where
  -- a list never needs more than its words
  pub list_fits : (used : ℕ) (x : ℕ → BucketState) (store : PageStore) (views : List View) (log2 : ℕ)
      → IsPartition z.pages used (runs_now x store views) → length (returned_in store log2) ≤ list_words z log2
  list_fits used x store views log2 p = at_most_quotient (length (returned_in store log2)) (2 ^ log2) z.pages (pow_pos log2)
      (le_trans (list_room z.pages used x store views p log2) p.few)

  module _ (s : State (Unit {0}) View) (r : WordRule z s) (id : ℕ) (v : View) (h : HeldBlock) (at : get_elem? s.views id ≡ some v)
      (held : v.holds.block ≡ Some h) where
    abbrev store : PageStore
    store = r.table.store.store

    block : HoldsBlock z s.words h
    block = subst (HoldsBlockIf z s.words) held (r.each_view id v at).block

    listed : (log2 : ℕ) → log2 ≤ h.log2 → log2 < length store.returned
    listed log2 small = let wide = r.store.wide in let most = block.small in omega arith

    -- the list would fit after it counts one page more, where this other view leaves the pages parted
    room_if : (w : View) (log2 page : ℕ) → log2 ≤ h.log2
        → IsPartition z.pages store.used (runs_now r.table.bucket (relisted store log2 page) (set s.views id w))
        → length (returned_in store log2) < list_words z log2
    room_if w log2 page small parted =
        let fits : length (returned_in (relisted store log2 page) log2) ≤ list_words z log2 =
        list_fits store.used r.table.bucket (relisted store log2 page) (set s.views id w) log2 parted in
        let longer : List ℕ = returned_in store log2 ++ page ∷ [] in
        let more : length longer ≤ list_words z log2 =
        subst (λ (l : List ℕ). length l ≤ list_words z log2) (get_or-set_same store.returned log2 longer [] (listed log2 small)) fits in
        let one = length-append (returned_in store log2) (page ∷ []) in omega arith

    -- there is room for a block that a seat holds, and for half of it
    pub room_for : (log2 : ℕ) → log2 ≤ h.log2 → h.log2 ≤ log2 + 1 → length (returned_in store log2) < list_words z log2
    room_for log2 small near = dite (ℕ_discrete h.log2 log2)
        (λ e. room_if (record v { holds = record v.holds { block = None } }) log2 h.page small
        (parted_relisted z.pages r.table.bucket store s.views id v (record v { holds = record v.holds { block = None } }) at r.parted log2 h.page
        (listed log2 small) block.some_page (ap run_in held ∙ ap (run_of h.page) e) refl))
        (λ ne. room_if (record v { holds = record v.holds { block = Some (first_half z h log2) } }) log2 (h.page + 2 ^ log2) small
        (parted_cut z.pages r.table.bucket store s.views id v (record v { holds = record v.holds { block = Some (first_half z h log2) } }) at r.parted
        log2 h.page (listed log2 small) block.some_page
        (ap run_in held ∙ ap (run_of h.page) (let e : h.log2 ≡ log2 + 1 = omega arith in e)) refl))
