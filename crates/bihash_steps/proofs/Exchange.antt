-- Blocks pass from owner to owner, and the pages stay parted among the owners.
use Rattle.std.proofs.Common.{◌≡◌, ◌≢◌, ◌⊎◌, ℕ, zero, suc, ◌+◌, ◌-◌, ◌*◌, ◌^◌, ◌<◌, ◌≤◌, refl, sym, ap, ◌∙◌, subst, inl, inr, List, [], ◌∷◌, ◌++◌, length, take, set, arith, pow-add, get_or-set_same, get_or-set_other, Option, Some, None}
use mathlib.Core.Logic.{dite}
use native.Mathlib.Decide.{ℕ_discrete, dec_le, dec_lt}
use mathlib.Core.Option.{none, some}
use lib.ListN.{get_elem?}
use Rattle.std.specs.Prelude.{slice_index}
use Rattle.atomic_table.proofs.Lists.{at_last}
use Rattle.bihash_rule.specs.Partition.{PageRun, IsWithin, Owner, of_bucket, returned_at, never_used, held_by, IsPartition, run_of, run_at}
use Rattle.bihash_rule.specs.Buckets.{BucketState}
use Rattle.bihash_rule.specs.PageStores.{returned_in, run_in, run_held, runs_now}
use Rattle.bihash_steps.specs.StoreSteps.{unlisted, grown, relisted}
use Rattle.bihash_rule.specs.declared.view.Extent.{Extent}
use Rattle.bihash_rule.specs.declared.view.PageStore.{PageStore}
use Rattle.bihash_rule.specs.declared.view.View.{View}
use Rattle.bihash_steps.proofs.OwnedWords.{run_some, run_set, run_set_other}

-- ---- Two owners exchange what they have

same_owner : (a b : Owner) → Dec (a ≡ b)
same_owner (of_bucket m) (of_bucket n) = elim (ℕ_discrete m n) [ yes e ↦ yes (ap of_bucket e) | no ne ↦ no (λ e. ne (cc)) ]
same_owner (of_bucket m) (returned_at l i) = no (λ e. cc)
same_owner (of_bucket m) never_used = no (λ e. cc)
same_owner (of_bucket m) (held_by j) = no (λ e. cc)
same_owner (returned_at l i) (of_bucket n) = no (λ e. cc)
same_owner (returned_at l i) (returned_at m k) = elim (ℕ_discrete l m) [
  | yes e ↦ elim (ℕ_discrete i k) [ yes f ↦ yes (λ t. returned_at (e t) (f t)) | no ne ↦ no (λ g. ne (cc)) ]
  | no ne ↦ no (λ g. ne (cc))
]
same_owner (returned_at l i) never_used = no (λ e. cc)
same_owner (returned_at l i) (held_by j) = no (λ e. cc)
same_owner never_used (of_bucket n) = no (λ e. cc)
same_owner never_used (returned_at l i) = no (λ e. cc)
same_owner never_used never_used = yes refl
same_owner never_used (held_by j) = no (λ e. cc)
same_owner (held_by j) (of_bucket n) = no (λ e. cc)
same_owner (held_by j) (returned_at l i) = no (λ e. cc)
same_owner (held_by j) never_used = no (λ e. cc)
same_owner (held_by j) (held_by k) = elim (ℕ_discrete j k) [ yes e ↦ yes (ap held_by e) | no ne ↦ no (λ e. ne (cc)) ]

abbrev choose : {P : Type 0} → Dec P → Owner → Owner → Owner
choose (yes _) x y = x
choose (no _) x y = y

module _ (a b : Owner) where
  -- a and b change places
  swap : Owner → Owner
  swap o = choose (same_owner o a) b (choose (same_owner o b) a o)

  swap_first : swap a ≡ b
  unfolding swap
  swap_first = go (same_owner a a)
    where
      go : (d : Dec (a ≡ a)) → choose d b (choose (same_owner a b) a a) ≡ b
      go (yes _) = refl
      go (no n) = absurd (n refl)

  swap_second : swap b ≡ a
  unfolding swap
  swap_second = go (same_owner b a) (same_owner b b)
    where
      go : (d : Dec (b ≡ a)) (e : Dec (b ≡ b)) → choose d b (choose e a b) ≡ a
      go (yes h) e = h
      go (no _) (yes _) = refl
      go (no _) (no n) = absurd (n refl)

  swap_else : (o : Owner) → o ≢ a → o ≢ b → swap o ≡ o
  unfolding swap
  swap_else o p q = go (same_owner o a) (same_owner o b)
    where
      go : (d : Dec (o ≡ a)) (e : Dec (o ≡ b)) → choose d b (choose e a o) ≡ o
      go (yes h) e = absurd (p h)
      go (no _) (yes h) = absurd (q h)
      go (no _) (no _) = refl

  -- what holds at a, at b, and at the others
  either : (P : Owner → Type 0) → P a → P b → ((o : Owner) → o ≢ a → o ≢ b → P o) → (o : Owner) → P o
  either P here there else o = dite (same_owner o a) (λ e. subst P (sym e) here)
      (λ n. dite (same_owner o b) (λ e. subst P (sym e) there) (λ m. else o n m))

  swap_back : (o : Owner) → swap (swap o) ≡ o
  swap_back = either (λ o. swap (swap o) ≡ o) (ap swap swap_first ∙ swap_second) (ap swap swap_second ∙ swap_first)
      (λ o n m. ap swap (swap_else o n m) ∙ swap_else o n m)

  -- what b had is a's, what a had is b's
  pub exchange : (pages used : ℕ) (has has' : Owner → Option PageRun) → never_used ≢ a → never_used ≢ b → has' a ≡ has b → has' b ≡ has a
      → ((o : Owner) → o ≢ a → o ≢ b → has' o ≡ has o) → IsPartition pages used has → IsPartition pages used has'
  exchange pages used has has' na nb first second else p =
      let is : (o : Owner) → has' o ≡ has (swap o) = either (λ o. has' o ≡ has (swap o)) (first ∙ ap has (sym swap_first))
      (second ∙ ap has (sym swap_second)) (λ o n m. else o n m ∙ ap has (sym (swap_else o n m))) in record {
        owner = λ page. swap (p.owner page);
        no_run = is never_used ∙ (ap has (swap_else never_used na nb) ∙ p.no_run);
        inside = λ o run e. p.inside (swap o) run (sym (is o) ∙ e);
        owned = λ o run page e w. ap swap (p.owned (swap o) run page (sym (is o) ∙ e) w) ∙ swap_back o;
        covered = λ page l h. let w = p.covered page l h in (w.0, is (swap (p.owner page)) ∙ (ap has (swap_back (p.owner page)) ∙ w.1), w.2);
        above = λ page l. ap swap (p.above page l) ∙ swap_else never_used na nb;
        few = p.few;
      }

-- ---- A list and its last

beyond : (xs : List ℕ) → get_elem? xs (length xs) ≡ none
beyond [] = refl
beyond (x ∷ xs) = beyond xs

before_last : (xs : List ℕ) (p i : ℕ) → i ≢ length xs → get_elem? (xs ++ p ∷ []) i ≡ get_elem? xs i
before_last [] p zero ne = absurd (ne refl)
before_last [] p (suc i) ne = refl
before_last (x ∷ xs) p zero ne = refl
before_last (x ∷ xs) p (suc i) ne = before_last xs p i (λ h. ne (ap suc h))

-- the others before the last, where the list of one log2 is longer by a last one
before : (lists longer : ℕ → List ℕ) (log2 page : ℕ) → longer log2 ≡ lists log2 ++ page ∷ [] → ((m : ℕ) → m ≢ log2 → longer m ≡ lists m)
    → (m i : ℕ) → returned_at m i ≢ returned_at log2 (length (lists log2)) → get_elem? (longer m) i ≡ get_elem? (lists m) i
before lists longer log2 page here else m i ne = dite (ℕ_discrete m log2)
    (λ e. ap (λ (c : ℕ). get_elem? (longer c) i) e ∙ (ap (λ (ys : List ℕ). get_elem? ys i) here
    ∙ (before_last (lists log2) page i (λ h. ne (λ t. returned_at (e t) (h t))) ∙ ap (λ (c : ℕ). get_elem? (lists c) i) (sym e))))
    (λ n. ap (λ (ys : List ℕ). get_elem? ys i) (else m n))

-- ---- A seat takes or gives a block

module _ (pages used : ℕ) (x x' : ℕ → BucketState) (store store' : PageStore) (views : List View) (id : ℕ) (v w : View)
    (at : get_elem? views id ≡ some v) where
  abbrev has : Owner → Option PageRun
  has = runs_now x store views

  abbrev has' : Owner → Option PageRun
  has' = runs_now x' store' (set views id w)

  -- what the seat had, and has now
  had : has (held_by id) ≡ run_in v.holds.block
  had = ap run_held at

  gets : has' (held_by id) ≡ run_in w.holds.block
  gets = run_set views id v w at

  -- bucket b gets the block that the seat held, or none, and the seat gets the one that b had, or none
  pub passes : (b : ℕ) → ((c : ℕ) → c ≢ b → (x' c).extent ≡ (x c).extent) → ((log2 : ℕ) → returned_in store' log2 ≡ returned_in store log2)
      → run_of (x' b).extent.page (x' b).extent.size.log2 ≡ run_in v.holds.block → run_in w.holds.block ≡ run_of (x b).extent.page (x b).extent.size.log2
      → IsPartition pages used has → IsPartition pages used has'
  passes b elsewhere lists given taken = exchange (of_bucket b) (held_by id) pages used has has' (λ h. cc) (λ h. cc)
      (given ∙ sym had) (gets ∙ taken) others
    where
      others : (o : Owner) → o ≢ of_bucket b → o ≢ held_by id → has' o ≡ has o
      others (of_bucket c) n m = ap (λ (e : Extent). run_of e.page e.size.log2) (elsewhere c (λ h. n (ap of_bucket h)))
      others (returned_at log2 i) n m = ap (λ (ys : List ℕ). run_at log2 (get_elem? ys i)) (lists log2)
      others never_used n m = refl
      others (held_by j) n m = run_set_other views id j w (λ h. m (ap held_by h))

  -- the last returned block of a list passes to a seat that held none
  pub takes_returned : (log2 page : ℕ) → ((c : ℕ) → (x' c).extent ≡ (x c).extent)
      → returned_in store log2 ≡ returned_in store' log2 ++ page ∷ [] → ((m : ℕ) → m ≢ log2 → returned_in store m ≡ returned_in store' m)
      → run_in v.holds.block ≡ None → run_in w.holds.block ≡ Some (record { page = page; log2 = log2 })
      → IsPartition pages used has → IsPartition pages used has'
  takes_returned log2 page extents last elsewhere free taken =
      exchange (returned_at log2 (length (returned_in store' log2))) (held_by id) pages used has has' (λ h. cc) (λ h. cc)
      (ap (run_at log2) (beyond (returned_in store' log2)) ∙ sym (had ∙ free))
      (gets ∙ (taken ∙ (ap (run_at log2) (sym (at_last (returned_in store' log2) page (length (returned_in store' log2)) refl))
      ∙ ap (λ (ys : List ℕ). run_at log2 (get_elem? ys (length (returned_in store' log2)))) (sym last))))
      others
    where
      others : (o : Owner) → o ≢ returned_at log2 (length (returned_in store' log2)) → o ≢ held_by id → has' o ≡ has o
      others (of_bucket c) n m = ap (λ (e : Extent). run_of e.page e.size.log2) (extents c)
      others (returned_at l i) n m = ap (run_at l) (sym (before (returned_in store') (returned_in store) log2 page last elsewhere l i n))
      others never_used n m = refl
      others (held_by j) n m = run_set_other views id j w (λ h. m (ap held_by h))

  -- the block of a seat passes after the last of the list of its log2
  pub gives_back : (log2 page : ℕ) → ((c : ℕ) → (x' c).extent ≡ (x c).extent)
      → returned_in store' log2 ≡ returned_in store log2 ++ page ∷ [] → ((m : ℕ) → m ≢ log2 → returned_in store' m ≡ returned_in store m)
      → run_in v.holds.block ≡ Some (record { page = page; log2 = log2 }) → run_in w.holds.block ≡ None
      → IsPartition pages used has → IsPartition pages used has'
  gives_back log2 page extents last elsewhere held given =
      exchange (returned_at log2 (length (returned_in store log2))) (held_by id) pages used has has' (λ h. cc) (λ h. cc)
      (ap (λ (ys : List ℕ). run_at log2 (get_elem? ys (length (returned_in store log2)))) last
      ∙ (ap (run_at log2) (at_last (returned_in store log2) page (length (returned_in store log2)) refl) ∙ sym (had ∙ held)))
      (gets ∙ (given ∙ ap (run_at log2) (sym (beyond (returned_in store log2))))) others
    where
      others : (o : Owner) → o ≢ returned_at log2 (length (returned_in store log2)) → o ≢ held_by id → has' o ≡ has o
      others (of_bucket c) n m = ap (λ (e : Extent). run_of e.page e.size.log2) (extents c)
      others (returned_at l i) n m = ap (run_at l) (before (returned_in store) (returned_in store') log2 page last elsewhere l i n)
      others never_used n m = refl
      others (held_by j) n m = run_set_other views id j w (λ h. m (ap held_by h))

  -- the next 2 ^ log2 pages that were never used pass to a seat that held none
  module _ (log2 : ℕ) (extents : (c : ℕ) → (x' c).extent ≡ (x c).extent) (lists : (m : ℕ) → returned_in store' m ≡ returned_in store m)
      (free : run_in v.holds.block ≡ None) (taken : run_in w.holds.block ≡ Some (record { page = used + 1; log2 = log2 }))
      (left : used + 2 ^ log2 ≤ pages) (p : IsPartition pages used has) where
    abbrev new : PageRun
    new = record { page = used + 1; log2 = log2 }

    owner_now : ℕ → Owner
    owner_now page = choose (dec_le page used) (p.owner page) (choose (dec_le page (used + 2 ^ log2)) (held_by id) never_used)

    low : (page : ℕ) → page ≤ used → owner_now page ≡ p.owner page
    unfolding owner_now
    low page h = go (dec_le page used)
      where
        go : (d : Dec (page ≤ used)) → choose d (p.owner page) (choose (dec_le page (used + 2 ^ log2)) (held_by id) never_used) ≡ p.owner page
        go (yes _) = refl
        go (no n) = absurd (n h)

    within_new : (page : ℕ) → used < page → page ≤ used + 2 ^ log2 → owner_now page ≡ held_by id
    unfolding owner_now
    within_new page h m = go (dec_le page used) (dec_le page (used + 2 ^ log2))
      where
        go : (d : Dec (page ≤ used)) (e : Dec (page ≤ used + 2 ^ log2)) → choose d (p.owner page) (choose e (held_by id) never_used) ≡ held_by id
        go (yes l) e = absurd (omega arith)
        go (no _) (yes _) = refl
        go (no _) (no n) = absurd (n m)

    high : (page : ℕ) → used + 2 ^ log2 < page → owner_now page ≡ never_used
    unfolding owner_now
    high page h = go (dec_le page used) (dec_le page (used + 2 ^ log2))
      where
        go : (d : Dec (page ≤ used)) (e : Dec (page ≤ used + 2 ^ log2)) → choose d (p.owner page) (choose e (held_by id) never_used) ≡ never_used
        go (yes l) e = absurd (omega arith)
        go (no _) (yes l) = absurd (omega arith)
        go (no _) (no _) = refl

    as_before : (o : Owner) → o ≢ held_by id → has' o ≡ has o
    as_before (of_bucket c) n = ap (λ (e : Extent). run_of e.page e.size.log2) (extents c)
    as_before (returned_at l i) n = ap (λ (ys : List ℕ). run_at l (get_elem? ys i)) (lists l)
    as_before never_used n = refl
    as_before (held_by j) n = run_set_other views id j w (λ h. n (ap held_by h))

    -- what an owner has now is the new block, or what it had
    new_or_old : (o : Owner) (run : PageRun) → has' o ≡ Some run → ((o ≡ held_by id) × (new ≡ run)) ⊎ (has o ≡ Some run)
    new_or_old o run e = dite (same_owner o (held_by id))
        (λ is. inl (is, let f : Some new ≡ Some run = sym (gets ∙ taken) ∙ (ap has' (sym is) ∙ e) in cc))
        (λ n. inr (sym (as_before o n) ∙ e))

    pub takes_unused : IsPartition pages (used + 2 ^ log2) has'
    takes_unused = record {
      owner = owner_now;
      no_run = refl;
      inside = λ o run e. elim (new_or_old o run e) [
        | inl t ↦ subst (λ (k : PageRun). (1 ≤ k.page) × (k.page + 2 ^ k.log2 ≤ (used + 2 ^ log2) + 1)) t.1 (omega arith, omega arith)
        | inr t ↦ (let h = p.inside o run t in (h.0, (let l = h.1 in omega arith)))
      ];
      owned = λ o run page e at. elim (new_or_old o run e) [
        | inl t ↦ (let l = subst (λ (k : PageRun). IsWithin k page) (sym t.1) at in within_new page (omega arith) (omega arith) ∙ sym t.0)
        | inr t ↦ (let h = p.inside o run t in low page (omega arith) ∙ p.owned o run page t at)
      ];
      covered = λ page first last. dite (dec_le page used)
          (λ l. let c = p.covered page first l in (
            c.0,
            ap has' (low page l) ∙ (as_before (p.owner page) (λ is.
                let e : None ≡ Some c.0 = sym (had ∙ free) ∙ (ap has (sym is) ∙ c.1) in cc) ∙ c.1),
            c.2,
          ))
          (λ n. (new, ap has' (within_new page (omega arith) last) ∙ (gets ∙ taken), (omega arith, omega arith)));
      above = λ page h. high page h;
      few = left;
    }

  -- the second half of the block of a seat passes after the last of the list of its size
  module _ (log2 page : ℕ) (extents : (c : ℕ) → (x' c).extent ≡ (x c).extent)
      (last : returned_in store' log2 ≡ returned_in store log2 ++ (page + 2 ^ log2) ∷ [])
      (elsewhere : (m : ℕ) → m ≢ log2 → returned_in store' m ≡ returned_in store m)
      (held : run_in v.holds.block ≡ Some (record { page = page; log2 = log2 + 1 }))
      (kept : run_in w.holds.block ≡ Some (record { page = page; log2 = log2 })) (p : IsPartition pages used has) where
    abbrev whole : PageRun
    whole = record { page = page; log2 = log2 + 1 }

    abbrev first : PageRun
    first = record { page = page; log2 = log2 }

    abbrev second : PageRun
    second = record { page = page + 2 ^ log2; log2 = log2 }

    abbrev listed : Owner
    listed = returned_at log2 (length (returned_in store log2))

    twice : 2 ^ (log2 + 1) ≡ 2 ^ log2 + 2 ^ log2
    twice = let d : ℕ = 2 ^ log2 in let e : 2 ^ (log2 + 1) ≡ d * 2 = pow-add 2 log2 1 in omega arith

    had_whole : has (held_by id) ≡ Some whole
    had_whole = had ∙ held

    has_first : has' (held_by id) ≡ Some first
    has_first = gets ∙ kept

    had_none : has listed ≡ None
    had_none = ap (run_at log2) (beyond (returned_in store log2))

    has_second : has' listed ≡ Some second
    has_second = ap (λ (ys : List ℕ). run_at log2 (get_elem? ys (length (returned_in store log2)))) last
        ∙ ap (run_at log2) (at_last (returned_in store log2) (page + 2 ^ log2) (length (returned_in store log2)) refl)

    others : (o : Owner) → o ≢ listed → o ≢ held_by id → has' o ≡ has o
    others (of_bucket c) n m = ap (λ (e : Extent). run_of e.page e.size.log2) (extents c)
    others (returned_at l i) n m = ap (run_at l) (before (returned_in store) (returned_in store') log2 (page + 2 ^ log2) last elsewhere l i n)
    others never_used n m = refl
    others (held_by j) n m = run_set_other views id j w (λ h. m (ap held_by h))

    owner_cut : ℕ → Owner
    owner_cut q = choose (dec_le (page + 2 ^ log2) q) (choose (dec_lt q ((page + 2 ^ log2) + 2 ^ log2)) listed (p.owner q)) (p.owner q)

    in_second : (q : ℕ) → IsWithin second q → owner_cut q ≡ listed
    unfolding owner_cut
    in_second q h = go (dec_le (page + 2 ^ log2) q) (dec_lt q ((page + 2 ^ log2) + 2 ^ log2))
      where
        go : (d : Dec (page + 2 ^ log2 ≤ q)) (e : Dec (q < (page + 2 ^ log2) + 2 ^ log2)) → choose d (choose e listed (p.owner q)) (p.owner q) ≡ listed
        go (yes _) (yes _) = refl
        go (yes _) (no n) = absurd (n h.1)
        go (no n) e = absurd (n h.0)

    beside_second : (q : ℕ) → (IsWithin second q → ⊥) → owner_cut q ≡ p.owner q
    unfolding owner_cut
    beside_second q not = go (dec_le (page + 2 ^ log2) q) (dec_lt q ((page + 2 ^ log2) + 2 ^ log2))
      where
        go : (d : Dec (page + 2 ^ log2 ≤ q)) (e : Dec (q < (page + 2 ^ log2) + 2 ^ log2)) → choose d (choose e listed (p.owner q)) (p.owner q) ≡ p.owner q
        go (yes l) (yes h) = absurd (not (l, h))
        go (yes _) (no _) = refl
        go (no _) e = refl

    -- a page of the whole block was the seat's
    was_held : (q : ℕ) → page ≤ q → q < (page + 2 ^ log2) + 2 ^ log2 → p.owner q ≡ held_by id
    was_held q l h = let e = twice in p.owned (held_by id) whole q had_whole (l, omega arith)

    covered_cut : (q : ℕ) → 1 ≤ q → q ≤ used → (IsWithin second q → ⊥) → (run : PageRun) × (has' (owner_cut q) ≡ Some run) × IsWithin run q
    covered_cut q l h not = let c = p.covered q l h in dite (same_owner (p.owner q) (held_by id))
        (λ is. let run : whole ≡ c.0 = (let e : Some whole ≡ Some c.0 = sym had_whole ∙ (ap has (sym is) ∙ c.1) in cc) in
        let within : IsWithin whole q = subst (λ (k : PageRun). IsWithin k q) (sym run) c.2 in
        let low : page ≤ q = within.0 in let high = within.1 in let e = twice in (
          first,
          ap has' (beside_second q not ∙ is) ∙ has_first,
          (low, dite (dec_lt q (page + 2 ^ log2)) (λ k. k) (λ n. absurd (not (omega arith, omega arith)))),
        ))
        (λ ne. (
          c.0,
          ap has' (beside_second q not) ∙ (others (p.owner q) (λ is.
              let e : None ≡ Some c.0 = sym had_none ∙ (ap has (sym is) ∙ c.1) in cc) ne ∙ c.1),
          c.2,
        ))

    pub cuts_held : IsPartition pages used has'
    cuts_held = let all = p.inside (held_by id) whole had_whole in let some = all.0 in let near = all.1 in let e2 = twice in record {
      owner = owner_cut;
      no_run = refl;
      inside = either listed (held_by id) (λ o. (run : PageRun) → has' o ≡ Some run → (1 ≤ run.page) × (run.page + 2 ^ run.log2 ≤ used + 1))
          (λ run e. let is : second ≡ run = (let f : Some second ≡ Some run = sym has_second ∙ e in cc) in
          subst (λ (k : PageRun). (1 ≤ k.page) × (k.page + 2 ^ k.log2 ≤ used + 1)) is (omega arith, omega arith))
          (λ run e. let is : first ≡ run = (let f : Some first ≡ Some run = sym has_first ∙ e in cc) in
          subst (λ (k : PageRun). (1 ≤ k.page) × (k.page + 2 ^ k.log2 ≤ used + 1)) is (omega arith, omega arith))
          (λ o n m run e. p.inside o run (sym (others o n m) ∙ e));
      owned = either listed (held_by id) (λ o. (run : PageRun) (q : ℕ) → has' o ≡ Some run → IsWithin run q → owner_cut q ≡ o)
          (λ run q e at. let is : second ≡ run = (let f : Some second ≡ Some run = sym has_second ∙ e in cc) in
          in_second q (subst (λ (k : PageRun). IsWithin k q) (sym is) at))
          (λ run q e at. let is : first ≡ run = (let f : Some first ≡ Some run = sym has_first ∙ e in cc) in
          let within : IsWithin first q = subst (λ (k : PageRun). IsWithin k q) (sym is) at in
          let low = within.0 in let high = within.1 in
          beside_second q (λ k. let l = k.0 in omega arith) ∙ was_held q low (omega arith))
          (λ o n m run q e at. let mine = p.owned o run q (sym (others o n m) ∙ e) at in
          beside_second q (λ k. let l = k.0 in m (sym mine ∙ was_held q (omega arith) k.1)) ∙ mine);
      covered = λ q l h. dite (dec_le (page + 2 ^ log2) q)
          (λ a. dite (dec_lt q ((page + 2 ^ log2) + 2 ^ log2)) (λ b. (second, ap has' (in_second q (a, b)) ∙ has_second, (a, b)))
          (λ n. covered_cut q l h (λ k. n k.1)))
          (λ n. covered_cut q l h (λ k. n k.0));
      above = λ q l. beside_second q (λ k. let h = k.1 in omega arith) ∙ p.above q l;
      few = p.few;
    }

-- ---- The page store hands out blocks and takes them back

-- a list is its beginning and its last
init_last : (xs : List ℕ) (count : ℕ) → length xs ≡ count + 1 → xs ≡ take (length xs - 1) xs ++ slice_index xs count ∷ []
init_last xs count e = subst (λ (n : ℕ). xs ≡ take n xs ++ slice_index xs count ∷ []) (omega arith) (go xs count e)
  where
    go : (xs : List ℕ) (count : ℕ) → length xs ≡ count + 1 → xs ≡ take count xs ++ slice_index xs count ∷ []
    go [] count e = absurd (omega arith)
    go (x ∷ []) zero e = refl
    go (x ∷ (y ∷ ys)) zero e = absurd (omega arith)
    go (x ∷ xs) (suc count) e = ap (λ (l : List ℕ). x ∷ l) (go xs count (omega arith))

element : (xs : List ℕ) (i : ℕ) → i < length xs → get_elem? xs i ≡ some (slice_index xs i)
element [] i l = absurd (omega arith)
element (x ∷ xs) zero l = refl
element (x ∷ xs) (suc i) l = element xs i (omega arith)

-- what is in a list of returned blocks
pub returned_run : (x : ℕ → BucketState) (store : PageStore) (views : List View) (log2 i : ℕ) → i < length (returned_in store log2)
    → runs_now x store views (returned_at log2 i) ≡ Some (record { page = slice_index (returned_in store log2) i; log2 = log2 })
returned_run x store views log2 i l = ap (run_at log2) (element (returned_in store log2) i l)

module _ (pages : ℕ) (x : ℕ → BucketState) (store : PageStore) (views : List View) (id : ℕ) (v w : View) (at : get_elem? views id ≡ some v)
    (parted : IsPartition pages store.used (runs_now x store views)) where
  -- the last returned block of a list is taken
  pub parted_unlisted : (log2 count : ℕ) → log2 < length store.returned → length (returned_in store log2) ≡ count + 1
      → run_in v.holds.block ≡ None → run_in w.holds.block ≡ run_of (slice_index (returned_in store log2) count) log2
      → IsPartition pages store.used (runs_now x (unlisted store log2) (set views id w))
  parted_unlisted log2 count small listed free taken =
      let xs : List ℕ = returned_in store log2 in
      let rest : List ℕ = take (length xs - 1) xs in
      let page : ℕ = slice_index xs count in
      let here = get_or-set_same store.returned log2 rest [] small in
      let some_page = (parted.inside (returned_at log2 count) (record { page = page; log2 = log2 })
      (returned_run x store views log2 count (omega arith))).0 in
      takes_returned pages store.used x x store (unlisted store log2) views id v w at log2 page (λ c. refl)
      (init_last xs count listed ∙ ap (λ (l : List ℕ). l ++ page ∷ []) (sym here))
      (λ m ne. sym (get_or-set_other store.returned log2 m rest [] ne)) free (taken ∙ run_some page log2 some_page) parted

  -- a block is given back
  pub parted_relisted : (log2 page : ℕ) → log2 < length store.returned → 1 ≤ page
      → run_in v.holds.block ≡ run_of page log2 → run_in w.holds.block ≡ None
      → IsPartition pages store.used (runs_now x (relisted store log2 page) (set views id w))
  parted_relisted log2 page small some_page held given =
      let longer : List ℕ = returned_in store log2 ++ page ∷ [] in
      gives_back pages store.used x x store (relisted store log2 page) views id v w at log2 page (λ c. refl)
      (get_or-set_same store.returned log2 longer [] small) (λ m ne. get_or-set_other store.returned log2 m longer [] ne)
      (held ∙ run_some page log2 some_page) given parted

  -- the second half of a block is given back
  pub parted_cut : (log2 page : ℕ) → log2 < length store.returned → 1 ≤ page
      → run_in v.holds.block ≡ run_of page (log2 + 1) → run_in w.holds.block ≡ run_of page log2
      → IsPartition pages store.used (runs_now x (relisted store log2 (page + 2 ^ log2)) (set views id w))
  parted_cut log2 page small some_page held kept =
      let longer : List ℕ = returned_in store log2 ++ (page + 2 ^ log2) ∷ [] in
      cuts_held pages store.used x x store (relisted store log2 (page + 2 ^ log2)) views id v w at log2 page (λ c. refl)
      (get_or-set_same store.returned log2 longer [] small) (λ m ne. get_or-set_other store.returned log2 m longer [] ne)
      (held ∙ run_some page (log2 + 1) some_page) (kept ∙ run_some page log2 some_page) parted

  -- the next pages that were never used are taken
  pub parted_grown : (log2 : ℕ) → store.used + 2 ^ log2 ≤ pages → run_in v.holds.block ≡ None
      → run_in w.holds.block ≡ run_of (store.used + 1) log2
      → IsPartition pages (store.used + 2 ^ log2) (runs_now x (grown store log2) (set views id w))
  parted_grown log2 left free taken = takes_unused pages store.used x x store (grown store log2) views id v w at log2 (λ c. refl) (λ m. refl)
      free (taken ∙ run_some (store.used + 1) log2 (omega arith)) left parted
