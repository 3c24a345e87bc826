-- A held block is given back: its page is stored after the last of its list, and the list counts it.
use Rattle.std.proofs.Common.{◌≡◌, ◌≢◌, ℕ, zero, suc, ◌+◌, ◌*◌, ◌^◌, ◌<◌, ◌≤◌, Bool, false, List, [], ◌∷◌, ◌++◌, length, set, refl, sym, ap, ◌∙◌, subst, arith, length-set, length-append, get_or-set_same, get_or-set_other, Some, None}
use mathlib.Core.Logic.{dite}
use native.Mathlib.Decide.{ℕ_discrete}
use Rattle.std.specs.Prelude.{slice_index, slice_set}
use lib.ListN.{get_elem?}
use mathlib.Core.Option.{some}
use Rattle.atomic_table.specs.Table.{State, keeps, Allows}
use Rattle.bihash_words.specs.Sizes.{Sizes}
use Rattle.bihash_words.specs.Words.{bit}
use Rattle.bihash_rule.specs.Words.{returned_count_at, list_words, list_at, front_words, page_words, all_words, Stands}
use Rattle.bihash_rule.specs.Partition.{IsPartition, run_of}
use Rattle.bihash_rule.specs.PageStores.{StoreState, IsStore, returned_in, all_used, IsListed, IsListedIf, HoldsBlock, HoldsBlockIf, run_in}
use Rattle.bihash_rule.specs.WordRule.{WordRule}
use Rattle.bihash_steps.specs.Steps.{ViewOfSeat}
use Rattle.bihash_steps.specs.StoreSteps.{holding, MayList, listing, TellsListed, MayReturn, relisted, TellsReturned}
use Rattle.bihash_rule.specs.declared.view.PageStore.{PageStore}
use Rattle.bihash_rule.specs.declared.view.LockedStore.{LockedStore}
use Rattle.bihash_rule.specs.declared.view.HeldBlock.{HeldBlock}
use Rattle.bihash_rule.specs.declared.view.View.{View}
use Rattle.bihash_steps.proofs.CountWord.{front}
use Rattle.bihash_steps.proofs.Frames.{list_inside}
use Rattle.bihash_steps.proofs.OwnedWords.{block_keeps, runs_still}
use Rattle.bihash_steps.proofs.Exchange.{parted_relisted}
use Rattle.bihash_steps.proofs.pool_steps.PoolWords.{list_after, list_still, same_list}
use Rattle.bihash_steps.proofs.pool_steps.PoolFrame.{after_store, word_inside, held_store, known_store, known_runs, held_moved}

first_at : (xs : List ℕ) (page k : ℕ) → k < length xs → slice_index (xs ++ page ∷ []) k ≡ slice_index xs k
first_at [] page k h = absurd (omega arith)
first_at (x ∷ xs) page zero h = refl
first_at (x ∷ xs) page (suc k) h = first_at xs page k (omega arith)

last_at : (xs : List ℕ) (page : ℕ) → slice_index (xs ++ page ∷ []) (length xs) ≡ page
last_at [] page = refl
last_at (x ∷ xs) page = last_at xs page

module _ (z : Sizes) where
  -- a store after the last of a list leaves the page store
  store_after : (words : List ℕ) (writes log2 count word : ℕ) (q : StoreState) → log2 ≤ z.max_log2 → length (returned_in q.store log2) ≡ count
      → count < list_words z log2 → IsStore z words writes q → IsStore z (set words (list_at z log2 + count) word) writes q
  store_after words writes log2 count word q small is room ok =
      let behind = list_after z log2 in
      let i : ℕ = list_at z log2 + count in
      let far : (k : ℕ) → k ≢ i → slice_index (set words i word) k ≡ slice_index words k = λ k ne. get_or-set_other words i k word 0 ne in record {
        lock = far 1 (λ e. omega arith) ∙ ok.lock;
        used = far 2 (λ e. omega arith) ∙ ok.used;
        wide = ok.wide;
        count = λ other h. far (returned_count_at other) (λ e. omega arith) ∙ ok.count other h;
        lists = λ other h k lt. far (list_at z other + k) (λ e.
            let fits = ok.room other h in
            let same = same_list z other log2 k count (omega arith) room e in
            let last = same.1 in
            let l : k < length (returned_in q.store log2) = subst (λ (log2 : ℕ). k < length (returned_in q.store log2)) same.0 lt in omega arith)
            ∙ ok.lists other h k lt;
        room = ok.room;
        bound = ok.bound;
        settled = ok.settled;
      }

  pub lists_page : (slots id at log2 count page : ℕ) (m : ViewOfSeat) → MayList z m.0 log2 count → at ≡ list_at z log2 + count
      → 1 ≤ length m.0.records → Allows (WordRule z) slots id m at (λ _. page) (λ _. TellsListed z at page m)
  lists_page slots id at log2 count page m may is acts s r deep seat fits = (
    holding v (Some known) v.holds.block,
    keeps,
    tt,
    subst (λ (i : ℕ). WordRule z (after_store s id (holding v (Some known) v.holds.block) i page))
        (sym is) rule,
    λ log2' count' k may' is' e.
        let same = same_list z log2 log2' count count' may.room may'.room (sym is ∙ is') in
        let held = may.store in
        let one : n ≡ k = cc in λ t. (holding v (Some (listing (one t) (same.0 t) page)) v.holds.block, m.1),
  )
    where
      v : View
      v = m.0

      n : LockedStore
      n = may.locked

      known : LockedStore
      known = listing n log2 page

      inside : (4 + z.max_log2 ≤ list_at z log2 + count) × (list_at z log2 + count < front_words z)
      inside = list_inside z log2 count may.small may.room

      rule : WordRule z (after_store s id (holding v (Some known) v.holds.block) (list_at z log2 + count) page)
      rule = let low = inside.0 in
          held_moved z s r id v seat n may.store (list_at z log2 + count) page n.store known.listed v.holds.block acts (omega arith) inside.1
          (store_after s.words (all_used z r.table.openings r.table.bucket) log2 count page (record { store = n.store; lock = Some id }) may.small may.listed
          may.room (known_store z s r id v seat n may.store))
          record {
            small = may.small;
            room = subst (λ (k : ℕ). k < list_words z log2) (sym may.listed) may.room;
            stands = ap (λ (k : ℕ). slice_index (set s.words (list_at z log2 + count) page) (list_at z log2 + k)) may.listed
                ∙ get_or-set_same s.words (list_at z log2 + count) page 0 (word_inside z s r id v seat acts (list_at z log2 + count) inside.1);
          }
          (block_keeps z s.words (list_at z log2 + count) page (let h = inside.1 in omega arith) v.holds.block (r.each_view id v seat).block)
          (subst (IsPartition z.pages n.store.used)
          (sym (runs_still r.table.bucket r.table.bucket n.store n.store s.views id v (holding v (Some known) v.holds.block) (λ b. refl)
          (λ log2. refl) seat refl)) (known_runs z s r id v seat n may.store))

  -- a list of returned blocks changes, with its count
  pub relist : (words : List ℕ) (most log2 : ℕ) (xs : List ℕ) (unpublished : Bool) (q : StoreState) → length words ≡ all_words z
      → log2 ≤ z.max_log2 → length xs ≤ list_words z log2 → Stands words (list_at z log2) xs
      → q.store.used ≤ most + 2 ^ z.max_log2 * bit unpublished → (q.lock ≡ None → unpublished ≡ false) → IsStore z words most q
      → IsStore z (set words (returned_count_at log2) (length xs)) most
      (record q { store = record q.store { returned = slice_set q.store.returned log2 xs; unpublished = unpublished } })
  relist words most log2 xs unpublished q whole small room stands bound settled ok =
      let i : ℕ = returned_count_at log2 in
      let word : ℕ = length xs in
      let store : PageStore = record q.store { returned = slice_set q.store.returned log2 xs; unpublished = unpublished } in
      let far : (k : ℕ) → k ≢ i → slice_index (set words i word) k ≡ slice_index words k = λ k ne. get_or-set_other words i k word 0 ne in
      let wide = ok.wide in
      let here : returned_in store log2 ≡ xs = get_or-set_same q.store.returned log2 xs [] (omega arith) in
      let other_is : (other : ℕ) → other ≢ log2 → returned_in store other ≡ returned_in q.store other =
      λ other ne. get_or-set_other q.store.returned log2 other xs [] ne in
      let top = front z in
      let x : ℕ = z.pages * page_words z in
      let inside : i < length words = omega arith in record {
        lock = far 1 (λ e. omega arith) ∙ ok.lock;
        used = far 2 (λ e. omega arith) ∙ ok.used;
        wide = length-set q.store.returned log2 xs ∙ ok.wide;
        count = λ other h. dite (ℕ_discrete other log2)
            (λ e. subst (λ (k : ℕ). slice_index (set words i word) (returned_count_at k) ≡ length (returned_in store k)) (sym e)
            (get_or-set_same words i word 0 inside ∙ ap length (sym here)))
            (λ ne. far (returned_count_at other) (λ e. ne (omega arith)) ∙ (ok.count other h ∙ ap length (sym (other_is other ne))));
        lists = λ other h. dite (ℕ_discrete other log2)
            (λ e. subst (λ (k : ℕ). Stands (set words i word) (list_at z k) (returned_in store k)) (sym e)
            (list_still z words i word log2 (returned_in store log2) (omega arith) (subst (Stands words (list_at z log2)) (sym here) stands)))
            (λ ne. list_still z words i word other (returned_in store other) (omega arith)
            (subst (Stands words (list_at z other)) (sym (other_is other ne)) (ok.lists other h)));
        room = λ other h. dite (ℕ_discrete other log2)
            (λ e. subst (λ (k : ℕ). length (returned_in store k) ≤ list_words z k) (sym e)
            (subst (λ (ys : List ℕ). length ys ≤ list_words z log2) (sym here) room))
            (λ ne. subst (λ (ys : List ℕ). length ys ≤ list_words z other) (sym (other_is other ne)) (ok.room other h));
        bound = bound;
        settled = settled;
      }

  -- a list counts the page that stands after its last
  pub counts_listed : (words : List ℕ) (most log2 page : ℕ) (q : StoreState) → length words ≡ all_words z
      → IsListed z words q.store (record { log2 = log2; page = page }) → IsStore z words most q
      → IsStore z (set words (returned_count_at log2) (length (returned_in q.store log2 ++ page ∷ []))) most
      (record q { store = relisted q.store log2 page })
  counts_listed words most log2 page q whole item ok =
      let xs : List ℕ = returned_in q.store log2 in
      let all = length-append xs (page ∷ []) in let fits = item.room in
      relist words most log2 (xs ++ page ∷ []) q.store.unpublished q whole item.small (omega arith)
      (λ k lt. dite (ℕ_discrete k (length xs))
      (λ e. ap (λ (t : ℕ). slice_index words (list_at z log2 + t)) e
      ∙ (item.stands ∙ (sym (last_at xs page) ∙ ap (slice_index (xs ++ page ∷ [])) (sym e))))
      (λ ne. ok.lists log2 item.small k (omega arith) ∙ sym (first_at xs page k (omega arith))))
      ok.bound ok.settled ok

  -- the page that the holder of the allocation lock wrote stands there
  pub listed_page : (s : State (Unit {0}) View) (r : WordRule z s) (id : ℕ) (v : View) → get_elem? s.views id ≡ some v
      → (n : LockedStore) → v.holds.store ≡ Some n → (log2 page : ℕ) → n.listed ≡ Some (record { log2 = log2; page = page })
      → IsListed z s.words n.store (record { log2 = log2; page = page })
  listed_page s r id v at n held log2 page is = let has = held_store z s r id v at n held in
      subst (λ (store : PageStore). IsListed z s.words store (record { log2 = log2; page = page })) (sym has.store)
      (subst (IsListedIf z s.words r.table.store.store) is has.listed)

  pub returns_block : (slots id at number log2 count : ℕ) (m : ViewOfSeat) → MayReturn z m.0 log2 count → at ≡ returned_count_at log2
      → number ≡ count + 1 → 1 ≤ length m.0.records → Allows (WordRule z) slots id m at (λ _. number) (λ _. TellsReturned z at number m)
  returns_block slots id at number log2 count m may is more acts s r deep seat fits = (
    holding v (Some known) None,
    keeps,
    tt,
    subst (λ (p : ℕ × ℕ). WordRule z (after_store s id (holding v (Some known) None) p.0 p.1))
        (λ t. (sym is t, (long ∙ sym more) t)) rule,
    λ log2' count' k h may' is' more' e f.
        let same : log2 ≡ log2' = omega arith in
        let held = may.store in
        let had = may.held in
        let one : n ≡ k = cc in
        let block : b ≡ h = cc in
        λ t. (holding v (Some (record { store = relisted (one t).store (same t) (block t).page; listed = None })) None, m.1),
  )
    where
      v : View
      v = m.0

      n : LockedStore
      n = may.locked

      b : HeldBlock
      b = may.block

      known : LockedStore
      known = record { store = relisted n.store log2 b.page; listed = None }

      xs : List ℕ
      xs = returned_in n.store log2

      long : length (xs ++ b.page ∷ []) ≡ count + 1
      long = length-append xs (b.page ∷ []) ∙ ap (λ (k : ℕ). k + 1) may.listed

      ok : IsStore z s.words (all_used z r.table.openings r.table.bucket) (record { store = n.store; lock = Some id })
      ok = known_store z s r id v seat n may.store

      has_block : HoldsBlock z s.words b
      has_block = subst (HoldsBlockIf z s.words) may.held (r.each_view id v seat).block

      rule : WordRule z (after_store s id (holding v (Some known) None) (returned_count_at log2) (length (xs ++ b.page ∷ [])))
      rule = let top = front z in let small = may.small in
          held_moved z s r id v seat n may.store (returned_count_at log2) (length (xs ++ b.page ∷ [])) known.store None None acts (omega arith)
          (omega arith)
          (counts_listed s.words (all_used z r.table.openings r.table.bucket) log2 b.page (record { store = n.store; lock = Some id }) r.wide
          (listed_page s r id v seat n may.store log2 b.page may.page) ok)
          tt tt
          (parted_relisted z.pages r.table.bucket n.store s.views id v (holding v (Some known) None) seat (known_runs z s r id v seat n may.store)
          log2 b.page (let wide = ok.wide in omega arith) has_block.some_page
          (ap run_in may.held ∙ ap (run_of b.page) may.same_log2) refl)
