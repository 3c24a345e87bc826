-- The allocation lock is taken and opened.
use Rattle.std.proofs.Common.{◌≡◌, ◌≢◌, ℕ, ◌+◌, ◌*◌, ◌^◌, ◌<◌, ◌≤◌, eqb, Bool, true, false, List, length, set, refl, sym, ap, ◌∙◌, subst, inl, inr, arith, eq-eqb, ne_eqb, get_or-set_same, get_or-set_other, Option, Some, None}
use mathlib.Core.Logic.{dite}
use native.Mathlib.Decide.{ℕ_discrete}
use lib.ListN.{get_elem?}
use mathlib.Core.Option.{some}
use prog.Atomic.{either}
use Rattle.std.specs.Prelude.{is_some}
use Rattle.atomic_table.specs.Table.{State, Act, keeps, Valid, stepped, carried_after, Allows}
use Rattle.bihash_words.specs.Sizes.{Sizes}
use Rattle.bihash_words.specs.Words.{bit}
use Rattle.bihash_rule.specs.Words.{allocation_lock_of, returned_count_at}
use Rattle.bihash_rule.specs.Partition.{IsPartition}
use Rattle.bihash_rule.specs.PageStores.{StoreState, IsStore, returned_in, all_used, HoldsStore, LeftIf}
use Rattle.bihash_rule.specs.WordRule.{WordRule}
use Rattle.bihash_steps.specs.Steps.{ViewOfSeat}
use Rattle.bihash_steps.specs.BucketSteps.{without_notes}
use Rattle.bihash_steps.specs.StoreSteps.{holding, TellsStoreLock, store_opened, TellsStoreOpened}
use Rattle.bihash_rule.specs.declared.view.PageStore.{PageStore}
use Rattle.bihash_rule.specs.declared.view.Holdings.{Holdings}
use Rattle.bihash_rule.specs.declared.view.LockedStore.{LockedStore}
use Rattle.bihash_rule.specs.declared.view.View.{View}
use Rattle.bihash_steps.proofs.Lists.{there}
use Rattle.bihash_steps.proofs.CountWord.{front, not_lone}
use Rattle.bihash_steps.proofs.Frames.{free_none, free_own}
use Rattle.bihash_steps.proofs.OwnedWords.{block_keeps, runs_still}
use Rattle.bihash_steps.proofs.pool_steps.PoolWords.{list_still}
use Rattle.bihash_steps.proofs.pool_steps.PoolFrame.{after_store, unnoted_rule, word_inside, held_store, store_moved}

free_lock : (lock : Option ℕ) → bit (is_some lock) ≡ 0 → lock ≡ None
free_lock None e = refl
free_lock (Some j) e = absurd (omega arith)

module _ (z : Sizes) where
  -- the page store follows a store of its lock
  relocked : (words : List ℕ) (n writes : ℕ) (q : StoreState) (lock : Option ℕ) → 1 < length words → n ≡ bit (is_some lock)
      → (lock ≡ None → q.store.unpublished ≡ false) → IsStore z words writes q → IsStore z (set words 1 n) writes (record q { lock = lock })
  relocked words n writes q lock inside is settled ok = record {
    lock = get_or-set_same words 1 n 0 inside ∙ is;
    used = get_or-set_other words 1 2 n 0 (λ e. omega arith) ∙ ok.used;
    wide = ok.wide;
    count = λ log2 small. get_or-set_other words 1 (returned_count_at log2) n 0 (λ e. omega arith) ∙ ok.count log2 small;
    lists = λ log2 small. list_still z words 1 n log2 (returned_in q.store log2) (omega arith) (ok.lists log2 small);
    room = ok.room;
    bound = ok.bound;
    settled = settled;
  }

  -- a lone caller that has no allocation lock finds it open
  pub alone_open : (s : State (Unit {0}) View) (r : WordRule z s) (id : ℕ) (v : View) → get_elem? s.views id ≡ some v → v.lone ≡ true
      → v.holds.store ≡ None → r.table.store.lock ≡ None
  alone_open s r id v at lone without = go r.table.store.lock refl
    where
      go : (lock : Option ℕ) → r.table.store.lock ≡ lock → lock ≡ None
      go None e = refl
      go (Some j) e =
          let u = there s.views j (r.keeper j e) in
          let ok = r.each_view j u.0 u.1 in
          let held = ok.only_store e in
          absurd (dite (ℕ_discrete j id)
          (λ is. let mine = (r.each_view id v at).only_store (e ∙ ap Some is) in
          let both : Some mine.0 ≡ None = sym mine.1 ∙ without in cc)
          (λ ne. elim ok.able [
            | inl acts ↦ not_lone z s r j id u.0 v u.1 at (λ h. ne (sym h)) acts lone
            | inr bare ↦ let both : Some held.0 ≡ None = sym held.1 ∙ ap (λ (h : Holdings). h.store) bare in cc
          ]))

  pub locks_store : (slots id : ℕ) (m : ViewOfSeat) → 1 ≤ length m.0.records
      → Allows (WordRule z) slots id m 1 (λ n. either (eqb n 0) 1 n) (TellsStoreLock z m)
  locks_store slots id m acts s r deep at fits = dite (ℕ_discrete word 0) (λ e. taken e) (λ ne. lost ne)
    where
      v : View
      v = m.0

      q : StoreState
      q = r.table.store

      word : ℕ
      word = allocation_lock_of s.words

      known : LockedStore
      known = record { store = q.store; listed = None }

      locked : View
      locked = holding v (Some known) v.holds.block

      Outcome : Type 0
      Outcome = (w : View) × (a : Act (Unit {0})) × Valid s.homes m.1 a
          × WordRule z (stepped s 1 (either (eqb word 0) 1 word) id m.1 w a) × TellsStoreLock z m word (w, carried_after m.1 a)

      locked_rule : q.lock ≡ None → WordRule z (after_store s id locked 1 1)
      locked_rule none_holds = let top = front z in let inside = word_inside z s r id v at acts 1 (omega arith) in
          store_moved z s r id v at acts 1 1 (record q { lock = Some id }) (Some known) v.holds.block None (omega arith) (omega arith)
          (free_none id q.lock none_holds) (free_own id (Some id) refl)
          (relocked s.words 1 (all_used z r.table.openings r.table.bucket) q (Some id) inside refl (λ e. absurd (cc)) r.store)
          record { held = refl; store = refl; listed = tt } (λ _. (known, refl))
          (block_keeps z s.words 1 1 (let f = front z in omega arith) v.holds.block (r.each_view id v at).block) tt
          (subst (IsPartition z.pages q.store.used)
          (sym (runs_still r.table.bucket r.table.bucket q.store q.store s.views id v locked (λ b. refl) (λ log2. refl) at refl)) r.parted)

      taken : word ≡ 0 → Outcome
      taken e = let none_holds = free_lock q.lock (sym r.store.lock ∙ e) in (
        locked,
        keeps,
        tt,
        subst (λ (b : Bool). WordRule z (after_store s id locked 1 (either b 1 word))) (sym (eq-eqb word 0 e)) (locked_rule none_holds),
        record {
          slots = refl;
          taken = λ _. record {
            store = q.store;
            wide = (let w = r.store.wide in omega arith);
            few = r.parted.few;
            settled = r.store.settled none_holds;
            room = r.store.room;
            is = refl;
          };
          not = λ ne. absurd (ne e);
          lone = λ _ _. e;
        },
      )

      lost : word ≢ 0 → Outcome
      lost ne = (
        without_notes v,
        keeps,
        tt,
        subst (λ (b : Bool). WordRule z (after_store s id (without_notes v) 1 (either b 1 word))) (sym (ne_eqb word 0 ne)) (unnoted_rule z s r id v at 1),
        record {
          slots = refl;
          taken = λ e. absurd (ne e);
          not = λ _. refl;
          lone = λ lone without. r.store.lock ∙ ap (λ (lock : Option ℕ). bit (is_some lock)) (alone_open s r id v at lone without);
        },
      )

  pub opens_store : (slots id : ℕ) (m : ViewOfSeat) (n : LockedStore) → m.0.holds.store ≡ Some n → n.store.unpublished ≡ false
      → 1 ≤ length m.0.records → Allows (WordRule z) slots id m 1 (λ _. 0) (λ _. TellsStoreOpened m)
  opens_store slots id m n held settled acts s r deep at fits = (
    store_opened v n,
    keeps,
    tt,
    rule,
    λ k e. let one : n ≡ k = cc in ap (λ (k : LockedStore). (store_opened v k, m.1)) one,
  )
    where
      v : View
      v = m.0

      q : StoreState
      q = r.table.store

      has : HoldsStore z s.words q id n
      has = held_store z s r id v at n held

      whole : q.store.unpublished ≡ false
      whole = ap (λ (k : PageStore). k.unpublished) (sym has.store) ∙ settled

      few : q.store.used ≤ all_used z r.table.openings r.table.bucket
      few = let w : ℕ = all_used z r.table.openings r.table.bucket in let t : ℕ = 2 ^ z.max_log2 in
          let bound : q.store.used ≤ w + t * 0 = subst (λ (b : Bool). q.store.used ≤ w + t * bit b) whole r.store.bound in omega arith

      rule : WordRule z (after_store s id (store_opened v n) 1 0)
      rule = let top = front z in let inside = word_inside z s r id v at acts 1 (omega arith) in
          store_moved z s r id v at acts 1 0 (record q { lock = None }) None v.holds.block (Some n.store) (omega arith) (omega arith)
          (free_own id q.lock has.held) (free_none id None refl)
          (relocked s.words 0 (all_used z r.table.openings r.table.bucket) q None inside refl (λ _. whole) r.store)
          tt (λ e. absurd (cc))
          (block_keeps z s.words 1 0 (let f = front z in omega arith) v.holds.block (r.each_view id v at).block)
          (subst (λ (k : PageStore). LeftIf z (all_used z r.table.openings r.table.bucket) (Some k)) (sym has.store) (r.parted.few, few))
          (subst (IsPartition z.pages q.store.used)
          (sym (runs_still r.table.bucket r.table.bucket q.store q.store s.views id v (store_opened v n) (λ b. refl) (λ log2. refl) at refl))
          r.parted)
