-- A block is taken from the page store: the last returned one of its size, or pages that were never used.
use Rattle.std.proofs.Common.{◌≡◌, ℕ, zero, suc, ◌+◌, ◌-◌, ◌*◌, ◌^◌, ◌<◌, ◌≤◌, Bool, true, false, List, length, set, take, refl, sym, ap, ◌∙◌, subst, arith, mul-le-mul_left, mul-le-mul_right, get_or-set_same, get_or-set_other, Some, None}
use native.Mathlib.Nat.{pow-le-pow_right}
use Rattle.std.specs.Prelude.{slice_index}
use Rattle.std.proofs.lemmas.Nat.{pow_pos}
use Rattle.std.proofs.lemmas.List.{get_or-take, length-take-le}
use Rattle.atomic_table.specs.Table.{keeps, Allows}
use Rattle.bihash_words.specs.Sizes.{Sizes}
use Rattle.bihash_words.specs.Words.{bit}
use Rattle.bihash_rule.specs.Words.{returned_count_at, front_words, page_at, block_words, page_words, all_words}
use Rattle.bihash_rule.specs.Partition.{returned_at, run_of, IsPartition}
use Rattle.bihash_rule.specs.PageStores.{IsStore, returned_in, all_used, HoldsBlock, run_in, runs_now}
use Rattle.bihash_rule.specs.WordRule.{WordRule}
use Rattle.bihash_steps.specs.Steps.{ViewOfSeat}
use Rattle.bihash_steps.specs.StoreSteps.{holding, unlisted, grown, TakesBlock, MayTakeReturned, TellsTakenReturned, MayTakeUnused, TellsTakenUnused}
use Rattle.bihash_rule.specs.declared.view.PageStore.{PageStore}
use Rattle.bihash_rule.specs.declared.view.LockedStore.{LockedStore}
use Rattle.bihash_rule.specs.declared.view.HeldBlock.{HeldBlock}
use Rattle.bihash_rule.specs.declared.view.View.{View}
use Rattle.bihash_steps.proofs.CountWord.{front}
use Rattle.bihash_steps.proofs.OwnedWords.{word_of_block}
use Rattle.bihash_steps.proofs.Exchange.{returned_run, parted_unlisted, parted_grown}
use Rattle.bihash_steps.proofs.pool_steps.PoolWords.{same_power, list_still, span, span_long, span_still}
use Rattle.bihash_steps.proofs.pool_steps.PoolFrame.{after_store, word_inside, known_store, known_runs, held_moved}
use Rattle.bihash_steps.proofs.pool_steps.PoolReturn.{relist}

few_bit : (mark : Bool) → bit mark ≤ 1
few_bit true = omega arith
few_bit false = omega arith

module _ (z : Sizes) where
  pub block_is : (page log2 : ℕ) → 1 ≤ page → block_words z page log2 ≡ 2 ^ log2 * page_words z
  block_is zero log2 h = absurd (omega arith)
  block_is (suc page) log2 h = refl

  -- the words of a block that ends with the last page, or before it, are in the row
  block_inside : (page log2 : ℕ) → 1 ≤ page → page + 2 ^ log2 ≤ z.pages + 1 → page_at z page + 2 ^ log2 * page_words z ≤ all_words z
  block_inside page log2 some_page near =
      let size : ℕ = 2 ^ log2 * page_words z in
      let pos = pow_pos log2 in
      let some_word : 1 * page_words z ≤ size = mul-le-mul_right (page_words z) pos in
      let one : 1 ≤ page_words z = omega arith in
      let last : size - 1 < block_words z page log2 = subst (λ (k : ℕ). size - 1 < k) (sym (block_is page log2 some_page)) (omega arith) in
      let l = word_of_block z page log2 (size - 1) near last in
      let x : ℕ = (page - 1) * page_words z in let y : ℕ = z.pages * page_words z in omega arith

  -- the block of this log2 at a page, with the words that stand there
  abbrev block_at : List ℕ → ℕ → ℕ → HeldBlock
  block_at words page log2 = record { page = page; log2 = log2; words = span words (page_at z page) (2 ^ log2 * page_words z) }

  module _ (words : List ℕ) (page log2 : ℕ) (whole : length words ≡ all_words z) (some_page : 1 ≤ page) (near : page + 2 ^ log2 ≤ z.pages + 1) where
    inside : page_at z page + 2 ^ log2 * page_words z ≤ length words
    inside = subst (λ (k : ℕ). page_at z page + 2 ^ log2 * page_words z ≤ k) (sym whole) (block_inside page log2 some_page near)

    -- the words of a block that is taken are known
    found_block : (i word : ℕ) → log2 ≤ z.max_log2 → i < front_words z → HoldsBlock z (set words i word) (block_at words page log2)
    found_block i word small before = record {
      some_page = some_page;
      small = small;
      size = span_long words (page_at z page) (2 ^ log2 * page_words z) inside ∙ sym (block_is page log2 some_page);
      stands = span_still words (page_at z page) (2 ^ log2 * page_words z) inside i word (let x : ℕ = (page - 1) * page_words z in omega arith);
    }

    takes_block : (v : View) (store : PageStore)
        → TakesBlock z v store page log2 (holding v (Some (record { store = store; listed = None })) (Some (block_at words page log2)))
    takes_block v store = record {
      words = span words (page_at z page) (2 ^ log2 * page_words z);
      size = span_long words (page_at z page) (2 ^ log2 * page_words z) inside;
      some_page = some_page;
      near = near;
      is = refl;
    }

  pub takes_returned_block : (slots id at number log2 : ℕ) (m : ViewOfSeat) → MayTakeReturned z m.0 log2 number → at ≡ returned_count_at log2
      → 1 ≤ length m.0.records → Allows (WordRule z) slots id m at (λ _. number) (λ _. TellsTakenReturned z at number m)
  takes_returned_block slots id at number log2 m may is acts s r deep seat fits = (
    after,
    keeps,
    tt,
    subst (λ (p : ℕ × ℕ). WordRule z (after_store s id after p.0 p.1)) (λ t. (sym is t, long t)) rule,
    record {
      slots = refl;
      taken = λ log2' k may' is' e.
          let same : log2 ≡ log2' = omega arith in
          let held = may.store in
          let one : n ≡ k = cc in
          subst (λ (p : ℕ × LockedStore). TakesBlock z v (unlisted p.1.store p.0) (slice_index (returned_in p.1.store p.0) number) p.0 after)
          (λ t. (same t, one t)) (takes_block s.words page log2 r.wide run.0 run.1 v (unlisted n.store log2));
    },
  )
    where
      v : View
      v = m.0

      n : LockedStore
      n = may.locked

      xs : List ℕ
      xs = returned_in n.store log2

      page : ℕ
      page = slice_index xs number

      after : View
      after = holding v (Some (record { store = unlisted n.store log2; listed = None })) (Some (block_at s.words page log2))

      rest : List ℕ
      rest = take (length xs - 1) xs

      long : length rest ≡ number
      long = let all = may.listed in length-take-le (length xs - 1) xs (omega arith) ∙ omega arith

      ok : IsStore z s.words (all_used z r.table.openings r.table.bucket) (record { store = n.store; lock = Some id })
      ok = known_store z s r id v seat n may.store

      parted : IsPartition z.pages n.store.used (runs_now r.table.bucket n.store s.views)
      parted = known_runs z s r id v seat n may.store

      run : (1 ≤ page) × (page + 2 ^ log2 ≤ z.pages + 1)
      run = let all = may.listed in
          let h = parted.inside (returned_at log2 number) (record { page = page; log2 = log2 })
          (returned_run r.table.bucket n.store s.views log2 number (omega arith)) in
          let few = parted.few in let low = h.1 in (h.0, omega arith)

      bound : n.store.used ≤ all_used z r.table.openings r.table.bucket + 2 ^ z.max_log2 * 1
      bound = let m = mul-le-mul_left (2 ^ z.max_log2) (few_bit n.store.unpublished) in
          let w : ℕ = all_used z r.table.openings r.table.bucket in
          let a : ℕ = 2 ^ z.max_log2 * bit n.store.unpublished in let b : ℕ = 2 ^ z.max_log2 * 1 in
          let less : a ≤ b = m in let old : n.store.used ≤ w + a = ok.bound in omega arith

      rule : WordRule z (after_store s id after (returned_count_at log2) (length rest))
      rule = let top = front z in let small = may.small in
          held_moved z s r id v seat n may.store (returned_count_at log2) (length rest) (unlisted n.store log2) None
          (Some (block_at s.words page log2)) acts (omega arith) (omega arith)
          (relist z s.words (all_used z r.table.openings r.table.bucket) log2 rest true (record { store = n.store; lock = Some id }) r.wide may.small
          (let fits = ok.room log2 small in let all = may.listed in let l = long in omega arith)
          (λ k lt. let l = long in let all = may.listed in
          ok.lists log2 small k (omega arith) ∙ sym (get_or-take (length xs - 1) xs k 0 (omega arith)))
          bound (λ e. absurd (cc)) ok)
          tt (found_block s.words page log2 r.wide run.0 run.1 (returned_count_at log2) (length rest) small (omega arith))
          (parted_unlisted z.pages r.table.bucket n.store s.views id v after seat parted log2 number (let wide = ok.wide in omega arith) may.listed
          (ap run_in may.block) refl)

  pub takes_unused_block : (slots id number log2 used : ℕ) (m : ViewOfSeat) → MayTakeUnused z m.0 log2 used → number ≡ used + 2 ^ log2
      → 1 ≤ length m.0.records → Allows (WordRule z) slots id m 2 (λ _. number) (λ _. TellsTakenUnused z number m)
  takes_unused_block slots id number log2 used m may is acts s r deep seat fits = (
    after,
    keeps,
    tt,
    subst (λ (k : ℕ). WordRule z (after_store s id after 2 k)) (sym is) rule,
    record {
      slots = refl;
      taken = λ log2' used' k may' is' e.
          let held = may.store in
          let held' = may'.store in
          let one : n ≡ k = cc in
          let other : n ≡ may'.locked = cc in
          let mark : used ≡ used' = sym may.mark ∙ (ap (λ (n : LockedStore). n.store.used) other ∙ may'.mark) in
          let x : ℕ = 2 ^ log2 in let y : ℕ = 2 ^ log2' in
          let same : log2 ≡ log2' = same_power log2 log2' (let e : number ≡ used + x = is in let f : number ≡ used' + y = is' in omega arith) in
          subst (λ (p : ℕ × ℕ × LockedStore). TakesBlock z v (grown p.2.store p.0) (p.1 + 1) p.0 after)
          (λ t. (same t, mark t, one t)) (takes_block s.words (used + 1) log2 r.wide (omega arith) near v (grown n.store log2));
    },
  )
    where
      v : View
      v = m.0

      n : LockedStore
      n = may.locked

      after : View
      after = holding v (Some (record { store = grown n.store log2; listed = None })) (Some (block_at s.words (used + 1) log2))

      near : (used + 1) + 2 ^ log2 ≤ z.pages + 1
      near = let left = may.left in omega arith

      ok : IsStore z s.words (all_used z r.table.openings r.table.bucket) (record { store = n.store; lock = Some id })
      ok = known_store z s r id v seat n may.store

      bound : n.store.used + 2 ^ log2 ≤ all_used z r.table.openings r.table.bucket + 2 ^ z.max_log2 * 1
      bound = let w : ℕ = all_used z r.table.openings r.table.bucket in let t : ℕ = 2 ^ z.max_log2 in
          let few : n.store.used ≤ w + t * 0 = subst (λ (b : Bool). n.store.used ≤ w + t * bit b) may.settled ok.bound in
          let less : 2 ^ log2 ≤ t = pow-le-pow_right {n = 2} (omega arith) may.small in omega arith

      grown_store : IsStore z (set s.words 2 (n.store.used + 2 ^ log2)) (all_used z r.table.openings r.table.bucket)
          (record { store = grown n.store log2; lock = Some id })
      grown_store = let top = front z in record {
        lock = get_or-set_other s.words 2 1 (n.store.used + 2 ^ log2) 0 (λ e. omega arith) ∙ ok.lock;
        used = get_or-set_same s.words 2 (n.store.used + 2 ^ log2) 0 (word_inside z s r id v seat acts 2 (omega arith));
        wide = ok.wide;
        count = λ other h. get_or-set_other s.words 2 (returned_count_at other) (n.store.used + 2 ^ log2) 0 (λ e. omega arith) ∙ ok.count other h;
        lists = λ other h. list_still z s.words 2 (n.store.used + 2 ^ log2) other (returned_in n.store other) (omega arith) (ok.lists other h);
        room = ok.room;
        bound = bound;
        settled = λ e. absurd (cc);
      }

      known_rule : WordRule z (after_store s id after 2 (n.store.used + 2 ^ log2))
      known_rule = let top = front z in
          held_moved z s r id v seat n may.store 2 (n.store.used + 2 ^ log2) (grown n.store log2) None (Some (block_at s.words (used + 1) log2)) acts
          (omega arith) (omega arith) grown_store
          tt (found_block s.words (used + 1) log2 r.wide (omega arith) near 2 (n.store.used + 2 ^ log2) may.small (omega arith))
          (parted_grown z.pages r.table.bucket n.store s.views id v after seat (known_runs z s r id v seat n may.store) log2
          (subst (λ (k : ℕ). k + 2 ^ log2 ≤ z.pages) (sym may.mark) may.left) (ap run_in may.block)
          (ap (λ (k : ℕ). run_of (k + 1) log2) (sym may.mark)))

      rule : WordRule z (after_store s id after 2 (used + 2 ^ log2))
      rule = subst (λ (k : ℕ). WordRule z (after_store s id after 2 (k + 2 ^ log2))) may.mark known_rule
