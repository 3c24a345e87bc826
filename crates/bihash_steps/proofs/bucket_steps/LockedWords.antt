-- Loads and stores of the words of a block under its bucket's lock.
use Rattle.std.proofs.Common.{◌≡◌, ℕ, suc, ◌+◌, ◌-◌, ◌*◌, ◌^◌, ◌<◌, ◌≤◌, true, true≢false, List, length, set, refl, sym, ap, ◌∙◌, subst, inl, inr, arith, length-set, get_or-set_other, Option, Some, None}
use mathlib.Core.Option.{some}
use lib.ListN.{get_elem?}
use Rattle.std.specs.Prelude.{slice_index, is_some}
use Rattle.atomic_table.specs.Table.{State, keeps, Allows}
use Rattle.bihash_words.specs.Sizes.{Sizes}
use Rattle.bihash_words.specs.Words.{packed}
use Rattle.bihash_rule.specs.Words.{bucket_at, page_at, page_words, block_words}
use Rattle.bihash_rule.specs.Callers.{known_at}
use Rattle.bihash_rule.specs.Partition.{held_by, run_of}
use Rattle.bihash_rule.specs.Buckets.{HoldsBucket, HoldsBucketIf, word_of}
use Rattle.bihash_rule.specs.PageStores.{HoldsBlockIf, run_in, run_held, runs_now}
use Rattle.bihash_rule.specs.WordRule.{WordRule}
use Rattle.bihash_steps.specs.Steps.{ViewOfSeat}
use Rattle.bihash_steps.specs.BucketSteps.{with_lock, stored_in, IsLockedWord, TellsLockedWord, TellsStored}
use Rattle.bihash_rule.specs.declared.view.Extent.{Extent}
use Rattle.bihash_rule.specs.declared.view.Holdings.{Holdings}
use Rattle.bihash_rule.specs.declared.view.LockedBucket.{LockedBucket}
use Rattle.bihash_rule.specs.declared.view.HeldBlock.{HeldBlock}
use Rattle.bihash_rule.specs.declared.view.View.{View}
use Rattle.bihash_steps.proofs.BucketPlaces.{place_inside}
use Rattle.bihash_steps.proofs.CountWord.{kept_log, stays_at, others_apart}
use Rattle.bihash_steps.proofs.Frames.{Beside, free_own, stands_beside}
use Rattle.bihash_steps.proofs.OwnedWords.{beside_block, stored_stands, store_still, count_still, bucket_after, page_after, word_of_block}
use Rattle.bihash_steps.proofs.bucket_steps.Relocks.{relocked_rule}

module _ (z : Sizes) (s : State (Unit {0}) View) (r : WordRule z s) (id : ℕ) (v : View) (l : LockedBucket) (at : get_elem? s.views id ≡ some v)
    (is : v.holds.bucket ≡ Some l) where
  -- what a seat with this lock has
  pub held_bucket : HoldsBucket z s.words id (known_at v.known l.bucket) l (r.table.bucket l.bucket)
  held_bucket = subst (HoldsBucketIf z s.words r.table.bucket id v.known) is (r.each_view id v at).bucket

  -- it has a number, and no other lock
  pub holder_acts : 1 ≤ length v.records
  holder_acts = elim (r.each_view id v at).able [
    | inl acts ↦ acts
    | inr nothing ↦ let none = ap (λ (h : Holdings). h.bucket) nothing in absurd (cc (is, none))
  ]

  pub one_lock : (o : LockedBucket) → v.holds.bucket ≡ Some o → o.bucket ≡ l.bucket
  one_lock o e = let same : o ≡ l = cc (is, e) in ap (λ (y : LockedBucket). y.bucket) same

module _ (z : Sizes) where
  pub loads_locked_word : (slots id page k : ℕ) (m : ViewOfSeat) → IsLockedWord z m.0 page k
      → Allows (WordRule z) slots id m (page_at z page + k) (λ n. n) (TellsLockedWord k m)
  loads_locked_word slots id page k m may s r deep at fits =
      let v = m.0 in
      let h = held_bucket z s r id v may.lock at may.held in (
        v,
        keeps,
        tt,
        stays_at z s r (page_at z page + k) id v v at refl (r.each_view id v at) (others_apart z s r id v at)
            (kept_log z s r id v v at refl refl),
        record {
          same = refl;
          value = λ l is. let one : may.lock ≡ l = cc (may.held, is) in
              let inside : k < block_words z may.lock.extent.page may.lock.extent.size.log2
              = subst (λ (p : ℕ). k < block_words z p may.lock.extent.size.log2) (sym may.first) may.inside in
              ap (λ (p : ℕ). slice_index s.words (page_at z p + k)) (sym may.first)
              ∙ (h.stands k (subst (λ (n : ℕ). k < n) (sym h.size) inside) ∙ ap (λ (y : LockedBucket). slice_index y.now k) one);
        },
      )

  -- ---- A store

  module _ (s : State (Unit {0}) View) (r : WordRule z s) (id : ℕ) (v : View) (l : LockedBucket) (at : get_elem? s.views id ≡ some v)
      (is : v.holds.bucket ≡ Some l) (k n : ℕ) (inside : k < block_words z l.extent.page l.extent.size.log2) where
    abbrev words' : List ℕ
    words' = set s.words (page_at z l.extent.page + k) n

    -- what others have stands, and what any seat's block holds
    beside_lock : (j : ℕ) → Beside z (runs_now r.table.bucket r.table.store.store s.views) s.words words' l.bucket j
    beside_lock j = beside_block z r.table.store.store.used (runs_now r.table.bucket r.table.store.store s.views) r.parted s.words l.bucket j
        l.extent.page l.extent.size.log2 k n
        (inl (ap (λ (e : Extent). run_of e.page e.size.log2) (sym (held_bucket z s r id v l at is).extent))) inside

    own_block : (block : Option HeldBlock) → run_in v.holds.block ≡ run_in block → HoldsBlockIf z s.words block → HoldsBlockIf z words' block
    own_block None e h = tt
    own_block (Some o) e h = record {
      some_page = h.some_page;
      small = h.small;
      size = h.size;
      stands = stands_beside z (runs_now r.table.bucket r.table.store.store s.views) s.words words' l.bucket (suc id) (held_by id) o.page o.log2
          o.words (beside_lock (suc id)) (ap run_held at ∙ e) (λ e. cc) (λ e. let same : id ≡ suc id = cc in omega arith) h.size h.stands;
    }

    stored_rule : l.extent.page + 2 ^ l.extent.size.log2 ≤ z.pages + 1
        → WordRule z record { words = words'; homes = s.homes; views = set s.views id (with_lock v (Some (stored_in l k n))) }
    stored_rule near =
        let h = held_bucket z s r id v l at is in
        let acts = holder_acts z s r id v l at is in
        let ok = r.each_view id v at in
        let i : ℕ = page_at z l.extent.page + k in
        let long : i < length s.words
        = let a = word_of_block z l.extent.page l.extent.size.log2 k near inside in let wide = r.wide in omega arith in
        relocked_rule z s r l.bucket id v v.records v.known (Some (stored_in l k n)) v.log words' (Some id) true record {
          logged = kept_log z s r id v (with_lock v (Some (stored_in l k n))) at refl refl;
          at = at;
          acts = acts;
          inside = h.inside;
          wide = length-set s.words i n;
          count = count_still z s.words i n (let a = page_after z l.extent.page k in let c = bucket_after z 0 in omega arith);
          front = store_still z s.words i n (page_after z l.extent.page k);
          beside = beside_lock id;
          block = own_block v.holds.block refl ok.block;
          free = free_own id (r.table.bucket l.bucket).lock h.held;
          free' = free_own id (Some id) refl;
          stored = λ e. absurd (true≢false e);
          word = get_or-set_other s.words i (bucket_at z l.bucket) n 0
              (λ e. let p = place_inside z l.bucket h.inside in let y : ℕ = (l.extent.page - 1) * page_words z in omega arith)
              ∙ ((r.each_bucket l.bucket h.inside).word ∙ ap (λ (lock : Option ℕ). packed
              (word_of (r.table.bucket l.bucket).extent (is_some lock) (length (r.table.bucket l.bucket).history))) h.held);
          at_rest = λ e. cc;
          clean = λ e. cc;
          informed = ok.informed;
          numbers = ok.numbers;
          whole = ok.lone;
          able = acts;
          same_numbers = λ n h. h;
          short = ok.short;
          other = one_lock z s r id v l at is;
          noted = λ _. (stored_in l k n, refl, refl);
          holds = (
            refl,
            record {
              inside = h.inside;
              held = refl;
              extent = h.extent;
              version = h.version;
              fresh = h.fresh;
              was = h.was;
              size = length-set l.now k n ∙ h.size;
              stands = stored_stands s.words (page_at z l.extent.page) k n l.now long (let e = h.size in omega arith) h.stands;
              clean = λ e. absurd (true≢false e);
              dirty = refl;
            },
          );
        }

  stores_at : (slots id k n : ℕ) (m : ViewOfSeat) (l : LockedBucket) → m.0.holds.bucket ≡ Some l
      → l.extent.page + 2 ^ l.extent.size.log2 ≤ z.pages + 1 → k < block_words z l.extent.page l.extent.size.log2
      → Allows (WordRule z) slots id m (page_at z l.extent.page + k) (λ _. n) (λ _. TellsStored k n m)
  stores_at slots id k n m l is near inside s r deep at fits = (
    with_lock m.0 (Some (stored_in l k n)),
    keeps,
    tt,
    stored_rule s r id m.0 l at is k n inside near,
    λ o e. let one : l ≡ o = cc (is, e) in ap (λ (y : LockedBucket). (with_lock m.0 (Some (stored_in y k n)), m.1)) one,
  )

  pub stores_locked_word : (slots id page k n : ℕ) (m : ViewOfSeat) → IsLockedWord z m.0 page k
      → Allows (WordRule z) slots id m (page_at z page + k) (λ _. n) (λ _. TellsStored k n m)
  stores_locked_word slots id page k n m may =
      subst (λ (p : ℕ). Allows (WordRule z) slots id m (page_at z p + k) (λ _. n) (λ _. TellsStored k n m)) may.first
      (stores_at slots id k n m may.lock may.held
      (subst (λ (p : ℕ). p + 2 ^ may.lock.extent.size.log2 ≤ z.pages + 1) (sym may.first) may.near)
      (subst (λ (p : ℕ). k < block_words z p may.lock.extent.size.log2) (sym may.first) may.inside))
