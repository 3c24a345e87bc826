-- A word of a held block is stored: nobody else sees it.
use Rattle.std.proofs.Common.{◌≡◌, ℕ, ◌+◌, ◌<◌, ◌≤◌, List, length, set, refl, sym, ap, ◌∙◌, subst, inl, inr, arith, le_refl, length-set, Option, Some, None}
use mathlib.Core.Option.{some}
use lib.ListN.{get_elem?}
use Rattle.std.specs.Prelude.{slice_index}
use Rattle.atomic_table.specs.Table.{State, keeps, Allows}
use Rattle.bihash_words.specs.Sizes.{Sizes}
use Rattle.bihash_rule.specs.Words.{count_of, front_words, buckets, page_at, block_words}
use Rattle.bihash_rule.specs.Partition.{PageRun, Owner, of_bucket, held_by, IsPartition, run_of}
use Rattle.bihash_rule.specs.Buckets.{HoldsBucketIf}
use Rattle.bihash_rule.specs.PageStores.{HoldsBlock, HoldsBlockIf, all_used, run_in, run_held, runs_now}
use Rattle.bihash_rule.specs.WordRule.{IsView, WordRule}
use Rattle.bihash_steps.specs.Steps.{ViewOfSeat}
use Rattle.bihash_steps.specs.StoreSteps.{holding, IsHeldWord, stored_at}
use Rattle.bihash_rule.specs.declared.view.Extent.{Extent}
use Rattle.bihash_rule.specs.declared.view.Known.{Known}
use Rattle.bihash_rule.specs.declared.view.LockedBucket.{LockedBucket}
use Rattle.bihash_rule.specs.declared.view.HeldBlock.{HeldBlock}
use Rattle.bihash_rule.specs.declared.view.View.{View}
use Rattle.bihash_steps.proofs.Lists.{no_row}
use Rattle.bihash_steps.proofs.CountWord.{front, kept_log}
use Rattle.bihash_steps.proofs.Frames.{Beside, free_none, grows_not, keeps_refl, stands_beside, store_keeps, store_lock_beside, moved}
use Rattle.bihash_steps.proofs.OwnedWords.{near_end, run_word, beside_block, stored_stands, store_still, count_still, page_after, word_of_block, runs_still}

module _ (z : Sizes) (s : State (Unit {0}) View) (r : WordRule z s) (id : ℕ) (v : View) (at : get_elem? s.views id ≡ some v)
    (acts : 1 ≤ length v.records) (h : HeldBlock) (held : v.holds.block ≡ Some h) (k n : ℕ) (below : k < block_words z h.page h.log2) where
  abbrev has : Owner → Option PageRun
  has = runs_now r.table.bucket r.table.store.store s.views

  abbrev words' : List ℕ
  words' = set s.words (page_at z h.page + k) n

  abbrev stored : View
  stored = holding v v.holds.store (Some (stored_at h k n))

  owned : has (held_by id) ≡ run_of h.page h.log2
  owned = ap run_held at ∙ ap run_in held

  inside : page_at z h.page + k < length s.words
  inside = let word = run_word z h.page h.log2 k below in
      let near = near_end z r.table.store.store.used has r.parted (held_by id) (record { page = h.page; log2 = h.log2 }) (owned ∙ word.0) in
      subst (λ (all : ℕ). page_at z h.page + k < all) (sym r.wide) (word_of_block z h.page h.log2 k near below)

  beside : Beside z has s.words words' (buckets z) id
  beside = beside_block z r.table.store.store.used has r.parted s.words (buckets z) id h.page h.log2 k n (inr owned) below

  front_same : (i : ℕ) → 1 ≤ i → i < front_words z → slice_index words' i ≡ slice_index s.words i
  front_same = store_still z s.words (page_at z h.page + k) n (page_after z h.page k)

  -- the seat's own bucket has another block
  lock_still : (known : Known) (lock : Option LockedBucket) → HoldsBucketIf z s.words r.table.bucket id known lock
      → HoldsBucketIf z words' r.table.bucket id known lock
  lock_still known None ok = tt
  lock_still known (Some l) ok = let within = ok.inside in record {
    inside = within;
    held = ok.held;
    extent = ok.extent;
    version = ok.version;
    fresh = ok.fresh;
    was = ok.was;
    size = ok.size;
    stands = stands_beside z has s.words words' (buckets z) id (of_bucket l.bucket) l.extent.page l.extent.size.log2 l.now beside
        (ap (λ (e : Extent). run_of e.page e.size.log2) (sym ok.extent)) (λ e. let same : l.bucket ≡ buckets z = cc in omega arith) (λ e. cc) ok.size
        ok.stands;
    clean = ok.clean;
    dirty = ok.dirty;
  }

  block_stored : HoldsBlock z words' (stored_at h k n)
  block_stored = let ok = subst (HoldsBlockIf z s.words) held (r.each_view id v at).block in record {
    some_page = ok.some_page;
    small = ok.small;
    size = length-set h.words k n ∙ ok.size;
    stands = stored_stands s.words (page_at z h.page) k n h.words inside (subst (λ (size : ℕ). k < size) (sym ok.size) below) ok.stands;
  }

  view_stored : IsView z words' (count_of s.words) r.table id stored
  view_stored = let ok = r.each_view id v at in record {
    informed = ok.informed;
    numbers = ok.numbers;
    seen = ok.seen;
    lone = ok.lone;
    able = inl acts;
    bucket = lock_still v.known v.holds.bucket ok.bucket;
    only = ok.only;
    store = store_lock_beside z s.words words' front_same r.table.store id v.holds.store ok.store;
    only_store = ok.only_store;
    block = block_stored;
    open_bucket = tt;
    still = λ _. tt;
    row = λ _. no_row words';
    short = ok.short;
    left = tt;
    meeting = tt;
  }

  held_word_rule : WordRule z record { words = words'; homes = s.homes; views = set s.views id stored }
  held_word_rule =
      let nobody = r.outside (buckets z) (le_refl (buckets z)) in
      let behind : 1 ≤ page_at z h.page + k = let top = front z in let past = page_after z h.page k in omega arith in
      moved z s r (buckets z) id v stored words' r.table.bucket r.table.store record {
        at = at;
        acts = acts;
        wide = length-set s.words (page_at z h.page + k) n;
        count = count_still z s.words (page_at z h.page + k) n behind;
        elsewhere = λ c ne. refl;
        beside = beside;
        free = free_none id (r.table.bucket (buckets z)).lock nobody.0;
        free' = free_none id (r.table.bucket (buckets z)).lock nobody.0;
        grows = grows_not v.records (r.table.bucket (buckets z)).history;
        keeps = keeps_refl (r.table.bucket (buckets z));
        here = λ l. absurd (omega arith);
        outside = λ _. nobody;
        store = store_keeps z s.words words' front_same (all_used z r.table.openings r.table.bucket) (all_used z r.table.openings r.table.bucket) r.table.store
            (le_refl (all_used z r.table.openings r.table.bucket)) r.store;
        undisturbed = inl (refl, front_same);
        view = view_stored;
        numbers = λ k has_number. has_number;
        logged = kept_log z s r id v stored at refl refl;
        parted = subst (IsPartition z.pages r.table.store.store.used)
            (sym (runs_still r.table.bucket r.table.bucket r.table.store.store r.table.store.store s.views id v stored (λ b. refl) (λ log2. refl) at
            (ap run_in (sym held)))) r.parted;
      }

-- a caller that holds a block stores a word of it; the address names the word
pub stores_held_word : (z : Sizes) (slots id page k n : ℕ) (m : ViewOfSeat) → IsHeldWord z m.0 page k → 1 ≤ length m.0.records
    → Allows (WordRule z) slots id m (page_at z page + k) (λ _. n) (λ _ m'. (p i : ℕ) (h : HeldBlock) → IsHeldWord z m.0 p i
    → page_at z page + k ≡ page_at z p + i → m.0.holds.block ≡ Some h → m' ≡ (holding m.0 m.0.holds.store (Some (stored_at h i n)), m.1))
stores_held_word z slots id page k n m word acts s r deep at fits =
    let v = m.0 in
    let h = word.block in
    let w : View = holding v v.holds.store (Some (stored_at h k n)) in
    let after : ℕ → State (Unit {0}) View = λ p. record { words = set s.words (page_at z p + k) n; homes = s.homes; views = set s.views id w } in
    let below = subst (λ (p : ℕ). k < block_words z p h.log2) (sym word.first) word.inside in (
      w,
      keeps,
      tt,
      subst (λ (p : ℕ). WordRule z (after p)) word.first (held_word_rule z s r id v at acts h word.held k n below),
      λ p i g named same held.
          let one : h ≡ g = cc in
          let block : h ≡ named.block = cc in
          let place : page ≡ p = sym word.first ∙ (ap (λ (x : HeldBlock). x.page) block ∙ named.first) in
          let address : page_at z page + k ≡ page_at z page + i = same ∙ ap (λ (x : ℕ). page_at z x + i) (sym place) in
          let index : k ≡ i = omega arith in
          λ t. (holding v v.holds.store (Some (stored_at (one t) (index t) n)), m.1),
    )
