-- The frame of the steps on the page store: each is a move on no bucket.
use Rattle.std.proofs.Common.{◌≡◌, ℕ, ◌*◌, ◌<◌, ◌≤◌, List, length, set, refl, sym, subst, inl, inr, arith, le_refl, length-set, Option, Some, None}
use mathlib.Core.Option.{some}
use lib.ListN.{get_elem?}
use Rattle.std.specs.Prelude.{slice_index}
use Rattle.atomic_table.specs.Table.{State}
use Rattle.bihash_words.specs.Sizes.{Sizes}
use Rattle.bihash_rule.specs.Words.{count_of, front_words, buckets, page_words}
use Rattle.bihash_rule.specs.Callers.{known_at}
use Rattle.bihash_rule.specs.Partition.{IsPartition}
use Rattle.bihash_rule.specs.Buckets.{BucketState, HoldsBucketIf}
use Rattle.bihash_rule.specs.PageStores.{StoreState, IsStore, all_used, IsListedIf, HoldsStore, HoldsStoreIf, NotesStore, HoldsBlockIf, LeftIf, runs_now}
use Rattle.bihash_rule.specs.Views.{no_notes}
use Rattle.bihash_rule.specs.WordRule.{TableState, IsView, WordRule}
use Rattle.bihash_steps.specs.BucketSteps.{without_notes}
use Rattle.bihash_steps.specs.StoreSteps.{holding}
use Rattle.bihash_rule.specs.declared.view.Known.{Known}
use Rattle.bihash_rule.specs.declared.view.LockedBucket.{LockedBucket}
use Rattle.bihash_rule.specs.declared.view.PageStore.{PageStore}
use Rattle.bihash_rule.specs.declared.view.ListedPage.{ListedPage}
use Rattle.bihash_rule.specs.declared.view.LockedStore.{LockedStore}
use Rattle.bihash_rule.specs.declared.view.HeldBlock.{HeldBlock}
use Rattle.bihash_rule.specs.declared.view.View.{View}
use Rattle.bihash_steps.proofs.Lists.{no_row}
use Rattle.bihash_steps.proofs.CountWord.{held_still, others_apart, stays_at, kept_log}
use Rattle.bihash_steps.proofs.NotedViews.{unnoted_view}
use Rattle.bihash_steps.proofs.Frames.{Free, free_none, free_own, grows_not, keeps_refl, moved}
use Rattle.bihash_steps.proofs.bucket_steps.Relocks.{same_informed}
use Rattle.bihash_steps.proofs.OwnedWords.{beside_store, front_still, count_still}

-- seat id has stored this word at i, and has the view w
abbrev pub after_store : State (Unit {0}) View → ℕ → View → ℕ → ℕ → State (Unit {0}) View
after_store s id w i word = record { words = set s.words i word; homes = s.homes; views = set s.views id w }

module _ (z : Sizes) where
  -- ---- A view after a store in the words of the page store

  -- the caller holds this of the page store, and this block, and notes what was left
  abbrev pub storing : View → Option LockedStore → Option HeldBlock → Option PageStore → View
  storing v store block left = record v {
    holds = record { bucket = v.holds.bucket; store = store; block = block };
    notes = record no_notes { left = left };
  }

  -- a word of the page store is stored
  module _ (words : List ℕ) (i n : ℕ) (before : i < front_words z) where
    lock_still : (x : ℕ → BucketState) (j : ℕ) (known : Known) (lock : Option LockedBucket) → HoldsBucketIf z words x j known lock
        → HoldsBucketIf z (set words i n) x j known lock
    lock_still x j known None h = tt
    lock_still x j known (Some l) h = held_still z words (set words i n) j (known_at known l.bucket) (known_at known l.bucket) l
        (x l.bucket) h.fresh (front_still z words i n l.extent.page l.now (omega arith) h.stands) h

    view_still : (count : ℕ) (t : TableState) (q : StoreState) (id : ℕ) (v : View) (store : Option LockedStore) (block : Option HeldBlock)
        (left : Option PageStore) → 1 ≤ length v.records → HoldsStoreIf z (set words i n) q id store → NotesStore q id store
        → HoldsBlockIf z (set words i n) block → LeftIf z (all_used z t.openings t.bucket) left → IsView z words count t id v
        → IsView z (set words i n) count (record t { store = q }) id (storing v store block left)
    view_still count t q id v store block left acts held noted has_block few ok = record {
      informed = same_informed z t (record t { store = q }) v.known v.records refl (λ c. refl) ok.informed;
      numbers = ok.numbers;
      seen = ok.seen;
      lone = ok.lone;
      able = inl acts;
      bucket = lock_still t.bucket id v.known v.holds.bucket ok.bucket;
      only = ok.only;
      store = held;
      only_store = noted;
      block = has_block;
      open_bucket = tt;
      still = λ _. tt;
      row = λ _. no_row (set words i n);
      short = ok.short;
      left = few;
      meeting = tt;
    }

  -- ---- The rule

  module _ (s : State (Unit {0}) View) (r : WordRule z s) (id : ℕ) (v : View) (at : get_elem? s.views id ≡ some v) (acts : 1 ≤ length v.records) where
    pub word_inside : (i : ℕ) → i < front_words z → i < length s.words
    word_inside i h = let w = r.wide in let x : ℕ = z.pages * page_words z in omega arith

    -- a store in the words of the page store, whose lock is the seat's or nobody's
    pub store_moved : (i n : ℕ) (q : StoreState) (store : Option LockedStore) (block : Option HeldBlock) (left : Option PageStore)
        → 1 ≤ i → i < front_words z → Free id r.table.store.lock → Free id q.lock → IsStore z (set s.words i n) (all_used z r.table.openings r.table.bucket) q
        → HoldsStoreIf z (set s.words i n) q id store → NotesStore q id store → HoldsBlockIf z (set s.words i n) block
        → LeftIf z (all_used z r.table.openings r.table.bucket) left
        → IsPartition z.pages q.store.used (runs_now r.table.bucket q.store (set s.views id (storing v store block left)))
        → WordRule z (after_store s id (storing v store block left) i n)
    store_moved i n q store block left behind before free free' ok held noted has_block few parted =
        let none = r.outside (buckets z) (le_refl (buckets z)) in
        moved z s r (buckets z) id v (storing v store block left) (set s.words i n) r.table.bucket q record {
          at = at;
          acts = acts;
          wide = length-set s.words i n;
          count = count_still z s.words i n behind;
          elsewhere = λ c ne. refl;
          beside = beside_store z (runs_now r.table.bucket r.table.store.store s.views) s.words (buckets z) id i n before;
          free = free_none id (r.table.bucket (buckets z)).lock none.0;
          free' = free_none id (r.table.bucket (buckets z)).lock none.0;
          grows = grows_not v.records (r.table.bucket (buckets z)).history;
          keeps = keeps_refl (r.table.bucket (buckets z));
          here = λ h. absurd (omega arith);
          outside = λ _. none;
          store = ok;
          undisturbed = inr (free, free');
          view = view_still s.words i n before (count_of s.words) r.table q id v store block left acts held noted has_block few (r.each_view id v at);
          numbers = λ k h. h;
          logged = kept_log z s r id v (storing v store block left) at refl refl;
          parted = parted;
        }

  -- ---- Steps that change no word

  module _ (s : State (Unit {0}) View) (r : WordRule z s) (id : ℕ) (v : View) (at : get_elem? s.views id ≡ some v) where
    pub same_rule : (i : ℕ) → WordRule z (after_store s id v i (slice_index s.words i))
    same_rule i = stays_at z s r i id v v at refl (r.each_view id v at) (others_apart z s r id v at)
        (kept_log z s r id v v at refl refl)

    pub unnoted_rule : (i : ℕ) → WordRule z (after_store s id (without_notes v) i (slice_index s.words i))
    unnoted_rule i = stays_at z s r i id v (without_notes v) at refl (unnoted_view z s.words (count_of s.words) r.table id v (r.each_view id v at))
        (others_apart z s r id v at) (kept_log z s r id v (without_notes v) at refl refl)

    -- what a seat with the allocation lock has
    pub held_store : (n : LockedStore) → v.holds.store ≡ Some n → HoldsStore z s.words r.table.store id n
    held_store n e = subst (HoldsStoreIf z s.words r.table.store id) e (r.each_view id v at).store

  module _ (s : State (Unit {0}) View) (r : WordRule z s) (id : ℕ) (v : View) (at : get_elem? s.views id ≡ some v) (n : LockedStore)
      (held : v.holds.store ≡ Some n) where
    -- the page store, as the holder of its lock knows it
    pub known_store : IsStore z s.words (all_used z r.table.openings r.table.bucket) (record { store = n.store; lock = Some id })
    known_store = let has = held_store s r id v at n held in
        subst (IsStore z s.words (all_used z r.table.openings r.table.bucket)) (λ k. record { store = sym has.store k; lock = has.held k }) r.store

    pub known_runs : IsPartition z.pages n.store.used (runs_now r.table.bucket n.store s.views)
    known_runs = let has = held_store s r id v at n held in
        subst (λ (store : PageStore). IsPartition z.pages store.used (runs_now r.table.bucket store s.views)) (sym has.store) r.parted

    -- a store in the words of the page store by the holder of its lock
    pub held_moved : (i word : ℕ) (store : PageStore) (listed : Option ListedPage) (block : Option HeldBlock) → 1 ≤ length v.records → 1 ≤ i
        → i < front_words z → IsStore z (set s.words i word) (all_used z r.table.openings r.table.bucket) (record { store = store; lock = Some id })
        → IsListedIf z (set s.words i word) store listed → HoldsBlockIf z (set s.words i word) block
        → IsPartition z.pages store.used
        (runs_now r.table.bucket store (set s.views id (holding v (Some (record { store = store; listed = listed })) block)))
        → WordRule z (after_store s id (holding v (Some (record { store = store; listed = listed })) block) i word)
    held_moved i word store listed block acts behind before ok stands has_block parted =
        let has = held_store s r id v at n held in
        let known : LockedStore = record { store = store; listed = listed } in
        store_moved s r id v at acts i word (record { store = store; lock = Some id }) (Some known) block None behind before
        (free_own id r.table.store.lock has.held) (free_own id (Some id) refl) ok record { held = refl; store = refl; listed = stands }
        (λ _. (known, refl)) has_block tt parted
