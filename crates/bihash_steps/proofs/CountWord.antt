-- Where all words but the caller count stay, only views can break the rule.
use Rattle.std.proofs.Common.{◌≡◌, ◌≢◌, ℕ, zero, suc, ◌+◌, ◌-◌, ◌*◌, ◌<◌, ◌≤◌, true, List, [], ◌∷◌, ◌++◌, length, set, refl, sym, ap, ◌∙◌, subst, inl, inr, arith, le_refl, length-set, Option, Some, None}
use mathlib.Core.Option.{some, some-injective}
use lib.ListN.{get_elem?}
use lib.Seq.{set-get_or}
use Rattle.std.specs.Prelude.{slice_index}
use Rattle.atomic_table.specs.Table.{State}
use Rattle.atomic_table.proofs.Lists.{at_set}
use Rattle.bihash_words.specs.Maps.{Pairs}
use Rattle.bihash_words.specs.Sizes.{Sizes}
use Rattle.bihash_rule.specs.Words.{count_of, returned_count_at, list_at, lists_words, front_words, bucket_at, page_at, page_words, all_words, Stands}
use Rattle.bihash_rule.specs.Callers.{IsWhole, Apart, known_at, opening_in}
use Rattle.bihash_rule.specs.Partition.{IsPartition, run_of, runs_of}
use Rattle.bihash_rule.specs.Buckets.{BucketState, IsBucket, HoldsBucket, HoldsBucketIf, StandsStillIf}
use Rattle.bihash_rule.specs.PageStores.{StoreState, returned_in, all_used, IsStore, IsListedIf, HoldsStoreIf, HoldsBlockIf, run_in, run_held, runs_now}
use Rattle.bihash_rule.specs.LogRule.{LogRule}
use Rattle.bihash_rule.specs.WordRule.{TableState, IsView, WordRule}
use Rattle.bihash_rule.specs.declared.view.Record.{Record}
use Rattle.bihash_rule.specs.declared.view.Write.{Write}
use Rattle.bihash_rule.specs.declared.view.Known.{Known}
use Rattle.bihash_rule.specs.declared.view.PageStore.{PageStore}
use Rattle.bihash_rule.specs.declared.view.ListedPage.{ListedPage}
use Rattle.bihash_rule.specs.declared.view.LockedBucket.{LockedBucket}
use Rattle.bihash_rule.specs.declared.view.LockedStore.{LockedStore}
use Rattle.bihash_rule.specs.declared.view.HeldBlock.{HeldBlock}
use Rattle.bihash_rule.specs.declared.view.OpenBucket.{OpenBucket}
use Rattle.bihash_rule.specs.declared.view.View.{View}
use Rattle.bihash_steps.proofs.Lists.{there}
use Rattle.bihash_steps.proofs.LogSteps.{kept_logged}

-- the words before the bucket words begin with the caller count, the allocation lock, the used mark and the counts of returned blocks
pub front : (z : Sizes) → 4 + z.max_log2 ≤ front_words z
unfolding front_words
front z = let x : ℕ = lists_words z (suc z.max_log2) in omega arith

list_front : (z : Sizes) (log2 : ℕ) → 4 ≤ list_at z log2
unfolding list_at
list_front z log2 = let x : ℕ = lists_words z log2 in omega arith

pub some_words : (z : Sizes) → 0 < all_words z
some_words z = let h = front z in let x : ℕ = z.pages * page_words z in omega arith

-- The lock of a bucket is held as before, where the words of its block stand as before. The caller may have learned
-- of its history.
pub held_still : (z : Sizes) (words words' : List ℕ) (j : ℕ) (known known' : List Write) (l : LockedBucket) (x : BucketState)
    → known' ≡ x.history → Stands words' (page_at z l.extent.page) l.now → HoldsBucket z words j known l x → HoldsBucket z words' j known' l x
held_still z words words' j known known' l x fresh stands h = record {
  inside = h.inside;
  held = h.held;
  extent = h.extent;
  version = h.version;
  fresh = fresh;
  was = h.was;
  size = h.size;
  stands = stands;
  clean = h.clean;
  dirty = h.dirty;
}

-- all words but the caller count are the same
abbrev pub SameButCount : List ℕ → List ℕ → Type 0
SameButCount words words' = (i : ℕ) → 1 ≤ i → slice_index words' i ≡ slice_index words i

module _ (z : Sizes) (words words' : List ℕ) (same : SameButCount words words') where
  still_stands : (at : ℕ) (xs : List ℕ) → 1 ≤ at → Stands words at xs → Stands words' at xs
  still_stands at xs front h k l = same (at + k) (omega arith) ∙ h k l

  page_front : (page : ℕ) → 1 ≤ page_at z page
  page_front page = let h = front z in let x : ℕ = (page - 1) * page_words z in omega arith

  -- ---- What the words say

  still_bucket : (count count' b : ℕ) (opening : Pairs) (x : BucketState) → count ≤ count' → IsBucket z words count b opening x
      → IsBucket z words' count' b opening x
  still_bucket count count' b opening x more ok = record {
    word = same (bucket_at z b) (let h = front z in omega arith) ∙ ok.word;
    writes = ok.writes;
    bearers = λ n w e. let h = ok.bearers n w e in (h.0, (let l = h.1 in omega arith));
    size = ok.size;
    pairs = ok.pairs;
    at_rest = λ e. still_stands (page_at z x.extent.page) x.block (page_front x.extent.page) (ok.at_rest e);
    clean = ok.clean;
  }

  still_store : (writes : ℕ) (q : StoreState) → IsStore z words writes q → IsStore z words' writes q
  still_store writes q ok = record {
    lock = same 1 (omega arith) ∙ ok.lock;
    used = same 2 (omega arith) ∙ ok.used;
    wide = ok.wide;
    count = λ log2 s. same (returned_count_at log2) (omega arith) ∙ ok.count log2 s;
    lists = λ log2 s. still_stands (list_at z log2) (returned_in q.store log2) (let h = list_front z log2 in omega arith) (ok.lists log2 s);
    room = ok.room;
    bound = ok.bound;
    settled = ok.settled;
  }

  -- ---- What views hold and note

  pub still_lock : (x : ℕ → BucketState) (j : ℕ) (known : Known) (lock : Option LockedBucket) → HoldsBucketIf z words x j known lock
      → HoldsBucketIf z words' x j known lock
  still_lock x j known None h = tt
  still_lock x j known (Some l) h = held_still z words words' j (known_at known l.bucket) (known_at known l.bucket) l (x l.bucket)
      h.fresh (still_stands (page_at z l.extent.page) l.now (page_front l.extent.page) h.stands) h

  still_listed : (store : PageStore) (listed : Option ListedPage) → IsListedIf z words store listed → IsListedIf z words' store listed
  still_listed store None h = tt
  still_listed store (Some i) h = record {
    small = h.small;
    room = h.room;
    stands = same (list_at z i.log2 + length (returned_in store i.log2)) (let l = list_front z i.log2 in omega arith) ∙ h.stands;
  }

  pub still_pool : (q : StoreState) (j : ℕ) (store : Option LockedStore) → HoldsStoreIf z words q j store → HoldsStoreIf z words' q j store
  still_pool q j None h = tt
  still_pool q j (Some n) h = record { held = h.held; store = h.store; listed = still_listed q.store n.listed h.listed }

  pub still_block : (block : Option HeldBlock) → HoldsBlockIf z words block → HoldsBlockIf z words' block
  still_block None h = tt
  still_block (Some b) h = record {
    some_page = h.some_page;
    small = h.small;
    size = h.size;
    stands = still_stands (page_at z b.page) b.words (page_front b.page) h.stands;
  }

  still_open : (seen : Option OpenBucket) → StandsStillIf z words seen → StandsStillIf z words' seen
  still_open None h = tt
  still_open (Some o) h = same (bucket_at z o.bucket) (let f = front z in omega arith) ∙ h

  still_row : (xs : List ℕ) → count_of words' ≡ count_of words → Stands words 0 xs → Stands words' 0 xs
  still_row xs first h zero l = first ∙ h 0 l
  still_row xs first h (suc k) l = same (0 + suc k) (omega arith) ∙ h (suc k) l

  -- a view stands while the caller count grows, unless it is lone
  pub still_view : (count count' : ℕ) (t : TableState) (j : ℕ) (v : View) → count ≤ count' → (v.lone ≡ true → count' ≡ count)
      → (v.lone ≡ true → count_of words' ≡ count_of words) → IsView z words count t j v → IsView z words' count' t j v
  still_view count count' t j v more lone first ok = record {
    informed = ok.informed;
    numbers = ok.numbers;
    seen = let s = ok.seen in omega arith;
    lone = λ e. subst (IsWhole v.records) (sym (lone e)) (ok.lone e);
    able = ok.able;
    bucket = still_lock t.bucket j v.known v.holds.bucket ok.bucket;
    only = ok.only;
    store = still_pool t.store j v.holds.store ok.store;
    only_store = ok.only_store;
    block = still_block v.holds.block ok.block;
    open_bucket = ok.open_bucket;
    still = λ e. still_open v.notes.open_bucket (ok.still e);
    row = λ e. still_row v.notes.row (first e) (ok.row e);
    short = ok.short;
    left = ok.left;
    meeting = ok.meeting;
  }

-- ---- One seat's view among all

pub apart_back : (rs qs : List Record) → Apart rs qs → Apart qs rs
apart_back rs qs a i k r q e f = λ h. a k i q r f e (sym h)

abbrev pub AllApart : List View → Type 0
AllApart views = (i j : ℕ) (v w : View) → i ≢ j → get_elem? views i ≡ some v → get_elem? views j ≡ some w → Apart v.records w.records

-- one view becomes w: the others are apart, and w is apart from them
pub apart_set : (views : List View) (id : ℕ) (w : View)
    → ((i j : ℕ) (a b : View) → i ≢ j → i ≢ id → j ≢ id → get_elem? views i ≡ some a → get_elem? views j ≡ some b
    → Apart a.records b.records)
    → ((j : ℕ) (u : View) → j ≢ id → get_elem? views j ≡ some u → Apart w.records u.records) → AllApart (set views id w)
apart_set views id w all new i j a b ne e f = elim (at_set views id i w a e) [
  | inl p ↦ elim (at_set views id j w b f) [
    | inl q ↦ absurd (ne (p.0 ∙ sym q.0))
    | inr q ↦ subst (λ (y : View). Apart y.records b.records) p.1 (new j b q.0 q.1)
  ]
  | inr p ↦ elim (at_set views id j w b f) [
    | inl q ↦ subst (λ (y : View). Apart a.records y.records) q.1 (apart_back w.records a.records (new i a p.0 p.1))
    | inr q ↦ all i j a b ne p.0 q.0 p.1 q.1
  ]
]

-- one seat gets another view with the same block
pub block_set : (views : List View) (id : ℕ) (v w : View) (j : ℕ) → get_elem? views id ≡ some v
    → run_in w.holds.block ≡ run_in v.holds.block
    → run_held (get_elem? (set views id w) j) ≡ run_held (get_elem? views j)
block_set [] id v w j e h = refl
block_set (x ∷ xs) zero v w zero e h = h ∙ ap (λ (u : View). run_in u.holds.block) (sym (some-injective x v e))
block_set (x ∷ xs) zero v w (suc j) e h = refl
block_set (x ∷ xs) (suc id) v w zero e h = refl
block_set (x ∷ xs) (suc id) v w (suc j) e h = block_set xs id v w j e h

-- a new seat has no block
pub block_more : (views : List View) (u : View) (j : ℕ) → run_in u.holds.block ≡ None
    → run_held (get_elem? (views ++ u ∷ []) j) ≡ run_held (get_elem? views j)
block_more [] u zero h = h
block_more [] u (suc j) h = refl
block_more (x ∷ xs) u zero h = refl
block_more (x ∷ xs) u (suc j) h = block_more xs u j h

-- what holds of a view at its seat
pub as_view : (z : Sizes) (words : List ℕ) (count : ℕ) (t : TableState) (i j : ℕ) (v u : View) → j ≡ i → v ≡ u → IsView z words count t i v
    → IsView z words count t j u
as_view z words count t i j v u e f = subst (λ (y : ℕ × View). IsView z words count t y.0 y.1) (λ k. (sym e k, f k))

module _ (z : Sizes) where
  pub others_apart : (s : State (Unit {0}) View) (r : WordRule z s) (id : ℕ) (v : View) → get_elem? s.views id ≡ some v
      → (j : ℕ) (u : View) → j ≢ id → get_elem? s.views j ≡ some u → Apart v.records u.records
  others_apart s r id v at j u ne e = r.apart id j v u (λ h. ne (sym h)) at e

  -- a caller with a number meets no other that is lone
  pub not_lone : (s : State (Unit {0}) View) (r : WordRule z s) (id j : ℕ) (v u : View) → get_elem? s.views id ≡ some v
      → get_elem? s.views j ≡ some u → j ≢ id
      → 1 ≤ length v.records → u.lone ≡ true → ⊥
  not_lone s r id j v u at at' ne has_one lone =
      let first = there v.records 0 (omega arith) in
      let ok = r.each_view id v at in
      let n = ok.numbers.range 0 first.0 first.1 in
      let same = (r.each_view j u at').lone lone first.0.number n.0 (let a = n.1 in let b = ok.seen in omega arith) in
      r.apart id j v u (λ h. ne (sym h)) at at' 0 same.0 first.0 same.1 first.1 same.2 (sym same.3)

-- ---- The rule

module _ (z : Sizes) (s : State (Unit {0}) View) (r : WordRule z s) where
  -- what other words and views need for the rule to stand, where only the caller count may have grown and no seat has another block
  pub record Moves (words : List ℕ) (views : List View) : Type 0 where
    pub same : SameButCount s.words words
    pub wide : length words ≡ length s.words
    pub more : count_of s.words ≤ count_of words
    pub few : count_of words ≤ z.callers
    pub longer : length s.views ≤ length views
    pub each : (j : ℕ) (u : View) → get_elem? views j ≡ some u → IsView z words (count_of words) r.table j u
    pub apart : AllApart views
    pub blocks : (j : ℕ) → run_held (get_elem? views j) ≡ run_held (get_elem? s.views j)
    pub logged : LogRule z r.table.openings (λ b. (r.table.bucket b).history) views

  pub moved : (words : List ℕ) (views : List View) → Moves words views → WordRule z record { words = words; homes = s.homes; views = views }
  moved words views m = record {
    table = r.table;
    sound = r.sound;
    wide = m.wide ∙ r.wide;
    some_caller = let a = r.some_caller in let b = m.more in omega arith;
    few_callers = m.few;
    each_bucket = λ b l.
        still_bucket z s.words words m.same (count_of s.words) (count_of words) b (opening_in r.table.openings b) (r.table.bucket b) m.more
        (r.each_bucket b l);
    outside = r.outside;
    store = still_store z s.words words m.same (all_used z r.table.openings r.table.bucket) r.table.store r.store;
    each_view = m.each;
    apart = m.apart;
    holders = λ b j e. let h = r.holders b j e in let l = m.longer in omega arith;
    keeper = λ j e. let h = r.keeper j e in let l = m.longer in omega arith;
    logged = m.logged;
    parted = subst (IsPartition z.pages r.table.store.store.used) (sym runs) r.parted;
  }
    where
      runs : runs_now r.table.bucket r.table.store.store views ≡ runs_now r.table.bucket r.table.store.store s.views
      runs = λ t. runs_of (λ b. run_of (r.table.bucket b).extent.page (r.table.bucket b).extent.size.log2)
          (λ log2. returned_in r.table.store.store log2) (λ j. m.blocks j t)

  -- one seat gets another view, and the caller count may have grown
  pub one_moved : (words : List ℕ) (id : ℕ) (v w : View) → get_elem? s.views id ≡ some v → SameButCount s.words words
      → length words ≡ length s.words
      → count_of s.words ≤ count_of words → count_of words ≤ z.callers → run_in w.holds.block ≡ run_in v.holds.block
      → IsView z words (count_of words) r.table id w
      → ((j : ℕ) (u : View) → j ≢ id → get_elem? s.views j ≡ some u → (u.lone ≡ true → count_of words ≡ count_of s.words)
      × Apart w.records u.records)
      → LogRule z r.table.openings (λ b. (r.table.bucket b).history) (set s.views id w)
      → WordRule z record { words = words; homes = s.homes; views = set s.views id w }
  one_moved words id v w at same wide more few block ok others logged = moved words (set s.views id w) record {
    same = same;
    wide = wide;
    more = more;
    few = few;
    longer = let n = length-set s.views id w in omega arith;
    each = λ j u e. elim (at_set s.views id j w u e) [
      | inl p ↦ as_view z words (count_of words) r.table id j w u p.0 p.1 ok
      | inr p ↦ still_view z s.words words same (count_of s.words) (count_of words) r.table j u more (others j u p.0 p.1).0
          (others j u p.0 p.1).0 (r.each_view j u p.1)
    ];
    apart = apart_set s.views id w (λ i j a b ne ni nj e f. r.apart i j a b ne e f) (λ j u ne e. (others j u ne e).1);
    blocks = λ j. block_set s.views id v w j at block;
    logged = logged;
  }

  -- the rule on the log, where a seat knows as much of it and has the same records
  pub kept_log : (id : ℕ) (v w : View) → get_elem? s.views id ≡ some v → w.log ≡ v.log → w.records ≡ v.records
      → LogRule z r.table.openings (λ b. (r.table.bucket b).history) (set s.views id w)
  kept_log id v w at log same = kept_logged z r.table.openings (λ b. (r.table.bucket b).history) s.views id v w at r.logged log same

  -- one seat gets another view, and no word changes
  pub stays_at : (i id : ℕ) (v w : View) → get_elem? s.views id ≡ some v → run_in w.holds.block ≡ run_in v.holds.block
      → IsView z s.words (count_of s.words) r.table id w
      → ((j : ℕ) (u : View) → j ≢ id → get_elem? s.views j ≡ some u → Apart w.records u.records)
      → LogRule z r.table.openings (λ b. (r.table.bucket b).history) (set s.views id w)
      → WordRule z record { words = set s.words i (slice_index s.words i); homes = s.homes; views = set s.views id w }
  stays_at i id v w at block ok others logged =
      subst (λ (words : List ℕ). WordRule z record { words = words; homes = s.homes; views = set s.views id w })
      (sym (set-get_or s.words i 0))
      (one_moved s.words id v w at (λ i l. refl) refl (le_refl (count_of s.words)) r.few_callers block ok
      (λ j u ne e. ((λ _. refl), others j u ne e)) logged)

  -- the same at the caller count
  pub stays : (id : ℕ) (v w : View) → get_elem? s.views id ≡ some v → run_in w.holds.block ≡ run_in v.holds.block
      → IsView z s.words (count_of s.words) r.table id w
      → ((j : ℕ) (u : View) → j ≢ id → get_elem? s.views j ≡ some u → Apart w.records u.records)
      → LogRule z r.table.openings (λ b. (r.table.bucket b).history) (set s.views id w)
      → WordRule z record { words = set s.words 0 (count_of s.words); homes = s.homes; views = set s.views id w }
  stays = stays_at 0
