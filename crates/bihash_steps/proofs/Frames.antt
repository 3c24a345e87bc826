-- What one seat's step on a bucket, or on the page store, may change, and that the rule follows it.
use Rattle.std.proofs.Common.{◌≡◌, ◌≢◌, ◌⊎◌, ℕ, zero, suc, ◌+◌, ◌-◌, ◌*◌, ◌^◌, ◌<◌, ◌≤◌, false, List, [], ◌++◌, length, set, refl, sym, ap, ◌∙◌, subst, inl, inr, arith, le_refl, le_trans, append-nil, append_assoc, length-set, mul-le-mul_left, Option, Some, None}
use mathlib.Core.Logic.{dite}
use mathlib.Core.Option.{some, some-ne-none}
use native.Mathlib.Decide.{ℕ_discrete}
use lib.ListN.{get_elem?}
use Rattle.std.specs.Prelude.{slice_index}
use Rattle.atomic_table.specs.Table.{State}
use Rattle.atomic_table.proofs.Lists.{at_set}
use Rattle.bihash_words.specs.Sizes.{Sizes}
use Rattle.bihash_words.specs.Words.{bit}
use Rattle.bihash_rule.specs.Words.{count_of, front_words, buckets, bucket_at, page_at, page_words, block_words, returned_count_at, list_at, list_words, lists_words, Stands}
use Rattle.bihash_rule.specs.Histories.{IsPrefix}
use Rattle.bihash_rule.specs.Callers.{HasNumber, known_at, opening_in}
use Rattle.bihash_rule.specs.Blocks.{no_block}
use Rattle.bihash_rule.specs.Partition.{PageRun, Owner, IsPartition, of_bucket, held_by, run_of}
use Rattle.bihash_rule.specs.Buckets.{BucketState, IsBucket, HoldsBucket, HoldsBucketIf, IsOpenIf}
use Rattle.bihash_rule.specs.PageStores.{StoreState, IsStore, BearsOutOfPages, IsListedIf, HoldsStore, HoldsStoreIf, HoldsBlockIf, LeftIf, returned_in, writes_in, all_writes, all_used, most_used, run_in, run_held, runs_now}
use Rattle.bihash_rule.specs.LogRule.{LogRule}
use Rattle.bihash_rule.specs.WordRule.{IsInformed, HaveMetIf, IsView, WordRule}
use Rattle.bihash_rule.specs.declared.view.Write.{Write}
use Rattle.bihash_rule.specs.declared.view.Call.{Call}
use Rattle.bihash_rule.specs.declared.view.Record.{Record}
use Rattle.bihash_rule.specs.declared.view.Extent.{Extent}
use Rattle.bihash_rule.specs.declared.view.Known.{Known}
use Rattle.bihash_rule.specs.declared.view.Meeting.{Meeting}
use Rattle.bihash_rule.specs.declared.view.LockedBucket.{LockedBucket}
use Rattle.bihash_rule.specs.declared.view.LockedStore.{LockedStore}
use Rattle.bihash_rule.specs.declared.view.ListedPage.{ListedPage}
use Rattle.bihash_rule.specs.declared.view.HeldBlock.{HeldBlock}
use Rattle.bihash_rule.specs.declared.view.OpenBucket.{OpenBucket}
use Rattle.bihash_rule.specs.declared.view.PageStore.{PageStore}
use Rattle.bihash_rule.specs.declared.view.View.{View}
use Rattle.bihash_steps.proofs.Lists.{within, at_either}
use Rattle.bihash_steps.proofs.CountWord.{front, held_still, apart_set, as_view, not_lone, others_apart}

-- the history grows by writes that bear numbers of these records
pub record Grows (records : List Record) (old new : List Write) : Type 0 where
  pub more : List Write
  pub whole : new ≡ old ++ more
  pub own : (k : ℕ) (w : Write) → get_elem? more k ≡ some w → HasNumber records w.by

-- what a step leaves for those who saw the bucket without its lock
pub record Keeps (x x' : BucketState) : Type 0 where
  pub more : length x.history ≤ length x'.history
  pub extent : length x'.history ≡ length x.history → x'.extent ≡ x.extent
  pub block : length x'.history ≡ length x.history → x'.block ≡ x.block
  pub dirty : length x'.history ≡ length x.history → x'.dirty ≡ false → x.dirty ≡ false

-- the lock is nobody's, or the seat's
abbrev pub Free : ℕ → Option ℕ → Type 0
Free id lock = (j : ℕ) → j ≢ id → lock ≢ Some j

pub free_none : (id : ℕ) (lock : Option ℕ) → lock ≡ None → Free id lock
free_none id lock e j ne h = absurd (cc (e, h))

pub free_own : (id : ℕ) (lock : Option ℕ) → lock ≡ Some id → Free id lock
free_own id lock e j ne h = let same : id ≡ j = cc (e, h) in ne (sym same)

module _ (z : Sizes) where
  -- the words of the other buckets, and of the blocks of all owners but bucket b and seat id, are as they were
  pub record Beside (has : Owner → Option PageRun) (words words' : List ℕ) (b id : ℕ) : Type 0 where
    pub word : (c : ℕ) → c < buckets z → c ≢ b → slice_index words' (bucket_at z c) ≡ slice_index words (bucket_at z c)
    pub block : (o : Owner) (run : PageRun) (i : ℕ) → has o ≡ Some run → o ≢ of_bucket b → o ≢ held_by id → i < 2 ^ run.log2 * page_words z
        → slice_index words' (page_at z run.page + i) ≡ slice_index words (page_at z run.page + i)

  -- the page store is as it was, or its lock is nobody's but the seat's, before and after
  abbrev pub Undisturbed : List ℕ → List ℕ → StoreState → StoreState → ℕ → Type 0
  Undisturbed words words' q q' id = ((q' ≡ q) × ((i : ℕ) → 1 ≤ i → i < front_words z → slice_index words' i ≡ slice_index words i))
      ⊎ (Free id q.lock × Free id q'.lock)

  -- what one seat's step on bucket b (buckets z or more: on no bucket) and on the page store may change
  pub record Move (s : State (Unit {0}) View) (r : WordRule z s) (b id : ℕ) (v w : View) (words' : List ℕ) (bucket' : ℕ → BucketState)
      (store' : StoreState) : Type 0 where
    pub at : get_elem? s.views id ≡ some v
    pub acts : 1 ≤ length v.records
    pub wide : length words' ≡ length s.words
    pub count : count_of words' ≡ count_of s.words
    pub elsewhere : (c : ℕ) → c ≢ b → bucket' c ≡ r.table.bucket c
    pub beside : Beside (runs_now r.table.bucket r.table.store.store s.views) s.words words' b id
    pub free : Free id (r.table.bucket b).lock
    pub free' : Free id (bucket' b).lock
    pub grows : Grows v.records (r.table.bucket b).history (bucket' b).history
    pub keeps : Keeps (r.table.bucket b) (bucket' b)
    pub here : b < buckets z → IsBucket z words' (count_of s.words) b (opening_in r.table.openings b) (bucket' b)
    pub outside : buckets z ≤ b → ((bucket' b).lock ≡ None) × ((bucket' b).extent ≡ no_block)
    pub store : IsStore z words' (all_used z r.table.openings bucket') store'
    pub undisturbed : Undisturbed s.words words' r.table.store store' id
    pub view : IsView z words' (count_of s.words) (record r.table { bucket = bucket'; store = store' }) id w
    pub numbers : (n : ℕ) → HasNumber w.records n → HasNumber v.records n
    pub logged : LogRule z r.table.openings (λ c. (bucket' c).history) (set s.views id w)
    pub parted : IsPartition z.pages store'.store.used (runs_now bucket' store'.store (set s.views id w))

-- ---- What grows

pub grows_not : (records : List Record) (h : List Write) → Grows records h h
grows_not records h = record { more = []; whole = sym (append-nil h); own = λ k w e. absurd (some-ne-none w (sym e)) }

pub keeps_refl : (x : BucketState) → Keeps x x
keeps_refl x = record { more = le_refl (length x.history); extent = λ _. refl; block = λ _. refl; dirty = λ _ e. e }

pub prefix_longer : (xs ys more : List Write) → IsPrefix xs ys → IsPrefix xs (ys ++ more)
prefix_longer xs ys more p = record {
  rest = p.rest ++ more;
  whole = ap (λ (l : List Write). l ++ more) p.whole ∙ append_assoc xs p.rest more;
}

pub more_writes : (x x' : ℕ → BucketState) → ((c : ℕ) → length (x c).history ≤ length (x' c).history) → (n : ℕ) → writes_in x n ≤ writes_in x' n
more_writes x x' more zero = omega arith
more_writes x x' more (suc n) = let a = more_writes x x' more n in let b = more n in omega arith

module _ (z : Sizes) where
  -- more writes can have taken more pages
  pub used_more : (before n n' : ℕ) → n ≤ n' → most_used z before n ≤ most_used z before n'
  used_more before n n' h = let m = mul-le-mul_left (2 ^ z.max_log2) h in let a : ℕ = 2 ^ z.max_log2 * n in
      let b : ℕ = 2 ^ z.max_log2 * n' in let l : a ≤ b = m in omega arith

  pub more_short : (n n' : ℕ) (c : Call) (log2 left : ℕ) → n ≤ n' → BearsOutOfPages z n c log2 left → BearsOutOfPages z n' c log2 left
  more_short n n' c log2 left h s = let o = s.taken in record {
    store = s.store;
    bears = s.bears;
    none = s.none;
    unused = s.unused;
    taken = omega arith;
  }

  pub more_left : (n n' : ℕ) → n ≤ n' → (left : Option PageStore) → LeftIf z n left → LeftIf z n' left
  more_left n n' h None l = tt
  more_left n n' h (Some store) l = (l.0, le_trans l.1 h)

  -- what was noted of an open bucket stands while the buckets keep it
  pub open_keeps : (x x' : ℕ → BucketState) → ((c : ℕ) → Keeps (x c) (x' c)) → (seen : Option OpenBucket) → IsOpenIf z x seen → IsOpenIf z x' seen
  open_keeps x x' keep None h = tt
  open_keeps x x' keep (Some o) h =
      let k = keep o.bucket in
      let more = k.more in
      let past = h.past in
      let same : o.version ≡ length (x' o.bucket).history → length (x' o.bucket).history ≡ length (x o.bucket).history = λ e. omega arith in
      let now : o.version ≡ length (x' o.bucket).history → o.version ≡ length (x o.bucket).history = λ e. omega arith in record {
        inside = h.inside;
        fits = h.fits;
        past = omega arith;
        extent = λ e. h.extent (now e) ∙ sym (k.extent (same e));
        block = λ e. h.block (now e) ∙ sym (k.block (same e));
        reads = λ e f i p g. h.reads (now e) (k.dirty (same e) f) i p g
            ∙ ap (λ (l : List ℕ). slice_index l p.0) (sym (k.block (same e)));
      }

  -- ---- What stands beside

  pub stands_beside : (has : Owner → Option PageRun) (words words' : List ℕ) (b id : ℕ) (o : Owner) (page log2 : ℕ) (xs : List ℕ)
      → Beside z has words words' b id → has o ≡ run_of page log2 → o ≢ of_bucket b → o ≢ held_by id → length xs ≡ block_words z page log2
      → Stands words (page_at z page) xs → Stands words' (page_at z page) xs
  stands_beside has words words' b id o zero log2 xs beside mine not_bucket not_seat size stood k h = absurd (omega arith)
  stands_beside has words words' b id o (suc page) log2 xs beside mine not_bucket not_seat size stood k h =
      beside.block o (record { page = suc page; log2 = log2 }) k mine not_bucket not_seat (subst (λ (n : ℕ). k < n) size h) ∙ stood k h

-- the lists of returned blocks stand one after the other, before the bucket words
pub lists_grow : (z : Sizes) (m l : ℕ) → l ≤ m → lists_words z l ≤ lists_words z m
lists_grow z m l h = go (m - l) m (omega arith)
  where
    go : (d m : ℕ) → m ≡ l + d → lists_words z l ≤ lists_words z m
    go zero m e = subst (λ (k : ℕ). lists_words z l ≤ lists_words z k) (let f : l ≡ m = omega arith in f) (le_refl (lists_words z l))
    go (suc d) m e = subst (λ (k : ℕ). lists_words z l ≤ lists_words z k) (let f : suc (l + d) ≡ m = omega arith in f)
        (let a = go d (l + d) refl in let x : ℕ = list_words z (l + d) in omega arith)

pub list_inside : (z : Sizes) (log2 i : ℕ) → log2 ≤ z.max_log2 → i < list_words z log2
    → (4 + z.max_log2 ≤ list_at z log2 + i) × (list_at z log2 + i < front_words z)
unfolding list_at front_words
list_inside z log2 i small h = let g = lists_grow z (suc z.max_log2) (suc log2) (omega arith) in (omega arith, omega arith)

module _ (z : Sizes) (words words' : List ℕ) (same : (i : ℕ) → 1 ≤ i → i < front_words z → slice_index words' i ≡ slice_index words i) where
  pub listed_beside : (store : PageStore) (listed : Option ListedPage) → IsListedIf z words store listed → IsListedIf z words' store listed
  listed_beside store None h = tt
  listed_beside store (Some i) h = let a = list_inside z i.log2 (length (returned_in store i.log2)) h.small h.room in let l = a.0 in record {
    small = h.small;
    room = h.room;
    stands = same (list_at z i.log2 + length (returned_in store i.log2)) (omega arith) a.1 ∙ h.stands;
  }

  -- the page store where its words are as they were, and perhaps more pages can be handed out
  pub store_keeps : (n n' : ℕ) (q : StoreState) → n ≤ n' → IsStore z words n q → IsStore z words' n' q
  store_keeps n n' q more ok = let f = front z in record {
    lock = same 1 (omega arith) (omega arith) ∙ ok.lock;
    used = same 2 (omega arith) (omega arith) ∙ ok.used;
    wide = ok.wide;
    count = λ log2 small. same (returned_count_at log2) (omega arith) (omega arith) ∙ ok.count log2 small;
    lists = λ log2 small k l. let room = ok.room log2 small in let a = list_inside z log2 k small (omega arith) in let low = a.0 in
        same (list_at z log2 + k) (omega arith) a.1 ∙ ok.lists log2 small k l;
    room = ok.room;
    bound = let t : ℕ = 2 ^ z.max_log2 * bit q.store.unpublished in let b : q.store.used ≤ n + t = ok.bound in omega arith;
    settled = ok.settled;
  }

  pub store_lock_beside : (q : StoreState) (j : ℕ) (lock : Option LockedStore) → HoldsStoreIf z words q j lock → HoldsStoreIf z words' q j lock
  store_lock_beside q j None h = tt
  store_lock_beside q j (Some l) h = record { held = h.held; store = h.store; listed = listed_beside q.store l.listed h.listed }

-- ---- The rule after a move

module _ (z : Sizes) (s : State (Unit {0}) View) (r : WordRule z s) (b id : ℕ) (v w : View) (words' : List ℕ) (bucket' : ℕ → BucketState)
    (store' : StoreState) (m : Move z s r b id v w words' bucket' store') where
  each_keeps : (c : ℕ) → Keeps (r.table.bucket c) (bucket' c)
  each_keeps c = dite (ℕ_discrete c b) (λ e. subst (λ (c : ℕ). Keeps (r.table.bucket c) (bucket' c)) (sym e) m.keeps)
      (λ ne. subst (Keeps (r.table.bucket c)) (sym (m.elsewhere c ne)) (keeps_refl (r.table.bucket c)))

  all_more : all_used z r.table.openings r.table.bucket ≤ all_used z r.table.openings bucket'
  all_more = used_more z r.table.openings.used (all_writes z r.table.bucket) (all_writes z bucket')
      (more_writes r.table.bucket bucket' (λ c. (each_keeps c).more) (buckets z))

  -- what begins a bucket's history still does
  begins_still : (known : List Write) (c : ℕ) → IsPrefix known (r.table.bucket c).history → IsPrefix known (bucket' c).history
  begins_still known c p = dite (ℕ_discrete c b)
      (λ e. subst (λ (c : ℕ). IsPrefix known (bucket' c).history) (sym e) (subst (IsPrefix known) (sym m.grows.whole)
      (prefix_longer known (r.table.bucket b).history m.grows.more (subst (λ (c : ℕ). IsPrefix known (r.table.bucket c).history) e p))))
      (λ ne. subst (λ (x : BucketState). IsPrefix known x.history) (sym (m.elsewhere c ne)) p)

  meeting_still : (y : Option Meeting) → HaveMetIf z r.table y
      → HaveMetIf z record { openings = r.table.openings; bucket = bucket'; store = store' } y
  meeting_still None h = tt
  meeting_still (Some y) h = record {
    openings = h.openings;
    wide = h.wide;
    begin = λ c l. let p = h.begin c l in (begins_still (known_at y.first c) c p.0, begins_still (known_at y.second c) c p.1);
    own = h.own;
    other_own = h.other_own;
    logs = h.logs;
    matches = h.matches;
    other_matches = h.other_matches;
  }

  -- another bucket
  bucket_beside : (c : ℕ) → c < buckets z → c ≢ b → IsBucket z words' (count_of s.words) c (opening_in r.table.openings c) (r.table.bucket c)
  bucket_beside c inside ne = let ok = r.each_bucket c inside in let x = r.table.bucket c in record {
    word = m.beside.word c inside ne ∙ ok.word;
    writes = ok.writes;
    bearers = ok.bearers;
    size = ok.size;
    pairs = ok.pairs;
    at_rest = λ e. stands_beside z (runs_now r.table.bucket r.table.store.store s.views) s.words words' b id (of_bucket c) x.extent.page
        x.extent.size.log2 x.block m.beside refl (λ h. ne (cc)) (λ h. cc) ok.size (ok.at_rest e);
    clean = ok.clean;
  }

  -- ---- Another seat's view

  module _ (j : ℕ) (u : View) (at : get_elem? s.views j ≡ some u) (ne : j ≢ id) where
    informed_beside : IsInformed z record { openings = r.table.openings; bucket = bucket'; store = store' } u.known u.records
    informed_beside = let ok = (r.each_view j u at).informed in record {
      wide = ok.wide;
      begins = λ c l. begins_still (known_at u.known c) c (ok.begins c l);
      opening = ok.opening;
      lawful = ok.lawful;
      own = λ i c n q o e l f by. dite (ℕ_discrete c b)
          (λ is. subst (λ (c : ℕ). n < length (known_at u.known c)) (sym is)
          (elim (at_either (r.table.bucket b).history m.grows.more n o
          (subst (λ (h : List Write). get_elem? h n ≡ some o) m.grows.whole (subst (λ (c : ℕ). get_elem? (bucket' c).history n ≡ some o) is f))) [
            | inl old ↦ ok.own i b n q o e (subst (λ (c : ℕ). c < buckets z) is l) old by
            | inr new ↦ let own = m.grows.own new.0 o new.2 in
                absurd (others_apart z s r id v m.at j u ne at own.0 i own.1 q own.2 e (own.3 ∙ by))
          ]))
          (λ not. ok.own i c n q o e l (subst (λ (x : BucketState). get_elem? x.history n ≡ some o) (m.elsewhere c not) f) by);
    }

    lock_beside : (known : Known) (lock : Option LockedBucket) → HoldsBucketIf z s.words r.table.bucket j known lock
        → HoldsBucketIf z words' bucket' j known lock
    lock_beside known None h = tt
    lock_beside known (Some l) h =
        let other : l.bucket ≢ b = λ e. m.free j ne (ap (λ (c : ℕ). (r.table.bucket c).lock) (sym e) ∙ h.held) in
        subst (HoldsBucket z words' j (known_at known l.bucket) l) (sym (m.elsewhere l.bucket other))
        (held_still z s.words words' j (known_at known l.bucket) (known_at known l.bucket) l (r.table.bucket l.bucket) h.fresh
        (stands_beside z (runs_now r.table.bucket r.table.store.store s.views) s.words words' b id (of_bucket l.bucket) l.extent.page
        l.extent.size.log2 l.now m.beside (ap (λ (e : Extent). run_of e.page e.size.log2) (sym h.extent)) (λ e. other (cc)) (λ e. cc) h.size h.stands) h)

    store_beside : (lock : Option LockedStore) → HoldsStoreIf z s.words r.table.store j lock → HoldsStoreIf z words' store' j lock
    store_beside None h = tt
    store_beside (Some l) h = elim m.undisturbed [
      | inl same ↦ subst (λ (q : StoreState). HoldsStore z words' q j l) (sym same.0)
          (store_lock_beside z s.words words' same.1 r.table.store j (Some l) h)
      | inr free ↦ absurd (free.0 j ne h.held)
    ]

    block_beside : (block : Option HeldBlock) → run_in u.holds.block ≡ run_in block → HoldsBlockIf z s.words block → HoldsBlockIf z words' block
    block_beside None e h = tt
    block_beside (Some k) e h = record {
      some_page = h.some_page;
      small = h.small;
      size = h.size;
      stands = stands_beside z (runs_now r.table.bucket r.table.store.store s.views) s.words words' b id (held_by j) k.page k.log2 k.words
          m.beside (ap run_held at ∙ e) (λ e. cc) (λ e. ne (cc)) h.size h.stands;
    }

    view_beside : IsView z words' (count_of s.words) record { openings = r.table.openings; bucket = bucket'; store = store' } j u
    view_beside = let ok = r.each_view j u at in record {
      informed = informed_beside;
      numbers = ok.numbers;
      seen = ok.seen;
      lone = ok.lone;
      able = ok.able;
      bucket = lock_beside u.known u.holds.bucket ok.bucket;
      only = λ c l e. dite (ℕ_discrete c b) (λ is. absurd (m.free' j ne (ap (λ (c : ℕ). (bucket' c).lock) (sym is) ∙ e)))
          (λ not. ok.only c l (ap (λ (x : BucketState). x.lock) (sym (m.elsewhere c not)) ∙ e));
      store = store_beside u.holds.store ok.store;
      only_store = λ e. elim m.undisturbed [
        | inl same ↦ ok.only_store (ap (λ (q : StoreState). q.lock) (sym same.0) ∙ e)
        | inr free ↦ absurd (free.1 j ne e)
      ];
      block = block_beside u.holds.block refl ok.block;
      open_bucket = open_keeps z r.table.bucket bucket' each_keeps u.notes.open_bucket ok.open_bucket;
      still = λ lone. absurd (not_lone z s r id j v u m.at at ne m.acts lone);
      row = λ lone. absurd (not_lone z s r id j v u m.at at ne m.acts lone);
      short = λ c h log2 left e. more_short z (all_used z r.table.openings r.table.bucket) (all_used z r.table.openings bucket') c log2 left all_more (ok.short c h log2 left e);
      left = more_left z (all_used z r.table.openings r.table.bucket) (all_used z r.table.openings bucket') all_more u.notes.left ok.left;
      meeting = meeting_still u.notes.meeting ok.meeting;
    }

  pub moved : WordRule z record { words = words'; homes = s.homes; views = set s.views id w }
  moved = record {
    table = record { openings = r.table.openings; bucket = bucket'; store = store' };
    sound = r.sound;
    wide = m.wide ∙ r.wide;
    some_caller = let h = r.some_caller in let e = m.count in omega arith;
    few_callers = let h = r.few_callers in let e = m.count in omega arith;
    each_bucket = λ c l. subst (λ (n : ℕ). IsBucket z words' n c (opening_in r.table.openings c) (bucket' c)) (sym m.count)
        (dite (ℕ_discrete c b)
        (λ e. subst (λ (c : ℕ). IsBucket z words' (count_of s.words) c (opening_in r.table.openings c) (bucket' c)) (sym e)
        (m.here (subst (λ (c : ℕ). c < buckets z) e l)))
        (λ ne. subst (IsBucket z words' (count_of s.words) c (opening_in r.table.openings c)) (sym (m.elsewhere c ne)) (bucket_beside c l ne)));
    outside = λ c l. dite (ℕ_discrete c b)
        (λ e. subst (λ (c : ℕ). ((bucket' c).lock ≡ None) × ((bucket' c).extent ≡ no_block)) (sym e)
        (m.outside (subst (λ (c : ℕ). buckets z ≤ c) e l)))
        (λ ne. subst (λ (x : BucketState). (x.lock ≡ None) × (x.extent ≡ no_block)) (sym (m.elsewhere c ne)) (r.outside c l));
    store = m.store;
    each_view = λ j u e. subst (λ (n : ℕ). IsView z words' n record { openings = r.table.openings; bucket = bucket'; store = store' } j u)
        (sym m.count)
        (elim (at_set s.views id j w u e) [
          | inl p ↦ as_view z words' (count_of s.words) record { openings = r.table.openings; bucket = bucket'; store = store' } id j w u
              p.0 p.1 m.view
          | inr p ↦ view_beside j u p.1 p.0
        ]);
    apart = apart_set s.views id w (λ i j a c ne ni nj e f. r.apart i j a c ne e f) (λ j u ne e i k p q f g h.
        let o = m.numbers p.number (i, p, f, refl) in others_apart z s r id v m.at j u ne e o.0 k o.1 q o.2 g (o.3 ∙ h));
    holders = λ c j e. subst (λ (n : ℕ). j < n) (sym (length-set s.views id w)) (dite (ℕ_discrete j id)
        (λ is. subst (λ (k : ℕ). k < length s.views) (sym is) (within s.views id v m.at))
        (λ not. dite (ℕ_discrete c b) (λ is. absurd (m.free' j not (ap (λ (c : ℕ). (bucket' c).lock) (sym is) ∙ e)))
        (λ ne. r.holders c j (ap (λ (x : BucketState). x.lock) (sym (m.elsewhere c ne)) ∙ e))));
    keeper = λ j e. subst (λ (n : ℕ). j < n) (sym (length-set s.views id w)) (dite (ℕ_discrete j id)
        (λ is. subst (λ (k : ℕ). k < length s.views) (sym is) (within s.views id v m.at))
        (λ not. elim m.undisturbed [
          | inl same ↦ r.keeper j (ap (λ (q : StoreState). q.lock) (sym same.0) ∙ e)
          | inr free ↦ absurd (free.1 j not e)
        ]));
    logged = m.logged;
    parted = m.parted;
  }
