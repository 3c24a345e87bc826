-- A step on the lock of a bucket, or on a word of its block under the lock: no history grows, and no block passes.
use Rattle.std.proofs.Common.{◌≡◌, ◌≢◌, ℕ, zero, suc, ◌+◌, ◌<◌, ◌≤◌, Bool, true, false, List, length, set, refl, sym, ap, ◌∙◌, subst, inl, arith, le_refl, Option, Some, None}
use mathlib.Core.Logic.{dite}
use mathlib.Core.Option.{some}
use native.Mathlib.Decide.{ℕ_discrete}
use lib.ListN.{get_elem?}
use Rattle.std.specs.Prelude.{slice_index, is_some}
use Rattle.atomic_table.specs.Table.{State}
use Rattle.bihash_words.specs.Sizes.{Sizes}
use Rattle.bihash_words.specs.Words.{packed}
use Rattle.bihash_rule.specs.Words.{count_of, front_words, buckets, bucket_at, page_at, Stands}
use Rattle.bihash_rule.specs.Histories.{IsPrefix}
use Rattle.bihash_rule.specs.Callers.{HasNumber, HasNumbers, IsWhole, known_at, opening_in}
use Rattle.bihash_rule.specs.Partition.{IsPartition, run_of}
use Rattle.bihash_rule.specs.Buckets.{BucketState, IsBucket, HoldsBucket, HoldsBucketIf, NotesLocks, word_of}
use Rattle.bihash_rule.specs.PageStores.{BearOutOfPages, IsStore, HoldsBlockIf, writes_in, all_used, most_used, runs_now}
use Rattle.bihash_rule.specs.Views.{no_notes}
use Rattle.bihash_rule.specs.WordRule.{TableState, IsInformed, IsView, WordRule}
use Rattle.bihash_rule.specs.declared.view.Write.{Write}
use Rattle.bihash_rule.specs.LogRule.{LogRule}
use Rattle.bihash_rule.specs.declared.view.Entry.{Entry}
use Rattle.bihash_rule.specs.declared.view.Record.{Record}
use Rattle.bihash_rule.specs.declared.view.Known.{Known}
use Rattle.bihash_rule.specs.declared.view.LockedBucket.{LockedBucket}
use Rattle.bihash_rule.specs.declared.view.View.{View}
use Rattle.bihash_steps.proofs.Lists.{no_row}
use Rattle.bihash_steps.proofs.LogSteps.{histories_logged}
use Rattle.bihash_steps.proofs.Put.{put, put_here, put_else}
use Rattle.bihash_steps.proofs.Frames.{Grows, Keeps, Beside, Free, grows_not, store_keeps, store_lock_beside, moved}
use Rattle.bihash_steps.proofs.OwnedWords.{runs_still}

-- as many writes where no history grows
pub same_writes : (x x' : ℕ → BucketState) → ((c : ℕ) → (x' c).history ≡ (x c).history) → (n : ℕ) → writes_in x' n ≡ writes_in x n
same_writes x x' same zero = refl
same_writes x x' same (suc n) = λ i. same_writes x x' same n i + length (same n i)

-- the caller knows this, with these records, and has this lock, or none
abbrev pub relocking : View → List Record → Known → Option LockedBucket → List Entry → View
relocking v records known lock log = record v {
  records = records;
  known = known;
  log = log;
  holds = record v.holds { bucket = lock };
  notes = no_notes;
}

module _ (z : Sizes) where
  pub same_informed : (t t' : TableState) (known : Known) (records : List Record) → t'.openings ≡ t.openings
      → ((c : ℕ) → (t'.bucket c).history ≡ (t.bucket c).history) → IsInformed z t known records → IsInformed z t' known records
  same_informed t t' known records openings same i = record {
    wide = i.wide;
    begins = λ c l. subst (IsPrefix (known_at known c)) (sym (same c)) (i.begins c l);
    opening = λ h. i.opening h ∙ sym openings;
    lawful = i.lawful;
    own = λ k c n q o e l f. i.own k c n q o e l (subst (λ (h : List Write). get_elem? h n ≡ some o) (same c) f);
  }

module _ (z : Sizes) (s : State (Unit {0}) View) (r : WordRule z s) (b id : ℕ) (v : View) (records : List Record) (known : Known)
    (held : Option LockedBucket) (log : List Entry) (words' : List ℕ) (lock : Option ℕ) (dirty : Bool) where
  -- the bucket after the step
  abbrev bucket_now : BucketState
  bucket_now = record (r.table.bucket b) { lock = lock; dirty = dirty }

  abbrev HoldsIt : Option LockedBucket → Type 0
  HoldsIt None = Unit {0}
  HoldsIt (Some l) = (l.bucket ≡ b) × HoldsBucket z words' id (known_at known b) l bucket_now

  -- what such a step needs, where the view after it has these records, knows this and has this lock
  pub record Relock : Type 0 where
    pub at : get_elem? s.views id ≡ some v
    pub acts : 1 ≤ length v.records
    pub inside : b < buckets z
    -- the words
    pub wide : length words' ≡ length s.words
    pub count : count_of words' ≡ count_of s.words
    pub front : (i : ℕ) → 1 ≤ i → i < front_words z → slice_index words' i ≡ slice_index s.words i
    pub beside : Beside z (runs_now r.table.bucket r.table.store.store s.views) s.words words' b id
    pub block : HoldsBlockIf z words' v.holds.block
    -- the bucket
    pub free : Free id (r.table.bucket b).lock
    pub free' : Free id lock
    pub stored : dirty ≡ false → (r.table.bucket b).dirty ≡ false
    pub word : slice_index words' (bucket_at z b)
        ≡ packed (word_of (r.table.bucket b).extent (is_some lock) (length (r.table.bucket b).history))
    pub at_rest : lock ≡ None → Stands words' (page_at z (r.table.bucket b).extent.page) (r.table.bucket b).block
    pub clean : lock ≡ None → dirty ≡ false
    -- the view
    pub informed : IsInformed z r.table known records
    pub numbers : HasNumbers v.seen records
    pub whole : v.lone ≡ true → IsWhole records (count_of s.words)
    pub able : 1 ≤ length records
    pub same_numbers : (n : ℕ) → HasNumber records n → HasNumber v.records n
    pub short : BearOutOfPages z (all_used z r.table.openings r.table.bucket) records
    pub other : (l : LockedBucket) → v.holds.bucket ≡ Some l → l.bucket ≡ b
    pub noted : lock ≡ Some id → (l : LockedBucket) × (held ≡ Some l) × (l.bucket ≡ b)
    pub holds : HoldsIt held
    -- the log
    pub logged : LogRule z r.table.openings (λ c. (r.table.bucket c).history) (set s.views id (relocking v records known held log))

  module _ (m : Relock) where
    abbrev buckets' : ℕ → BucketState
    buckets' = put r.table.bucket b bucket_now

    here : buckets' b ≡ bucket_now
    here = put_here r.table.bucket b bucket_now

    elsewhere : (c : ℕ) → c ≢ b → buckets' c ≡ r.table.bucket c
    elsewhere c ne = put_else r.table.bucket b c bucket_now ne

    -- what a bucket has besides its lock is as it was
    same_at : {A : Type 0} (f : BucketState → A) → f bucket_now ≡ f (r.table.bucket b) → (c : ℕ) → f (buckets' c) ≡ f (r.table.bucket c)
    same_at f same c = dite (ℕ_discrete c b)
        (λ e. subst (λ (c : ℕ). f (buckets' c) ≡ f (r.table.bucket c)) (sym e) (ap f here ∙ same)) (λ ne. ap f (elsewhere c ne))

    holds_still : (lock : Option LockedBucket) → HoldsIt lock → HoldsBucketIf z words' buckets' id known lock
    holds_still None h = tt
    holds_still (Some l) h = subst (λ (c : ℕ). HoldsBucket z words' id (known_at known c) l (buckets' c)) (sym h.0)
        (subst (HoldsBucket z words' id (known_at known b) l) (sym here) h.1)

    notes_still : NotesLocks z buckets' id held
    notes_still c l e = dite (ℕ_discrete c b)
        (λ is. let n = m.noted (sym (ap (λ (x : BucketState). x.lock) here) ∙ (ap (λ (c : ℕ). (buckets' c).lock) (sym is) ∙ e)) in
        (n.0, n.1, n.2 ∙ sym is))
        (λ ne. let n = (r.each_view id v m.at).only c l (ap (λ (x : BucketState). x.lock) (sym (elsewhere c ne)) ∙ e) in
        absurd (ne (sym n.2 ∙ m.other n.0 n.1)))

    relocked_view : IsView z words' (count_of s.words) record { openings = r.table.openings; bucket = buckets'; store = r.table.store } id
        (relocking v records known held log)
    relocked_view = let ok = r.each_view id v m.at in record {
      informed = same_informed z r.table record { openings = r.table.openings; bucket = buckets'; store = r.table.store } known records refl
          (same_at (λ (x : BucketState). x.history) refl) m.informed;
      numbers = m.numbers;
      seen = ok.seen;
      lone = m.whole;
      able = inl m.able;
      bucket = holds_still held m.holds;
      only = notes_still;
      store = store_lock_beside z s.words words' m.front r.table.store id v.holds.store ok.store;
      only_store = ok.only_store;
      block = m.block;
      open_bucket = tt;
      still = λ _. tt;
      row = λ _. no_row words';
      short = subst (λ (n : ℕ). BearOutOfPages z n records) (sym (ap (most_used z r.table.openings.used)
          (same_writes r.table.bucket buckets' (same_at (λ (x : BucketState). x.history) refl) (buckets z)))) m.short;
      left = tt;
      meeting = tt;
    }

    bucket_still : IsBucket z words' (count_of s.words) b (opening_in r.table.openings b) bucket_now
    bucket_still = let ok = r.each_bucket b m.inside in record {
      word = m.word;
      writes = ok.writes;
      bearers = ok.bearers;
      size = ok.size;
      pairs = ok.pairs;
      at_rest = m.at_rest;
      clean = m.clean;
    }

    -- the rule follows such a step
    pub relocked_rule : WordRule z record { words = words'; homes = s.homes; views = set s.views id (relocking v records known held log) }
    relocked_rule = moved z s r b id v (relocking v records known held log) words' buckets' r.table.store record {
      at = m.at;
      acts = m.acts;
      wide = m.wide;
      count = m.count;
      elsewhere = elsewhere;
      beside = m.beside;
      free = m.free;
      free' = subst (λ (x : BucketState). Free id x.lock) (sym here) m.free';
      grows = subst (λ (x : BucketState). Grows v.records (r.table.bucket b).history x.history) (sym here)
          (grows_not v.records (r.table.bucket b).history);
      keeps = subst (Keeps (r.table.bucket b)) (sym here) record {
        more = le_refl (length (r.table.bucket b).history);
        extent = λ _. refl;
        block = λ _. refl;
        dirty = λ _ e. m.stored e;
      };
      here = λ _. subst (IsBucket z words' (count_of s.words) b (opening_in r.table.openings b)) (sym here) bucket_still;
      outside = λ out. let l = m.inside in absurd (omega arith);
      store = subst (λ (n : ℕ). IsStore z words' n r.table.store)
          (sym (ap (most_used z r.table.openings.used)
          (same_writes r.table.bucket buckets' (same_at (λ (x : BucketState). x.history) refl) (buckets z))))
          (store_keeps z s.words words' m.front (all_used z r.table.openings r.table.bucket) (all_used z r.table.openings r.table.bucket) r.table.store
          (le_refl (all_used z r.table.openings r.table.bucket)) r.store);
      undisturbed = inl (refl, m.front);
      view = relocked_view;
      numbers = m.same_numbers;
      logged = histories_logged z r.table.openings (λ c. (r.table.bucket c).history) (λ c. (buckets' c).history)
          (set s.views id (relocking v records known held log)) (same_at (λ (x : BucketState). x.history) refl) m.logged;
      parted = subst (IsPartition z.pages r.table.store.store.used) (sym (runs_still r.table.bucket buckets' r.table.store.store
          r.table.store.store s.views id v (relocking v records known held log) (same_at (λ (x : BucketState). run_of x.extent.page x.extent.size.log2) refl) (λ _. refl) m.at refl))
          r.parted;
    }
