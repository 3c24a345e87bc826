-- Calls without a lock: what was seen of the bucket, what its answer leaves of the caller, and the lock after it.
use Rattle.std.proofs.Common.{◌≡◌, ◌∙◌, ℕ, ◌<◌, ◌≤◌, true, false, List, [], length, le_refl, refl, sym, ap, subst, arith, Option, Some}
use lib.Seq.{set-get_or}
use Rattle.std.specs.FinMap.{get}
use Rattle.bihash_words.specs.Maps.{Pairs, IsEvent}
use Rattle.bihash_words.specs.Sizes.{Sizes}
use Rattle.bihash_words.specs.Words.{packed}
use Rattle.bihash_rule.specs.Words.{buckets}
use Rattle.bihash_rule.specs.Histories.{IsWriteList, after, bounds_of, bucket_of}
use Rattle.bihash_rule.specs.Callers.{known_at, opening_at}
use Rattle.bihash_rule.specs.Blocks.{IsBlockOf}
use Rattle.bihash_rule.specs.Buckets.{AreReadIn, word_of, open_word}
use Rattle.bihash_rule.specs.Views.{nothing_held, no_notes}
use Rattle.bihash_steps.specs.BucketSteps.{open_on, locked_on, map_now, SeesOpen, TakesLock, RestsOn, without_notes}
use Rattle.bihash_rule.specs.declared.view.Write.{Write}
use Rattle.bihash_rule.specs.declared.view.Extent.{Extent}
use Rattle.bihash_rule.specs.declared.view.Holdings.{Holdings}
use Rattle.bihash_rule.specs.declared.view.LockedBucket.{LockedBucket}
use Rattle.bihash_rule.specs.declared.view.View.{View}
use Rattle.bihash_steps.proofs.InformedViews.{known_learned}
use Rattle.bihash_steps.proofs.Prefixes.{prefix_refl}
use Rattle.bihash_steps.proofs.WholeHistories.{prefix_whole}
use Rattle.bihash_table.specs.Answers.{locks_of, search_of}
use Rattle.bihash_table.specs.Promise.{IsContended}
use Rattle.bihash_table.specs.inner.Locked.{IsLocked}
use Rattle.bihash_table.specs.inner.OpenReads.{HasOpen, IsOpened}
use Rattle.bihash_table.proofs.CallerViews.{contended_by}
use Rattle.bihash_table.proofs.LockReleases.{with_locks-locks_of}

-- ---- A bucket that was seen without its lock

module _ (z : Sizes) (v u : View) (b word : ℕ) (inside : b < buckets z) (free : v.holds ≡ nothing_held) (s : SeesOpen z v b word u)
    (seen : v.lone ≡ true → known_at u.known b ≡ known_at v.known b) where
  known_is : known_at u.known b ≡ s.history
  known_is = ap (λ (x : View). known_at x.known b) s.is ∙ known_learned v b s.history s.found.listed

  opening_is : opening_at u.known b ≡ opening_at v.known b
  opening_is = ap (λ (x : View). opening_at x.known b) s.is

  map_is : map_now u b ≡ after (opening_at v.known b) s.history (length s.history)
  map_is = λ i. after (opening_is i) (known_is i) (length (known_is i))

  -- nobody wrote since where the word has the version that was known
  pub map_still : length s.history ≤ length (known_at v.known b) → map_now u b ≡ map_now v b
  map_still few = let same = prefix_whole (known_at v.known b) s.history s.found.begins few in
      map_is ∙ (λ i. after (opening_at v.known b) (sym same i) (length (sym same i)))

  pub opened : IsOpened z v u b word
  opened = record {
    history = s.history;
    begins = s.found.begins;
    notes = record no_notes { open_bucket = Some (open_on b (length s.history) s.extent s.block) };
    is = s.is;
    alone = λ lone. let same = ap length (seen lone) in let whole = ap length known_is in omega arith;
    listed = s.found.listed;
    has = record {
      inside = inside;
      held = ap (λ (x : View). x.holds) s.is ∙ free;
      extent = s.extent;
      block = record {
        open_bucket = open_on b (length s.history) s.extent s.block;
        noted = ap (λ (x : View). x.notes.open_bucket) s.is;
        extent = refl;
        fits = s.found.fits;
        stood = s.found.stood;
        small = s.found.pairs.rule.small;
        near = s.found.near;
        size = s.found.size;
      };
      bucket = refl;
      version = ap length (sym known_is);
      short = subst (λ (h : List Write). length h ≤ z.limit) (sym known_is) s.found.writes.short;
      pairs = subst (IsBlockOf z s.extent s.block) (sym map_is) s.found.pairs;
    };
  }

pub lost_at : (z : Sizes) (key : List ℕ) (v w : View) (b : ℕ) → bucket_of z key ≡ b → IsContended z v w b → IsContended z v w (bucket_of z key)
lost_at z key v w b home away = subst (IsContended z v w) (sym home) away

-- a search is a call that leaves the map
pub is_read : (z : Sizes) (key : List ℕ) (found : Option ℕ) (m : Pairs) (n : ℕ) → found ≡ get m key
    → (m' : Pairs) × IsEvent (bounds_of z) m n (search_of key found) m'
is_read z key found m n is = (m, record { found = is; removed = refl; answers = (refl, refl) })

-- ---- The lock is taken after the reads

pub not_taken : (z : Sizes) (v w : View) (b : ℕ) → v.holds ≡ nothing_held → w ≡ without_notes v → IsContended z v w b
not_taken z v w b free is = let notes = ap (λ (x : View). x.notes) is in contended_by z v w b record {
  history = known_at v.known b;
  begins = prefix_refl (known_at v.known b);
  locks = locks_of v.records;
  is = is ∙ (λ i. record v {
    records = sym (with_locks-locks_of v.records) i;
    known = record v.known { writes = sym (set-get_or v.known.writes b []) i };
    holds = free i;
    notes = sym notes i;
  });
  alone = λ _. le_refl (length (known_at v.known b));
}

module _ (z : Sizes) (v w : View) (b word : ℕ) (h : HasOpen z v b word) (t : TakesLock z v b word w)
    (rests : (l : LockedBucket) → w.holds.bucket ≡ Some l → RestsOn h.block.open_bucket l) where
  abbrev pub lock_taken : LockedBucket
  lock_taken = locked_on b (length t.history) t.extent t.block

  pub rests_here : RestsOn h.block.open_bucket lock_taken
  rests_here = rests lock_taken (ap (λ (x : View). x.holds.bucket) t.is)

  pub few_known : length t.history ≤ length (known_at v.known b)
  few_known = let a = rests_here.version in let c = h.version in omega arith

  pub now_known : known_at w.known b ≡ t.history
  now_known = ap (λ (x : View). known_at x.known b) t.is ∙ known_learned v b t.history t.found.listed

  pub same_known : known_at w.known b ≡ known_at v.known b
  same_known = now_known ∙ sym (prefix_whole (known_at v.known b) t.history t.found.begins few_known)

  pub now_opening : opening_at w.known b ≡ opening_at v.known b
  now_opening = ap (λ (x : View). opening_at x.known b) t.is

  pub now_map : map_now w b ≡ after (opening_at v.known b) t.history (length t.history)
  now_map = λ i. after (now_opening i) (now_known i) (length (now_known i))

  -- the map is the one from before the lock
  pub same_map : map_now w b ≡ map_now v b
  same_map = now_map ∙ (λ i. after (opening_at v.known b) (sym (prefix_whole (known_at v.known b) t.history t.found.begins few_known) i)
      (length (sym (prefix_whole (known_at v.known b) t.history t.found.begins few_known) i)))

  pub reads_rest : AreReadIn h.block.open_bucket.reads h.block.open_bucket.block
  reads_rest = subst (AreReadIn h.block.open_bucket.reads) rests_here.block rests_here.reads

  abbrev pub locked_after : IsLocked z v w b word
  locked_after = record {
    history = t.history;
    begins = t.found.begins;
    lock = lock_taken;
    is = t.is;
    alone = λ _. few_known;
    has = record {
      inside = h.inside;
      held = ap (λ (x : View). x.holds) t.is ∙ ap (λ (y : Holdings). record y { bucket = Some lock_taken }) h.held;
      bucket = refl;
      version = ap length (sym now_known);
      fits = t.found.fits;
      stood = t.found.stood;
      clean = refl;
      near = t.found.near;
      size = t.found.size;
      pairs = subst (IsBlockOf z t.extent t.block) (sym now_map) t.found.pairs;
      writes = subst (IsWriteList z b (opening_at w.known b)) (sym now_known)
          (subst (λ (m : Pairs). IsWriteList z b m t.history) (sym now_opening) t.found.writes);
    };
  }

-- the word that was noted is that of the open bucket
pub open_word_is : (z : Sizes) (v : View) (b word : ℕ) (h : HasOpen z v b word) → word ≡ open_word h.block.open_bucket
open_word_is z v b word h = subst (λ (e : Extent). word ≡ packed (word_of e false h.block.open_bucket.version)) (sym h.block.extent) h.block.stood
