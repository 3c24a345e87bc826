-- The store of a bucket's next word, which opens its lock.
use Rattle.std.proofs.Common.{◌≡◌, ◌≢◌, ℕ, zero, suc, ◌+◌, ◌<◌, ◌≤◌, Bool, false, List, [], ◌∷◌, ◌++◌, length, set, refl, sym, ap, ◌∙◌, subst, inl, arith, le_refl, length-set, length-append, get_or-set_same, Option, Some, None, true}
use mathlib.Core.Logic.{dite}
use mathlib.Core.Option.{some, some-ne-none, some-injective}
use native.Mathlib.Decide.{ℕ_discrete}
use lib.ListN.{get_elem?}
use Rattle.std.specs.Prelude.{slice_index}
use Rattle.atomic_table.specs.Table.{State, keeps, Allows}
use Rattle.bihash_words.specs.Sizes.{Sizes}
use Rattle.bihash_words.specs.Words.{packed}
use Rattle.bihash_words.specs.declared.patch.Reply.TheVariants.{Changed, NoPages}
use Rattle.bihash_rule.specs.Words.{count_of, front_words, buckets, bucket_at, page_at, block_words, Stands}
use Rattle.bihash_rule.specs.Histories.{IsWrite, after, is_changed, write_of}
use Rattle.bihash_rule.specs.Callers.{known_at, opening_in, HasNumber}
use Rattle.bihash_rule.specs.declared.view.Openings.{Openings}
use Rattle.bihash_rule.specs.Blocks.{IsBlockOf}
use Rattle.bihash_rule.specs.Partition.{IsPartition, PageRun, run_of}
use Rattle.bihash_rule.specs.Buckets.{BucketState, word_of, IsBucket, HoldsBucket, HoldsBucketIf}
use Rattle.bihash_rule.specs.PageStores.{StoreState, IsStore, HoldsStoreIf, NotesStore, HoldsBlockIf, all_writes, all_used, runs_now}
use Rattle.bihash_rule.specs.WordRule.{IsView, WordRule}
use Rattle.bihash_steps.specs.Steps.{ViewOfSeat}
use Rattle.bihash_steps.specs.BucketSteps.{acting, MayWrite, MayMark, marked, next_map, view_after_write, entry_of, Enters, TellsEntry}
use Rattle.bihash_rule.specs.declared.view.Write.{Write}
use Rattle.bihash_rule.specs.declared.view.Call.{Call}
use Rattle.bihash_rule.specs.declared.view.Entry.{Entry}
use Rattle.bihash_rule.specs.declared.view.Record.{Record}
use Rattle.bihash_rule.specs.declared.view.Extent.{Extent}
use Rattle.bihash_rule.specs.declared.view.LockedBucket.{LockedBucket}
use Rattle.bihash_rule.specs.declared.view.LockedStore.{LockedStore}
use Rattle.bihash_rule.specs.declared.view.HeldBlock.{HeldBlock}
use Rattle.bihash_rule.specs.declared.view.View.{View}
use Rattle.bihash_steps.proofs.BucketPlaces.{place_inside}
use Rattle.bihash_steps.proofs.KnownLists.{lawful_set}
use Rattle.bihash_steps.proofs.Lists.{there, no_row}
use Rattle.bihash_steps.proofs.Frames.{Keeps, Undisturbed, store_keeps, store_lock_beside, more_writes, used_more, more_short, moved}
use Rattle.bihash_steps.proofs.OwnedWords.{beside_bucket, block_keeps, front_still, store_still, count_still, bucket_after, bucket_inside, runs_still}
use Rattle.bihash_steps.proofs.Put.{put, put_here, put_else}
use Rattle.bihash_steps.proofs.PushedCalls.{push-length, push_numbers, push_whole, push_number, push_short, acting_is}
use Rattle.bihash_steps.proofs.LogEvents.{write_rule, write_enters}
use Rattle.bihash_steps.proofs.bucket_steps.Written.{after_last, list_more, bearers_more, written_informed}

-- the bucket after a write that gives it this block
abbrev pub state_after : BucketState → Write → Extent → List ℕ → BucketState
state_after x w e block = record { history = x.history ++ w ∷ []; extent = e; block = block; lock = None; dirty = false }

-- no history gets shorter
pub no_shorter : (x x' : ℕ → BucketState) (b : ℕ) (w : Write) (e : Extent) (block : List ℕ) → ((d : ℕ) → d ≢ b → x' d ≡ x d)
    → x' b ≡ state_after (x b) w e block → (d : ℕ) → length (x d).history ≤ length (x' d).history
no_shorter x x' b w e block elsewhere here d = dite (ℕ_discrete d b)
    (λ same. subst (λ (y : ℕ). length (x y).history ≤ length (x' y).history) (sym same)
    (let h = ap (λ (y : BucketState). length y.history) here in let l = length-append (x b).history (w ∷ []) in omega arith))
    (λ ne. subst (λ (y : BucketState). length (x d).history ≤ length y.history) (sym (elsewhere d ne)) (le_refl (length (x d).history)))

module _ (z : Sizes) where
  -- the view after a write, with this of the page store and this block
  abbrev pub written_with : View → Call → List Entry → Option LockedStore → Option HeldBlock → View
  written_with v c log store block = record (view_after_write v c) {
    holds = record { bucket = None; store = store; block = block };
    log = log;
  }

  module _ (s : State (Unit {0}) View) (r : WordRule z s) (id : ℕ) (v : View) (b word : ℕ) (c : Call) (at : get_elem? s.views id ≡ some v)
      (acts : 1 ≤ length v.records) (may : MayWrite z v b word c) where
    ok : IsView z s.words (count_of s.words) r.table id v
    ok = r.each_view id v at

    -- the seat holds the bucket's lock
    pub held_bucket : HoldsBucket z s.words id (known_at v.known b) may.lock (r.table.bucket b)
    held_bucket = subst (λ (d : ℕ). HoldsBucket z s.words id (known_at v.known d) may.lock (r.table.bucket d)) may.bucket
        (subst (HoldsBucketIf z s.words r.table.bucket id v.known) may.held ok.bucket)

    -- the log after the write
    abbrev pub new_log : List Entry
    new_log = r.logged.log ++ entry_of v c ∷ []

    pub bucket_in : b < buckets z
    bucket_in = subst (λ (d : ℕ). d < buckets z) may.bucket held_bucket.inside

    -- what a write needs of the page store
    pub record Settles (words' : List ℕ) (x' : ℕ → BucketState) (store' : StoreState) (store : Option LockedStore)
        (block : Option HeldBlock) : Type 0 where
      pub undisturbed : Undisturbed z s.words words' r.table.store store' id
      pub is : IsStore z words' (all_used z r.table.openings x') store'
      pub holds : HoldsStoreIf z words' store' id store
      pub notes : NotesStore store' id store
      pub held : HoldsBlockIf z words' block
      pub parted : IsPartition z.pages store'.store.used (runs_now x' store'.store (set s.views id (written_with v c new_log store block)))

    -- the bucket's next word n, with the block `now` at e, is stored
    module _ (n : ℕ) (e : Extent) (now : List ℕ) (store : Option LockedStore) (block : Option HeldBlock) (x' : ℕ → BucketState)
        (store' : StoreState) (elsewhere : (d : ℕ) → d ≢ b → x' d ≡ r.table.bucket d)
        (here : x' b ≡ state_after (r.table.bucket b) (write_of (acting v.records) c) e now)
        (is : n ≡ packed (word_of e false (length (known_at v.known b) + 1))) (size : length now ≡ block_words z e.page e.size.log2)
        (stands : Stands s.words (page_at z e.page) now) (pairs : IsBlockOf z e now (next_map v b c))
        (settles : Settles (set s.words (bucket_at z b) n) x' store' store block) where
      abbrev x : BucketState
      x = r.table.bucket b

      abbrev w : Write
      w = write_of (acting v.records) c

      abbrev i : ℕ
      i = bucket_at z b

      abbrev words' : List ℕ
      words' = set s.words i n

      fresh : known_at v.known b ≡ x.history
      fresh = held_bucket.fresh

      count : length (known_at v.known b) ≡ length x.history
      count = ap length fresh

      longer : length (x.history ++ w ∷ []) ≡ length x.history + 1
      longer = length-append x.history (w ∷ [])

      opening : v.known.openings ≡ r.table.openings
      opening = ok.informed.opening acts

      first : (a : Record) × (get_elem? v.records 0 ≡ some a)
      first = there v.records 0 (omega arith)

      acting_first : acting v.records ≡ first.0.number
      acting_first = acting_is v.records 0 first.0 refl first.1

      bearer : (1 ≤ w.by) × (w.by ≤ count_of s.words)
      bearer = let a = acting_first in let h = ok.numbers.range 0 first.0 first.1 in let low = h.0 in let high = h.1 in let seen = ok.seen in
          (omega arith, omega arith)

      own : (k : ℕ) (u : Write) → get_elem? (w ∷ []) k ≡ some u → HasNumber v.records u.by
      own zero u f = (0, first.0, first.1, sym acting_first ∙ ap (λ (y : Write). y.by) (some-injective w u f))
      own (suc k) u f = absurd (some-ne-none u (sym f))

      new_bucket : IsBucket z words' (count_of s.words) b (opening_in r.table.openings b) (state_after x w e now)
      new_bucket = let old = r.each_bucket b bucket_in in record {
        word = get_or-set_same s.words i n 0 (let a = bucket_inside z b bucket_in in let wide = r.wide in omega arith)
            ∙ (is ∙ ap (λ (k : ℕ). packed (word_of e false k)) (let a = count in let l = longer in omega arith));
        writes = list_more z b (opening_in r.table.openings b) x.history w (let a = count in let u = may.unworn in omega arith) old.writes
            (subst (λ (y : Openings × List Write). IsWrite z b (length y.1) (after (opening_in y.0 b) y.1 (length y.1)) w)
            (λ t. (opening t, fresh t)) may.write);
        bearers = bearers_more (count_of s.words) x.history w bearer old.bearers;
        size = size;
        pairs = subst (IsBlockOf z e now) map_is pairs;
        at_rest = λ _. front_still z s.words i n e.page now (let p = place_inside z b bucket_in in omega arith) stands;
        clean = λ _. refl;
      }
        where
          map_is : next_map v b c ≡ after (opening_in r.table.openings b) (x.history ++ w ∷ []) (length (x.history ++ w ∷ []))
          map_is = sym (after_last (opening_in v.known.openings b) (known_at v.known b) w)
              ∙ ((λ t. after (opening_in (opening t) b) (fresh t ++ w ∷ []) (length (fresh t) + 1))
              ∙ ap (after (opening_in r.table.openings b) (x.history ++ w ∷ [])) (sym longer))

      new_keeps : Keeps x (state_after x w e now)
      new_keeps = let l = longer in record {
        more = omega arith;
        extent = λ h. absurd (omega arith);
        block = λ h. absurd (omega arith);
        dirty = λ h _. absurd (omega arith);
      }

      pub written_view : IsView z words' (count_of s.words) (record r.table { bucket = x'; store = store' }) id (written_with v c new_log store block)
      written_view = record {
        informed = written_informed z v b word c may r.table (record r.table { bucket = x'; store = store' }) bucket_in refl
            (λ d ne. ap (λ (y : BucketState). y.history) (elsewhere d ne)) (ap (λ (y : BucketState). y.history) here) fresh ok.numbers ok.informed;
        numbers = push_numbers v.seen c v.records ok.numbers;
        seen = ok.seen;
        lone = λ h. push_whole (count_of s.words) c v.records (ok.lone h);
        able = inl (let l = push-length c v.records in omega arith);
        bucket = tt;
        only = λ d l f. dite (ℕ_discrete d b)
            (λ same. absurd (no_seat (ap (λ (y : BucketState). y.lock) (sym here) ∙ (ap (λ (y : ℕ). (x' y).lock) (sym same) ∙ f))))
            (λ ne. let o = ok.only d l (ap (λ (y : BucketState). y.lock) (sym (elsewhere d ne)) ∙ f) in
            let one : may.lock ≡ o.0 = cc (may.held, o.1) in
            absurd (ne (sym o.2 ∙ (ap (λ (y : LockedBucket). y.bucket) (sym one) ∙ may.bucket))));
        store = settles.holds;
        only_store = settles.notes;
        block = settles.held;
        open_bucket = tt;
        still = λ _. tt;
        row = λ _. no_row words';
        short = push_short z (all_used z r.table.openings x') c v.records (λ log2 left f. absurd (no_refusal log2 left (sym may.reply ∙ f)))
            (λ d h log2 left f. more_short z (all_used z r.table.openings r.table.bucket) (all_used z r.table.openings x') d log2 left
            (used_more z r.table.openings.used (all_writes z r.table.bucket) (all_writes z x')
            (more_writes r.table.bucket x' (no_shorter r.table.bucket x' b w e now elsewhere here) (buckets z))) (ok.short d h log2 left f));
        left = tt;
        meeting = tt;
      }
        where
          no_seat : None ≡ Some id → ⊥
          no_seat f = cc

          no_refusal : (log2 left : ℕ) → Changed c.found ≡ NoPages log2 left → ⊥
          no_refusal log2 left f = cc

      inside_c : c.bucket < buckets z
      inside_c = subst (λ (d : ℕ). d < buckets z) (sym may.call) bucket_in

      fresh_c : known_at v.known c.bucket ≡ (r.table.bucket c.bucket).history
      fresh_c = subst (λ (d : ℕ). known_at v.known d ≡ (r.table.bucket d).history) (sym may.call) fresh

      writes : is_changed c.reply ≡ true
      writes = ap is_changed may.reply

      stamp_c : c.stamp ≡ length (known_at v.known c.bucket) + 1
      stamp_c = may.stamp ∙ ap (λ (d : ℕ). length (known_at v.known d) + 1) (sym may.call)

      here_c : (x' c.bucket).history ≡ (r.table.bucket c.bucket).history ++ w ∷ []
      here_c = subst (λ (d : ℕ). (x' d).history ≡ (r.table.bucket d).history ++ w ∷ []) (sym may.call) (ap (λ (y : BucketState). y.history) here)

      elsewhere_c : (d : ℕ) → d ≢ c.bucket → (x' d).history ≡ (r.table.bucket d).history
      elsewhere_c d ne = ap (λ (y : BucketState). y.history) (elsewhere d (λ e. ne (e ∙ sym may.call)))

      -- what the write tells
      pub written_enters : (after : View) → written_with v c new_log store block ≡ record after { log = new_log }
          → Enters z v c after (written_with v c new_log store block)
      written_enters after is = write_enters z s r id v at acts c (record r.table { bucket = x'; store = store' }) written_view.informed inside_c fresh_c
          writes stamp_c here_c elsewhere_c after (written_with v c new_log store block) is

      pub writes_word : WordRule z record { words = words'; homes = s.homes; views = set s.views id (written_with v c new_log store block) }
      writes_word = moved z s r b id v (written_with v c new_log store block) words' x' store' record {
        at = at;
        acts = acts;
        wide = length-set s.words i n;
        count = count_still z s.words i n (bucket_after z b);
        elsewhere = elsewhere;
        beside = beside_bucket z (runs_now r.table.bucket r.table.store.store s.views) s.words b id n bucket_in;
        free = λ j ne f. ne (let h = held_bucket.held in cc);
        free' = λ j ne f. no_other j (ap (λ (y : BucketState). y.lock) (sym here) ∙ f);
        grows = record { more = w ∷ []; whole = ap (λ (y : BucketState). y.history) here; own = own };
        keeps = subst (Keeps x) (sym here) new_keeps;
        here = λ _. subst (IsBucket z words' (count_of s.words) b (opening_in r.table.openings b)) (sym here) new_bucket;
        outside = λ far. absurd (let l = bucket_in in omega arith);
        store = settles.is;
        undisturbed = settles.undisturbed;
        view = written_view;
        numbers = λ k h. push_number k c v.records h;
        logged = write_rule z s r id v at acts c (record r.table { bucket = x'; store = store' }) written_view.informed inside_c fresh_c writes stamp_c
            here_c elsewhere_c (written_with v c new_log store block) refl refl;
        parted = settles.parted;
      }
        where
          no_other : (j : ℕ) → None ≡ Some j → ⊥
          no_other j f = cc

  -- ---- The same block

  -- the holder of the lock of bucket b writes the bucket's next word, over the block as it is now, with this linear mark
  pub publishes_call : (slots id : ℕ) (m : ViewOfSeat) (b word : ℕ) (linear : Bool) (c : Call) (may : MayMark z m.0 b word linear c)
      → 1 ≤ length m.0.records
      → Allows (WordRule z) slots id m (bucket_at z b) (λ _. packed (word_of (marked may.write.lock.extent linear) false (may.write.lock.version + 1)))
      (λ _. TellsEntry z (λ v. view_after_write v c) c m)
  publishes_call slots id m b word linear c may acts s r deep at fits = (
    told,
    keeps,
    tt,
    rule,
    record {
      slots = refl;
      entered = written_enters s r id v b word c at acts may.write n e l.now v.holds.store v.holds.block x' q elsewhere here is h.size h.stands
          may.pairs settles (view_after_write v c) refl;
      lawful = lawful_set z (set s.words (bucket_at z b) n) s id v told at
          (let n = push-length c v.records in omega arith) rule;
    },
  )
    where
      v : View
      v = m.0

      told : View
      told = record (view_after_write v c) { log = r.logged.log ++ entry_of v c ∷ [] }

      q : StoreState
      q = r.table.store

      ok : IsView z s.words (count_of s.words) r.table id v
      ok = r.each_view id v at

      l : LockedBucket
      l = may.write.lock

      h : HoldsBucket z s.words id (known_at v.known b) l (r.table.bucket b)
      h = held_bucket s r id v b word c at acts may.write

      inside : b < buckets z
      inside = bucket_in s r id v b word c at acts may.write

      e : Extent
      e = marked l.extent linear

      n : ℕ
      n = packed (word_of e false (l.version + 1))

      words' : List ℕ
      words' = set s.words (bucket_at z b) n

      new : BucketState
      new = state_after (r.table.bucket b) (write_of (acting v.records) c) e l.now

      x' : ℕ → BucketState
      x' = put r.table.bucket b new

      here : x' b ≡ new
      here = put_here r.table.bucket b new

      elsewhere : (d : ℕ) → d ≢ b → x' d ≡ r.table.bucket d
      elsewhere d ne = put_else r.table.bucket b d new ne

      is : n ≡ packed (word_of e false (length (known_at v.known b) + 1))
      is = ap (λ (k : ℕ). packed (word_of e false (k + 1))) may.write.version

      its_run : BucketState → Option PageRun
      its_run y = run_of y.extent.page y.extent.size.log2

      runs : (d : ℕ) → its_run (x' d) ≡ its_run (r.table.bucket d)
      runs d = dite (ℕ_discrete d b)
          (λ same. ap (λ (y : ℕ). its_run (x' y)) same ∙ (ap its_run here
          ∙ (ap (λ (y : Extent). run_of y.page y.size.log2) h.extent ∙ ap (λ (y : ℕ). its_run (r.table.bucket y)) (sym same))))
          (λ ne. ap its_run (elsewhere d ne))

      still : (k : ℕ) → 1 ≤ k → k < front_words z → slice_index words' k ≡ slice_index s.words k
      still = store_still z s.words (bucket_at z b) n (omega arith)

      settles : Settles s r id v b word c at acts may.write words' x' q v.holds.store v.holds.block
      settles = record {
        undisturbed = inl (refl, still);
        is = store_keeps z s.words words' still (all_used z r.table.openings r.table.bucket) (all_used z r.table.openings x') q
            (used_more z r.table.openings.used (all_writes z r.table.bucket) (all_writes z x') (more_writes r.table.bucket x'
            (no_shorter r.table.bucket x' b (write_of (acting v.records) c) e l.now elsewhere here) (buckets z)))
            r.store;
        holds = store_lock_beside z s.words words' still q id v.holds.store ok.store;
        notes = ok.only_store;
        held = block_keeps z s.words (bucket_at z b) n (let p = place_inside z b inside in omega arith) v.holds.block ok.block;
        parted = subst (IsPartition z.pages q.store.used)
            (sym (runs_still r.table.bucket x' q.store q.store s.views id v told runs (λ _. refl) at refl)) r.parted;
      }

      rule : WordRule z record { words = words'; homes = s.homes; views = set s.views id told }
      rule = writes_word s r id v b word c at acts may.write n e l.now v.holds.store v.holds.block x' q elsewhere here is h.size h.stands
          may.pairs settles
