-- What the holder of a bucket's lock may write or answer where a new pair is entered, or the last one goes.
use Rattle.std.proofs.Common.{◌≡◌, ◌∙◌, ◌<◌, ◌≤◌, ◌+◌, ◌^◌, ℕ, List, Option, Some, None, ap, arith, inl, inr, length, refl, subst, sym}
use Rattle.std.specs.FinMap.{get, insert, len, remove}
use Rattle.std.specs.Prelude.{if◌then◌else◌, nat_lt}
use Rattle.std.proofs.lemmas.Bool.{le-ltb, lt-ltb}
use Rattle.bihash_words.specs.Expiries.{no_recycling}
use Rattle.bihash_words.specs.Maps.{Answers, Bounds, NoRoom, NewKey, WornOut, Pairs, OldKey, IsEvent, effect_of, most_pairs, case_with}
use Rattle.bihash_words.specs.Patches.{free_mark}
use Rattle.bihash_words.specs.Sizes.{Sizes}
use Rattle.bihash_words.specs.declared.patch.Change.{Change}
use Rattle.bihash_words.specs.declared.patch.Change.TheVariants.{Set, Remove}
use Rattle.bihash_words.specs.declared.patch.Reply.TheVariants.{Changed, NoPages}
use Rattle.bihash_rule.specs.Histories.{IsKeyOf, IsWrite, bounds_of}
use Rattle.bihash_rule.specs.Callers.{known_at}
use Rattle.bihash_rule.specs.PageStores.{returned_in}
use Rattle.bihash_rule.specs.Views.{no_notes}
use Rattle.bihash_words.proofs.MapLemmas.{none_removed}
use Rattle.bihash_steps.specs.BucketCalls.{event}
use Rattle.bihash_steps.specs.BucketSteps.{HoldsClean, MayAnswer, MayWrite, acting, call_of, map_now}
use Rattle.bihash_steps.specs.StoreSteps.{holding}
use Rattle.bihash_rule.specs.declared.view.Holdings.{Holdings}
use Rattle.bihash_rule.specs.declared.view.LockedBucket.{LockedBucket}
use Rattle.bihash_rule.specs.declared.view.LockedStore.{LockedStore}
use Rattle.bihash_rule.specs.declared.view.HeldBlock.{HeldBlock}
use Rattle.bihash_rule.specs.declared.view.PageStore.{PageStore}
use Rattle.bihash_rule.specs.declared.view.View.{View}
use Rattle.bihash_table.specs.inner.Taking.{LacksPages}
use Rattle.bihash_table.specs.inner.Locked.{HasLock}

-- ---- The rows of a call

-- a new key in a map with room
entering_row : (b : Bounds) (pairs n value : ℕ) → n < b.limit → pairs < most_pairs b
    → case_with b pairs n None (Set value) ≡ NewKey
entering_row b pairs n value unworn room =
    ap (λ t. if t then (if nat_lt pairs (most_pairs b) then NewKey else NoRoom) else WornOut) (lt-ltb n b.limit unworn)
    ∙ ap (λ t. if t then NewKey else NoRoom) (lt-ltb pairs (most_pairs b) room)

pub crowded_row : (b : Bounds) (pairs n value : ℕ) → n < b.limit → most_pairs b ≤ pairs
    → case_with b pairs n None (Set value) ≡ NoRoom
crowded_row b pairs n value unworn full =
    ap (λ t. if t then (if nat_lt pairs (most_pairs b) then NewKey else NoRoom) else WornOut) (lt-ltb n b.limit unworn)
    ∙ ap (λ t. if t then NewKey else NoRoom) (le-ltb pairs (most_pairs b) full)

-- a new pair is entered
pub enters : (b : Bounds) (m : Pairs) (n : ℕ) (key : List ℕ) (value : ℕ) (found : Option ℕ)
    → n < b.limit → len m < most_pairs b → get m key ≡ None → found ≡ get m key
    → IsEvent b m n (event key found (Set value) (Changed found)) (insert m key value)
enters b m n key value found unworn room absent is = record {
  found = is;
  removed = sym (none_removed _ m);
  answers = subst (λ f. Answers (case_with b (len m) n f (effect_of (Set value) f)) b m
      (event key f (Set value) (Changed f)) (insert m key value)) (sym (is ∙ absent))
      (subst (λ r. Answers r b m (event key None (Set value) (Changed None)) (insert m key value))
      (sym (entering_row b (len m) n value unworn room)) (inl (refl, refl)));
}

-- a new pair is refused for want of pages
pub wants : (b : Bounds) (m : Pairs) (n : ℕ) (key : List ℕ) (value log2 left : ℕ)
    → n < b.limit → len m < most_pairs b → get m key ≡ None → log2 ≤ b.max_log2 → left < 2 ^ log2
    → IsEvent b m n (event key None (Set value) (NoPages log2 left)) m
wants b m n key value log2 left unworn room absent small few = record {
  found = sym absent;
  removed = sym (none_removed _ m);
  answers = subst (λ r. Answers r b m (event key None (Set value) (NoPages log2 left)) m)
      (sym (entering_row b (len m) n value unworn room)) (inr ((log2, left, refl, small, few), refl));
}

-- a pair is removed
pub removes : (b : Bounds) (m : Pairs) (n : ℕ) (key : List ℕ) (old : ℕ) (found : Option ℕ)
    → n < b.limit → get m key ≡ Some old → found ≡ get m key
    → IsEvent b m n (event key found Remove (Changed found)) (remove m key)
removes b m n key old found unworn there is = record {
  found = is;
  removed = sym (none_removed _ m);
  answers = subst (λ f. Answers (case_with b (len m) n f (effect_of Remove f)) b m
      (event key f Remove (Changed f)) (remove m key)) (sym (is ∙ there))
      (subst (λ r. Answers r b m (event key (Some old) Remove (Changed (Some old))) (remove m key))
      (sym (ap (λ t. if t then OldKey else WornOut) (lt-ltb n b.limit unworn))) (refl, refl));
}

-- ---- Writes and answers under the lock

-- the view after a look at the page store
abbrev pub looked_at : View → PageStore → View
looked_at v store = record v {
  holds = record { bucket = v.holds.bucket; store = None; block = v.holds.block };
  notes = record no_notes { left = Some store };
}

module _ (z : Sizes) (v : View) (b word : ℕ) (l : LockedBucket) (key : List ℕ) (lock : HasLock z v b word l)
    (home : IsKeyOf z b key) (unworn : length (known_at v.known b) < z.limit) where
  pub held_bucket : v.holds.bucket ≡ Some l
  held_bucket = ap (λ (h : Holdings). h.bucket) lock.held

  pub clean : HoldsClean v b word
  clean = record { lock = l; held = held_bucket; bucket = lock.bucket; stood = lock.stood; clean = lock.clean }

  -- with the allocation lock, whatever else is held
  pub may_write : (store : Option LockedStore) (block : Option HeldBlock) (found : Option ℕ) (change : Change)
      → found ≡ get (map_now v b) key
      → IsWrite z b (length (known_at v.known b)) (map_now v b) (record { by = acting v.records; key = key; change = change; recycling = no_recycling })
      → MayWrite z (holding v store block) b word (call_of v b 1 (event key found change (Changed found)))
  may_write store block found change is write = record {
    lock = l;
    held = held_bucket;
    bucket = lock.bucket;
    version = lock.version;
    fits = lock.fits;
    stood = lock.stood;
    unworn = unworn;
    call = refl;
    stamp = refl;
    found = is;
    reply = refl;
    store = refl;
    write = write;
  }

  pub entering : (value : ℕ) → value < free_mark → len (map_now v b) < most_pairs (bounds_of z)
      → get (map_now v b) key ≡ None
      → IsWrite z b (length (known_at v.known b)) (map_now v b)
      (record { by = acting v.records; key = key; change = Set value; recycling = no_recycling })
  entering value storable room absent = record {
    key = home;
    storable = storable;
    changes = enters (bounds_of z) (map_now v b) (length (known_at v.known b)) key value (get (map_now v b) key) unworn
        room absent refl;
  }

  pub removing : (old : ℕ) → get (map_now v b) key ≡ Some old
      → IsWrite z b (length (known_at v.known b)) (map_now v b)
      (record { by = acting v.records; key = key; change = Remove; recycling = no_recycling })
  removing old there = record {
    key = home;
    storable = tt;
    changes = removes (bounds_of z) (map_now v b) (length (known_at v.known b)) key old (get (map_now v b) key) unworn
        there refl;
  }

  -- the page store has no block for it
  pub may_want : (value log2 left : ℕ) (store : PageStore) → len (map_now v b) < most_pairs (bounds_of z)
      → get (map_now v b) key ≡ None → log2 ≤ z.max_log2 → LacksPages z store log2 left
      → MayAnswer z (looked_at v store) b word (call_of (looked_at v store) b 0 (event key None (Set value) (NoPages log2 left)))
  may_want value log2 left store room absent small wanting = record {
    clean = record { lock = l; held = held_bucket; bucket = lock.bucket; stood = lock.stood; clean = lock.clean };
    bucket = refl;
    stamp = omega arith;
    key = home;
    reads = refl;
    answers = (
      map_now v b,
      wants (bounds_of z) (map_now v b) (length (known_at v.known b)) key value log2 left unworn room absent small
          wanting.few,
    );
    short = λ log2' left' e.
        let same : log2 ≡ log2' = cc in
        let same' : left ≡ left' = cc in (
          store,
          refl,
          ap (λ n. store.used + n) (sym same') ∙ wanting.unused,
          ap (returned_in store) (sym same) ∙ wanting.none,
        );
    store = refl;
  }
