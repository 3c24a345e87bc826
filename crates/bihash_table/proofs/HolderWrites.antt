-- What the holder of a lock may answer, and what it may write over the block as it stored it.
use Rattle.std.proofs.Common.{◌≡◌, ◌∙◌, ◌<◌, ◌+◌, ◌++◌, ℕ, Bool, true, false, List, [], ◌∷◌, length, Option, Some, None, ap, arith, refl, sym, subst}
use Rattle.std.specs.FinMap.{get}
use Rattle.bihash_words.specs.Maps.{IsEvent, changed}
use Rattle.bihash_words.specs.Patches.{IsStorable}
use Rattle.bihash_words.specs.Sizes.{Sizes}
use Rattle.bihash_words.specs.Words.{Bucket, FitsWord, packed}
use Rattle.bihash_words.specs.declared.patch.Change.{Change}
use Rattle.bihash_words.specs.declared.patch.Reply.{Reply}
use Rattle.bihash_words.specs.declared.patch.Reply.TheVariants.{Changed, NoPages}
use Rattle.bihash_rule.specs.Histories.{bounds_of, bucket_of, is_changed, write_of}
use Rattle.bihash_rule.specs.Callers.{known_at}
use Rattle.bihash_rule.specs.Blocks.{IsBlockOf}
use Rattle.bihash_rule.specs.Buckets.{word_of}
use Rattle.bihash_steps.specs.BucketCalls.{event}
use Rattle.bihash_steps.specs.BucketSteps.{Enters, MayAnswer, MayMark, acting, call_of, map_now, marked, with_lock, view_after_write}
use Rattle.bihash_rule.specs.declared.view.Call.{Call}
use Rattle.bihash_rule.specs.declared.view.Holdings.{Holdings}
use Rattle.bihash_rule.specs.declared.view.LockedBucket.{LockedBucket}
use Rattle.bihash_rule.specs.declared.view.View.{View}
use Rattle.bihash_table.specs.Promise.{IsAnswered, IsEntered}
use Rattle.bihash_table.specs.inner.Locked.{HasLock}
use Rattle.bihash_table.proofs.LockReleases.{written_from_lock}
use Rattle.bihash_table.proofs.SameCallers.{view_entered, write_entered}

-- a word with this linear mark
abbrev pub HasMark : ℕ → Bool → Type 0
HasMark word linear = (x : Bucket) → FitsWord x → word ≡ packed x → linear ≡ x.linear

module _ (z : Sizes) (v : View) (b word : ℕ) (l : LockedBucket) (has : HasLock z v b word l) (key : List ℕ)
    (long : length key ≡ z.key_words) (home : bucket_of z key ≡ b) (found : Option ℕ) (change : Change) where
  -- a call that is no write, and no refusal for want of pages
  pub may_answer : (reply : Reply) → is_changed reply ≡ false → ((log2 left : ℕ) → reply ≡ NoPages log2 left → ⊥)
      → IsEvent (bounds_of z) (map_now v b) (length (known_at v.known b))
      (event key found change reply) (map_now v b)
      → MayAnswer z v b word (call_of v b 0 (event key found change reply))
  may_answer reply reads paged step =
      let stamp : length (known_at v.known b) + 0 ≡ length (known_at v.known b) = omega arith in
      record {
        clean = record {
          lock = l;
          held = ap (λ h. h.bucket) has.held;
          bucket = has.bucket;
          stood = has.stood;
          clean = has.clean;
        };
        bucket = refl;
        stamp = stamp;
        key = record { long = long; home = home };
        reads = reads;
        answers = (map_now v b, record { found = step.found; removed = step.removed; answers = step.answers });
        short = λ log2 left is. absurd (paged log2 left is);
        store = refl;
      }

  module _ (w : View) (now : List ℕ) (is : w ≡ with_lock v (Some (record l { now = now; stored = true }))) where
    -- a write, where the words of the block are those of the map after it
    pub may_publish : found ≡ get (map_now v b) key → length (known_at v.known b) < z.limit → IsStorable change
        → IsEvent (bounds_of z) (map_now v b) (length (known_at v.known b))
        (event key (get (map_now v b) key) change (Changed (get (map_now v b) key)))
        (changed (map_now v b) key change)
        → IsBlockOf z l.extent now (changed (map_now v b) key change) → (linear : Bool) → HasMark word linear
        → MayMark z w b word linear (call_of w b 1 (event key found change (Changed found)))
    may_publish there unworn storable step pairs linear mark =
        subst (λ (u : View). MayMark z u b word linear (call_of u b 1 (event key found change (Changed found)))) (sym is) (record {
          write = record {
            lock = record l { now = now; stored = true };
            held = refl;
            bucket = has.bucket;
            version = has.version;
            fits = has.fits;
            stood = has.stood;
            unworn = unworn;
            call = refl;
            stamp = refl;
            found = there;
            reply = refl;
            store = refl;
            write = record {
              key = record { long = long; home = home };
              storable = storable;
              changes = record { found = step.found; removed = step.removed; answers = step.answers };
            };
          };
          pairs = subst (λ (m : Bool). IsBlockOf z (marked l.extent m) now (changed (map_now v b) key change))
              (sym (mark (word_of l.extent false l.version) has.fits has.stood)) pairs;
        })

    -- it was answered
    pub published : (u : View)
        → Enters z w (call_of w b 1 (event key found change (Changed found))) (view_after_write w (call_of w b 1 (event key found change (Changed found)))) u
        → IsAnswered z v u (event key found change (Changed found))
    published u entered =
        let done = view_entered entered in
        let all : u ≡ record (view_after_write (with_lock v (Some (record l { now = now; stored = true }))) (call_of v b 1 (event key found change (Changed found)))) { log = u.log } =
        done ∙ ap (λ (x : View). record (view_after_write x (call_of x b 1 (event key found change (Changed found)))) { log = u.log }) is in
        let here : View = record (view_after_write v (call_of v b 1 (event key found change (Changed found)))) { log = u.log } in
        let notes = ap (λ (x : View). x.notes) all in
        written_from_lock z v u b word l (event key found change (Changed found)) has home refl
        (all ∙ (ap (λ (h : Holdings). record here { holds = record h { bucket = None } }) has.held
        ∙ ap (λ n. record here { holds = record { bucket = None; store = None; block = None }; notes = n }) (sym notes)))
        (subst (λ (x : View). let c : Call = call_of x b 1 (event key found change (Changed found)) in
        IsEntered x.log (acting x.records) c u.log (known_at x.known b ++ write_of (acting x.records) c ∷ [])) is (write_entered entered refl))
