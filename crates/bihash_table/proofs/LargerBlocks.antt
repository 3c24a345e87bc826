-- A larger block that was planned and laid out from what was read of a bucket: what it is without the lock, and
-- after it.
use Rattle.std.proofs.Common.{◌≡◌, ◌≢◌, ◌<◌, ◌≤◌, ℕ, List, length, None, ap, subst, sym}
use Rattle.std.specs.FinMap.{get, insert, len}
use Rattle.bihash_words.specs.declared.shape.Shape.{Ghosts}
use Rattle.bihash_words.specs.Maps.{most_pairs}
use Rattle.bihash_words.specs.Patches.{IsStorable, free_mark}
use Rattle.bihash_words.specs.Sizes.{sizes_of}
use Rattle.bihash_words.specs.declared.block_size.BlockSize.{BlockSize}
use Rattle.bihash_words.specs.Words.{Bucket, FitsWord, packed}
use Rattle.bihash_words.specs.Pages.{page_of, paging_of}
use Rattle.bihash_plan.specs.Blocks.{IsCrowded, IsLawfulBlock, IsNew}
use Rattle.bihash_plan.specs.Layouts.{IsNamed, IsRehash}
use Rattle.bihash_plan.specs.Plans.{IsPlan}
use Rattle.bihash_plan.specs.Searches.{IsOnlyPlan}
use Rattle.bihash_plan.specs.declared.plan_answer.Plan.{Plan}
use Rattle.bihash_plan.specs.declared.plan_answer.Plan.TheVariants.{Grow}
use Rattle.bihash_rule.specs.Histories.{bounds_of}
use Rattle.bihash_rule.specs.Blocks.{IsBlockOf, places}
use Rattle.bihash_words.specs.declared.patch.Change.TheVariants.{Set}
use Rattle.bihash_rule.specs.Callers.{known_at}
use Rattle.bihash_steps.specs.Seats.{CallerState}
use Rattle.bihash_steps.specs.BucketSteps.{map_now}
use Rattle.bihash_rule.specs.declared.view.LockedBucket.{LockedBucket}
use Rattle.bihash_rule.specs.declared.view.View.{View}
use Rattle.bihash_table.specs.declared.hashed_key.SeenBucket.{SeenBucket}
use Rattle.bihash_table.specs.inner.Locked.{HasLock}
use Rattle.bihash_rule.specs.Places.{ArePlaces}
use Rattle.bihash_table.specs.inner.Seen.{HasSeen, IsFullFor, IsNewAndCrowded, LocksSeen, WantsPlace}
use Rattle.bihash_plan.specs.Wants.{IsPlanned}
use Rattle.bihash_table.proofs.Blocks.{below_free}
use Rattle.bihash_table.proofs.Bridge.{AreKeyWords, block_of_rehash, extent_of}
use Rattle.bihash_table.proofs.PairReads.{pair_value}
use Rattle.bihash_table.proofs.OpenPlaces.{word_tells}
use Rattle.bihash_table.proofs.BlockPlans.{has_room, hold, is_full, is_named, is_planned, of_keys, planned}
use Rattle.bihash_table.proofs.OpenReadLemmas.{word_notes}
use Rattle.bihash_table.proofs.SeenBuckets.{told_locked}
use Rattle.bihash_table.proofs.StoreLemmas.{linear_is, log2_is}

module _ {A K : Type 0} (g : Ghosts A K) (keys : AreKeyWords g) (v : View) (b word : ℕ) (key : K) (ps : List (K × ℕ))
    (h : HasSeen (sizes_of g) v b word (λ e block. IsNewAndCrowded (sizes_of g) (g.words_of key) e block × ArePlaces g ps block))
    (was : BlockSize) (was_told : (x : Bucket) → FitsWord x → word ≡ packed x → was ≡ record { log2 = x.log2; linear = x.linear })
    (plan : Plan) (told_plan : IsLawfulBlock (paging_of g) was.log2 was.linear ps → IsNew ps key
    → IsCrowded was.linear (page_of (paging_of g) was.log2 key) ps → IsOnlyPlan (paging_of g) was.log2 was.linear ps key plan) where
  -- the fields that the word tells
  log2_told : (x : Bucket) → FitsWord x → word ≡ packed x → was.log2 ≡ x.log2
  log2_told x fits is = ap (λ (s : BlockSize). s.log2) (was_told x fits is)

  linear_told : (x : Bucket) → FitsWord x → word ≡ packed x → was.linear ≡ x.linear
  linear_told x fits is = ap (λ (s : BlockSize). s.linear) (was_told x fits is)

  -- a plan that isn't a larger block
  pub full_seen : ((size : BlockSize) → plan ≡ Grow size → ⊥) → length ps ≡ places h.seen.extent.page h.seen.extent.size.log2
      → HasSeen (sizes_of g) v b word (IsFullFor g key ps)
  full_seen other count = let z = sizes_of g in let e = h.seen.extent in let block = h.seen.block.open_bucket.block in
      let tells = word_notes z v word e h.seen.block in
      record {
        seen = h.seen;
        told = λ reads. let told = h.told reads in (
          told.0,
          told.1,
          λ m pairs.
              let absent : get m (g.words_of key) ≡ None = sym (pair_value z e block (g.words_of key) m None told.0.0 pairs) in
              is_full g keys e block m key h.seen.block.size pairs told.0.1 absent ps told.1 plan
              (planned g keys e block m key h.seen.block.size pairs told.0.1 absent ps told.1 was.log2 was.linear plan
              (log2_is z word e tells was.log2 log2_told) (linear_is z word e tells was.linear linear_told) told_plan) other,
          count,
        );
      }

  pub full_extent : (other : (size : BlockSize) → plan ≡ Grow size → ⊥) (count : length ps ≡ places h.seen.extent.page h.seen.extent.size.log2)
      → length ps ≡ places (full_seen other count).seen.extent.page (full_seen other count).seen.extent.size.log2
  unfolding full_seen
  full_extent other count = count

  -- ---- After the lock

  module _ (u : View) (k : LocksSeen (sizes_of g) v u b word) where
    lock : LockedBucket
    lock = k.locked.lock

    has : HasLock (sizes_of g) u b word k.locked.lock
    has = k.locked.has

    told : IsNewAndCrowded (sizes_of g) (g.words_of key) k.locked.lock.extent k.locked.lock.now × ArePlaces g ps k.locked.lock.now
    told = told_locked (sizes_of g) v u b word h k

    pub absent_there : get (map_now u b) (g.words_of key) ≡ None
    absent_there = sym (pair_value (sizes_of g) k.locked.lock.extent k.locked.lock.now (g.words_of key) (map_now u b) None told.0.0 has.pairs)

    module _ (size : BlockSize) (is : plan ≡ Grow size) where
      named : IsPlan (paging_of g) k.locked.lock.extent.size.log2 k.locked.lock.extent.size.linear ps key (Grow size)
      named = let z = sizes_of g in let e = k.locked.lock.extent in let tells = word_tells z u b word k.locked.lock has in
          subst (λ (p : Plan). IsPlan (paging_of g) e.size.log2 e.size.linear ps key p) is
          (planned g keys e k.locked.lock.now (map_now u b) key has.size has.pairs told.0.1 absent_there ps told.1 was.log2 was.linear plan
          (log2_is z word e tells was.log2 log2_told) (linear_is z word e tells was.linear linear_told) told_plan)

      pub room_there : len (map_now u b) < most_pairs (bounds_of (sizes_of g))
      room_there = has_room g keys k.locked.lock.extent k.locked.lock.now (map_now u b) key has.size has.pairs told.0.1 absent_there ps told.1
          size named

      pub laid_there : (value : ℕ) (new : List (K × ℕ)) → value < free_mark
          → (IsNamed (paging_of g) ps key size → value ≢ free_mark → IsRehash (paging_of g) size.log2 size.linear ps key value new)
          → (page : ℕ) (words : List ℕ) → 1 ≤ page → ArePlaces g new words
          → IsBlockOf (sizes_of g) (extent_of page size) words (insert (map_now u b) (g.words_of key) value)
      laid_there value new storable lays page words some there =
          let e = k.locked.lock.extent in let block = k.locked.lock.now in let m = map_now u b in
          block_of_rehash g keys page size ps key value m new
          (hold g keys e block m key has.size has.pairs told.0.1 absent_there ps told.1)
          (of_keys g keys e block m key has.size has.pairs told.0.1 absent_there ps told.1)
          absent_there
          (lays (is_named g keys e block m key has.size has.pairs told.0.1 absent_there ps told.1 size named) (below_free value storable)) words some there

      pub planned_there : IsPlanned g (map_now u b) key size
      planned_there = is_planned g keys k.locked.lock.extent k.locked.lock.now (map_now u b) key has.size has.pairs told.0.1 absent_there ps told.1
          size named

-- a caller may look for a place in a full bucket whose places it read
pub wants_place : {A K : Type 0} (g : Ghosts A K) (row : _) (s : CallerState) (bucket : SeenBucket A K g) (value : ℕ) (ps : List (K × ℕ))
    → s.row ≡ row → (h : HasSeen (sizes_of g) s.view bucket.hashed.bucket bucket.word (IsFullFor g bucket.hashed.key.now ps))
    → length ps ≡ places h.seen.extent.page h.seen.extent.size.log2 → length (known_at s.view.known bucket.hashed.bucket) < g.LIMIT
    → IsStorable (Set value) → WantsPlace g row s bucket value ps
wants_place g row s bucket value ps own h count unworn storable =
    record { own = own; seen = h; count = count; unworn = unworn; storable = storable }
