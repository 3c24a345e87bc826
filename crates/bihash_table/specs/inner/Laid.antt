-- Another block that is laid out for a bucket whose lock the caller has: a larger one, or a smaller one.
use Rattle.std.specs.Prelude.{◌≡◌, ℕ, ◌*◌, ◌^◌, ◌<◌, ◌≤◌, true, false, List, length, slice_get, slice_set, None, Some}
use Rattle.std.specs.FinMap.{insert, len, remove}
use Rattle.bihash_words.specs.Maps.{most_pairs}
use Rattle.bihash_words.specs.declared.block_size.BlockSize.{BlockSize}
use Rattle.bihash_words.specs.Sizes.{sizes_of}
use Rattle.bihash_words.specs.declared.shape.Shape.{Ghosts}
use Rattle.bihash_words.specs.declared.patch.Change.TheVariants.{Set, Remove}
use Rattle.bihash_rule.specs.Histories.{bounds_of}
use Rattle.bihash_rule.specs.Blocks.{IsBlockOf, free}
use Rattle.bihash_steps.specs.BucketSteps.{map_now}
use Rattle.bihash_steps.specs.Seats.{CallerState}
use Rattle.bihash_table.specs.declared.hashed_key.SeenBucket.{SeenBucket}
use Rattle.bihash_table.specs.inner.Locked.{IsPairBeside, UnderLock}
use Rattle.bihash_table.specs.inner.OpenReads.{IsPairIn}
use Rattle.bihash_rule.specs.Places.{ArePlaces}
use Rattle.bihash_plan.specs.Wants.{IsPlanned}

-- The bucket has room for the new key, and these places of a block of this size, which is the planned one, hold its
-- pairs and the new one.
pub record IsLaidFor {A K : Type 0} (g : Ghosts A K) (row : _) (s : CallerState) (bucket : SeenBucket A K g) (value : ℕ)
    (size : BlockSize) (block : List (K × ℕ)) : Type 0 where
  pub held : UnderLock g row s bucket (Set value) (λ z key. IsPairIn z key None)
  pub room : len (map_now s.view bucket.hashed.bucket) < most_pairs (bounds_of (sizes_of g))
  pub small : size.log2 ≤ g.MAX_LOG2
  pub sized : length block ≡ 4 * 2 ^ size.log2
  pub laid : (page : ℕ) (words : List ℕ) → 1 ≤ page → ArePlaces g block words
      → IsBlockOf (sizes_of g) (record { page = page; size = size }) words
      (insert (map_now s.view bucket.hashed.bucket) (g.words_of bucket.hashed.key.now) value)
  pub planned : IsPlanned g (map_now s.view bucket.hashed.bucket) bucket.hashed.key.now size

-- these are places without the pair at one of them
abbrev pub LeavesOut : {K : Type 0} → List (K × ℕ) → ℕ → List (K × ℕ) → Type 0
LeavesOut {K} places gone kept = (place : K × ℕ) → slice_get places gone ≡ Some place
    → kept ≡ slice_set places gone (place.0, free)

-- The bucket has another pair besides that of the key, and these places of a block of this size that isn't linear hold
-- all but that one.
pub record IsLaidWithout {A K : Type 0} (g : Ghosts A K) (row : _) (s : CallerState) (bucket : SeenBucket A K g) (pair : ℕ × ℕ)
    (log2 : ℕ) (block : List (K × ℕ)) : Type 0 where
  pub held : UnderLock g row s bucket Remove (λ z key. IsPairBeside z key pair true)
  pub small : log2 ≤ g.MAX_LOG2
  pub sized : length block ≡ 4 * 2 ^ log2
  pub laid : (page : ℕ) (words : List ℕ) → 1 ≤ page → ArePlaces g block words
      → IsBlockOf (sizes_of g) (record { page = page; size = record { log2 = log2; linear = false } }) words
      (remove (map_now s.view bucket.hashed.bucket) (g.words_of bucket.hashed.key.now))
