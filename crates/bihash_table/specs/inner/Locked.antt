-- A bucket whose lock a caller has, before it stored a word of its block.
use Rattle.std.specs.Cmp.Lexicographic.{slice_cmp}
use Rattle.std.specs.FinMap.{len}
use Rattle.std.specs.Ordering.{nat_cmp}
use Rattle.std.specs.declared.cmp.Ordering.TheVariants.{Greater}
use Rattle.bihash_words.specs.Blocks.{IsOpen}
use Rattle.bihash_words.specs.Maps.{Pairs, most_pairs}
use Rattle.bihash_words.specs.Pages.{page_of, word_paging}
use Rattle.std.specs.Prelude.{◌≡◌, ◌≢◌, ℕ, ◌+◌, ◌^◌, ◌<◌, ◌≤◌, Bool, List, length, true, false, None, Some}
use Rattle.bihash_words.specs.Patches.{IsStorable}
use Rattle.bihash_words.specs.Sizes.{Sizes, sizes_of}
use Rattle.bihash_words.specs.declared.shape.Shape.{Ghosts}
use Rattle.bihash_words.specs.declared.patch.Change.{Change}
use Rattle.bihash_words.specs.Words.{FitsWord, packed}
use Rattle.bihash_rule.specs.Words.{buckets, block_words}
use Rattle.bihash_rule.specs.Histories.{IsPrefix, IsWriteList, bounds_of}
use Rattle.bihash_rule.specs.Callers.{known_at, opening_at}
use Rattle.bihash_rule.specs.Blocks.{HoldsPair, IsBlockOf, places}
use Rattle.bihash_rule.specs.Buckets.{word_of}
use Rattle.bihash_rule.specs.Views.{nothing_held}
use Rattle.bihash_steps.specs.BucketSteps.{with_history, locking, map_now}
use Rattle.bihash_steps.specs.Seats.{CallerState}
use Rattle.bihash_rule.specs.declared.view.Extent.{Extent}
use Rattle.bihash_rule.specs.declared.view.Write.{Write}
use Rattle.bihash_rule.specs.declared.view.LockedBucket.{LockedBucket}
use Rattle.bihash_rule.specs.declared.view.View.{View}
use Rattle.bihash_table.specs.declared.hashed_key.SeenBucket.{SeenBucket}
use Rattle.bihash_table.specs.inner.OpenReads.{IsPairIn, OtherPairTells}
use Rattle.bihash_rule.specs.Places.{IsFreeFor}

-- The caller has the lock l of bucket b, whose word was this one, and nothing else. It knows the history
-- whole and the words of the block, none of which it stored.
pub record HasLock (z : Sizes) (v : View) (b word : ℕ) (l : LockedBucket) : Type 0 where
  pub inside : b < buckets z
  pub held : v.holds ≡ record nothing_held { bucket = Some l }
  pub bucket : l.bucket ≡ b
  pub version : l.version ≡ length (known_at v.known b)
  pub fits : FitsWord (word_of l.extent false l.version)
  pub stood : word ≡ packed (word_of l.extent false l.version)
  pub clean : l.stored ≡ false
  pub near : l.extent.page + 2 ^ l.extent.size.log2 ≤ z.pages + 1
  pub size : length l.now ≡ block_words z l.extent.page l.extent.size.log2
  pub pairs : IsBlockOf z l.extent l.now (map_now v b)
  pub writes : IsWriteList z b (opening_at v.known b) (known_at v.known b)

-- the lock was taken from the view v
pub record IsLocked (z : Sizes) (v w : View) (b word : ℕ) : Type 0 where
  pub history : List Write
  pub begins : IsPrefix (known_at v.known b) history
  pub lock : LockedBucket
  pub is : w ≡ locking (with_history v b history) lock
  -- a lone caller knew the history before
  pub alone : v.lone ≡ true → length history ≤ length (known_at v.known b)
  pub has : HasLock z w b word lock

-- The caller of this row has the lock of the bucket that was seen, for a change that it may make there. This is told of
-- the key and the block.
pub record UnderLock {A K : Type 0} (g : Ghosts A K) (row : _) (s : CallerState) (bucket : SeenBucket A K g) (change : Change)
    (tells : Sizes → List ℕ → Extent → List ℕ → Type 0) : Type 0 where
  pub own : s.row ≡ row
  pub lock : LockedBucket
  pub has : HasLock (sizes_of g) s.view bucket.hashed.bucket bucket.word lock
  pub unworn : length (known_at s.view.known bucket.hashed.bucket) < g.LIMIT
  pub storable : IsStorable change
  pub told : tells (sizes_of g) (g.words_of bucket.hashed.key.now) lock.extent lock.now

-- the same of a place of the block, before anything is told of it
pub record HasPlace {A K : Type 0} (g : Ghosts A K) (row : _) (s : CallerState) (bucket : SeenBucket A K g) (i : ℕ) : Type 0 where
  pub own : s.row ≡ row
  pub lock : LockedBucket
  pub has : HasLock (sizes_of g) s.view bucket.hashed.bucket bucket.word lock
  pub inside : i < places lock.extent.page lock.extent.size.log2

-- the key is new, and place i is free for it
abbrev pub IsPlaceForNew : Sizes → List ℕ → ℕ → Extent → List ℕ → Type 0
IsPlaceForNew z key i e block = IsPairIn z key None e block × IsFreeFor z e block key i

-- the key's pair is there, and whether another pair does
abbrev pub IsPairBeside : Sizes → List ℕ → ℕ × ℕ → Bool → Extent → List ℕ → Type 0
IsPairBeside z key pair other e block = IsPairIn z key (Some pair) e block × OtherPairTells z pair.0 other e block

-- Place i has an expired pair of the key that goes for a new one, and the block may have this linear mark then.
pub record IsSpareFor (z : Sizes) (key gone : List ℕ) (is_expired : ℕ → Bool) (linear : Bool) (i : ℕ) (e : Extent)
    (block : List ℕ) : Type 0 where
  pub value : ℕ
  pub pair : HoldsPair z e block gone value i
  pub word : value < 2 ^ 64
  pub expired : is_expired value ≡ true
  pub least : (other : List ℕ) (v j : ℕ) → HoldsPair z e block other v j → is_expired v ≡ true
      → slice_cmp nat_cmp gone other ≢ Greater
  pub open_to : IsOpen linear (page_of (word_paging z) e.size.log2 key) i
  pub stays : e.size.linear ≡ true → linear ≡ true

-- the key is new to a bucket that has no room, and takes that place
abbrev pub TakesPlace : Sizes → List ℕ → List ℕ → (ℕ → Bool) → Bool → ℕ → Extent → List ℕ → Type 0
TakesPlace z key gone is_expired linear i e block = IsPairIn z key None e block
    × ((m : Pairs) → IsBlockOf z e block m → most_pairs (bounds_of z) ≤ len m)
    × IsSpareFor z key gone is_expired linear i e block
