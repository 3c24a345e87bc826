-- A bucket between two steps: its word, its history, its block and the lock on it; what the lock's
-- holder knows, and what is known of a bucket that was seen without its lock.
use Rattle.std.specs.Prelude.{◌≡◌, ℕ, ◌<◌, ◌≤◌, List, length, slice_index, is_some, Bool, false, Option, Some, None}
use lib.ListN.{get_elem?}
use mathlib.Core.Option.{some}
use Rattle.bihash_words.specs.Sizes.{Sizes}
use Rattle.bihash_words.specs.Maps.{Pairs}
use Rattle.bihash_words.specs.Words.{Bucket, FitsWord, packed}
use Rattle.bihash_rule.specs.Words.{buckets, bucket_at, page_at, block_words, Stands}
use Rattle.bihash_rule.specs.Histories.{after, IsWriteList}
use Rattle.bihash_rule.specs.Callers.{known_at}
use Rattle.bihash_rule.specs.Blocks.{IsBlockOf}
use Rattle.bihash_rule.specs.declared.view.Write.{Write}
use Rattle.bihash_rule.specs.declared.view.Known.{Known}
use Rattle.bihash_rule.specs.declared.view.Extent.{Extent}
use Rattle.bihash_rule.specs.declared.view.LockedBucket.{LockedBucket}
use Rattle.bihash_rule.specs.declared.view.OpenBucket.{OpenBucket}

-- what there is to know of a bucket
pub record BucketState : Type 0 where
  pub history : List Write
  pub extent : Extent
  -- the words of the block as they count: those that the holder of the lock stored count as they were
  -- before
  pub block : List ℕ
  -- the seat that holds the lock
  pub lock : Option ℕ
  -- whether that seat stored a word of the block
  pub dirty : Bool

-- the fields of a bucket's word
abbrev pub word_of : Extent → Bool → ℕ → Bucket
word_of e locked version = record {
  page = e.page;
  log2 = e.size.log2;
  linear = e.size.linear;
  locked = locked;
  version = version;
}

-- Bucket b, which began with the map `opening`: its version counts its writes, each of which bears the
-- number of a caller that was made, and the pairs of its block are the map that they left.
pub record IsBucket (z : Sizes) (words : List ℕ) (count b : ℕ) (opening : Pairs)
    (x : BucketState) : Type 0 where
  pub word : slice_index words (bucket_at z b) ≡ packed
      (word_of x.extent (is_some x.lock) (length x.history))
  pub writes : IsWriteList z b opening x.history
  pub bearers : (n : ℕ) (w : Write) → get_elem? x.history n ≡ some w → (1 ≤ w.by) × (w.by ≤ count)
  pub size : length x.block ≡ block_words z x.extent.page x.extent.size.log2
  pub pairs : IsBlockOf z x.extent x.block (after opening x.history (length x.history))
  pub at_rest : x.lock ≡ None → Stands words (page_at z x.extent.page) x.block
  pub clean : x.lock ≡ None → x.dirty ≡ false

-- ---- With its lock

-- Seat j holds the lock of the bucket x. It knows the history whole, the words of the block as they
-- count, and those that stand there.
pub record HoldsBucket (z : Sizes) (words : List ℕ) (j : ℕ) (known : List Write) (l : LockedBucket)
    (x : BucketState) : Type 0 where
  pub inside : l.bucket < buckets z
  pub held : x.lock ≡ Some j
  pub extent : l.extent ≡ x.extent
  pub version : l.version ≡ length x.history
  pub fresh : known ≡ x.history
  pub was : l.was ≡ x.block
  pub size : length l.now ≡ block_words z l.extent.page l.extent.size.log2
  pub stands : Stands words (page_at z l.extent.page) l.now
  pub clean : l.stored ≡ false → l.now ≡ l.was
  pub dirty : x.dirty ≡ l.stored

abbrev pub HoldsBucketIf : Sizes → List ℕ → (ℕ → BucketState) → ℕ → Known → Option LockedBucket → Type 0
HoldsBucketIf z words x j known None = Unit {0}
HoldsBucketIf z words x j known (Some l) = HoldsBucket z words j (known_at known l.bucket) l (x l.bucket)

-- a lock that seat j has is the one that it notes
abbrev pub NotesLocks : Sizes → (ℕ → BucketState) → ℕ → Option LockedBucket → Type 0
NotesLocks z x j lock = (b : ℕ) → b < buckets z → (x b).lock ≡ Some j → (l : LockedBucket)
    × (lock ≡ Some l) × (l.bucket ≡ b)

-- ---- Without its lock

-- the words that were read are those of the block
abbrev pub AreReadIn : List (ℕ × ℕ) → List ℕ → Type 0
AreReadIn reads block = (i : ℕ) (p : ℕ × ℕ) → get_elem? reads i ≡ some p → p.1 ≡ slice_index block p.0

-- the word of the bucket, as it was seen
abbrev pub open_word : OpenBucket → ℕ
open_word o = packed (word_of o.extent false o.version)

-- While the version is the one that was seen, so are the word but for its lock bit and the block as it
-- counts. While moreover the holder of the lock, if any, stored no word of the block, the words that
-- were read are those of the block.
pub record IsOpen (z : Sizes) (o : OpenBucket) (x : BucketState) : Type 0 where
  pub inside : o.bucket < buckets z
  pub fits : FitsWord (word_of o.extent false o.version)
  pub past : o.version ≤ length x.history
  pub extent : o.version ≡ length x.history → o.extent ≡ x.extent
  pub block : o.version ≡ length x.history → o.block ≡ x.block
  pub reads : o.version ≡ length x.history → x.dirty ≡ false → AreReadIn o.reads x.block

abbrev pub IsOpenIf : Sizes → (ℕ → BucketState) → Option OpenBucket → Type 0
IsOpenIf z x None = Unit {0}
IsOpenIf z x (Some o) = IsOpen z o (x o.bucket)

-- the word that was seen is there
abbrev pub StandsStillIf : Sizes → List ℕ → Option OpenBucket → Type 0
StandsStillIf z words None = Unit {0}
StandsStillIf z words (Some o) = slice_index words (bucket_at z o.bucket) ≡ open_word o
