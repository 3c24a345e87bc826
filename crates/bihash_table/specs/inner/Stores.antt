-- Words that were stored at one place of a locked block.
use Rattle.std.specs.Prelude.{◌≡◌, ◌⊎◌, ℕ, ◌+◌, ◌*◌, ◌^◌, ◌<◌, ◌≤◌, Bool, false, List, length, slice_index, Some}
use Rattle.bihash_words.specs.Sizes.{Sizes}
use Rattle.bihash_words.specs.Words.{FitsWord, packed}
use Rattle.bihash_rule.specs.Words.{place_words}
use Rattle.bihash_rule.specs.Blocks.{places}
use Rattle.bihash_rule.specs.Buckets.{word_of}
use Rattle.bihash_steps.specs.Seats.{CallerState}
use Rattle.bihash_rule.specs.declared.view.LockedBucket.{LockedBucket}
use Rattle.bihash_rule.specs.declared.view.View.{View}

-- a place of the block that the caller has locked, in the bucket whose word was this one
pub record HoldsPlace (z : Sizes) (v : View) (word place : ℕ) : Type 0 where
  pub lock : LockedBucket
  pub held : v.holds.bucket ≡ Some lock
  pub fits : FitsWord (word_of lock.extent false lock.version)
  pub stood : word ≡ packed (word_of lock.extent false lock.version)
  pub near : lock.extent.page + 2 ^ lock.extent.size.log2 ≤ z.pages + 1
  pub small : lock.extent.size.log2 ≤ z.max_log2
  pub inside : place < places lock.extent.page lock.extent.size.log2

-- word i of that place, where the caller belongs to this row
pub record HoldsWord (z : Sizes) (row : _) (s : CallerState) (word place i : ℕ) : Type 0 where
  pub own : s.row ≡ row
  pub held : HoldsPlace z s.view word place
  pub inside : i ≤ z.key_words

-- it was found, and nothing changed
pub record FindsWord (z : Sizes) (s t : CallerState) (place i found : ℕ) : Type 0 where
  pub same : t ≡ s
  pub value : (l : LockedBucket) → s.view.holds.bucket ≡ Some l → found ≡ slice_index l.now (place * place_words z + i)

-- word n is at no word of place i
abbrev pub IsBeside : Sizes → ℕ → ℕ → Type 0
IsBeside z i n = (n < i * place_words z) ⊎ (i * place_words z + place_words z ≤ n)

-- no word changed but those of place i
pub record IsPlaceSet (z : Sizes) (block now : List ℕ) (i : ℕ) : Type 0 where
  pub size : length now ≡ length block
  pub others : (n : ℕ) → IsBeside z i n → slice_index now n ≡ slice_index block n

-- After the view v, which had the lock l, the first k words of the key were stored at place i, and no
-- word of another place.
pub record HasStored (z : Sizes) (v w : View) (l : LockedBucket) (i : ℕ) (key : List ℕ)
    (k : ℕ) : Type 0 where
  pub now : List ℕ
  pub stored : Bool
  pub is : w ≡ record v {
    holds = record v.holds { bucket = Some (record l { now = now; stored = stored }) };
    notes = w.notes;
  }
  pub placed : IsPlaceSet z l.now now i
  pub words : (j : ℕ) → j < k → slice_index now (i * place_words z + j) ≡ slice_index key j
