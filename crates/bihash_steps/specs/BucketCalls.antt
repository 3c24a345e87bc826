-- What the steps on a bucket leave of their caller: s is the caller before the step, t after it.
use Rattle.std.specs.Prelude.{◌≡◌, ◌⊎◌, ℕ, true, false, Bool, List, Option, Some, None}
use Rattle.bihash_words.specs.Expiries.{no_recycling}
use Rattle.bihash_words.specs.Maps
use Rattle.bihash_words.specs.Sizes.{Sizes}
use Rattle.bihash_words.specs.Words.{Bucket, FitsWord, packed}
use Rattle.bihash_words.specs.declared.patch.Change.{Change}
use Rattle.bihash_words.specs.declared.patch.Reply.{Reply}
use Rattle.bihash_rule.specs.Callers.{IsLawfulCaller, known_at}
use Rattle.bihash_rule.specs.Buckets.{open_word}
use Rattle.bihash_steps.specs.BucketSteps.{Enters, RestsOn, RestsOpen, SeesLocked, SeesOpen, TakesLock, without_notes, view_after_validate}
use Rattle.bihash_steps.specs.Seats.{CallerState, IsSameSeat, with_view}
use Rattle.bihash_rule.specs.Views.{nothing_held}
use Rattle.bihash_rule.specs.declared.view.Call.{Call}
use Rattle.bihash_rule.specs.declared.view.LockedBucket.{LockedBucket}
use Rattle.bihash_rule.specs.declared.view.OpenBucket.{OpenBucket}
use Rattle.bihash_rule.specs.declared.view.View.{View}

-- what was found at a key, what was decided on it, and the reply
abbrev pub event : List ℕ → Option ℕ → Change → Reply → Maps.Event
event key found change reply = record {
  key = key;
  found = found;
  change = change;
  reply = reply;
  recycling = no_recycling;
}

-- A bucket's word was loaded. A lone caller that holds no lock finds it unlocked, and knew the history before. Where the
-- word is the one that was noted, what was read since holds.
pub record FindsBucket (z : Sizes) (s t : CallerState) (b word : ℕ) : Type 0 where
  pub same : IsSameSeat s t
  pub seen : SeesOpen z s.view b word t.view ⊎ SeesLocked s.view word t.view
  pub lone : s.view.lone ≡ true → s.view.holds.bucket ≡ None → SeesOpen z s.view b word t.view
  pub again : RestsOpen s.view b word
  pub whole : s.view.lone ≡ true → known_at t.view.known b ≡ known_at s.view.known b
  pub lawful : IsLawfulCaller z t.view

-- A caller that holds nothing may take the lock of a bucket with this unlocked word: so a bucket's lock is never taken
-- under the allocation lock.
pub record MayLock (v : View) (word : ℕ) : Type 0 where
  pub free : v.holds ≡ nothing_held
  pub bucket : Bucket
  pub fits : FitsWord bucket
  pub stood : word ≡ packed bucket
  pub unlocked : bucket.locked ≡ false

-- The lock of bucket b was taken from this word, or not. A lone caller that has just loaded the word takes it,
-- and what was read since the word was loaded holds under the lock.
pub record TriesLock (z : Sizes) (s t : CallerState) (b word : ℕ) (locked : Bool) : Type 0 where
  pub same : IsSameSeat s t
  pub taken : locked ≡ true → TakesLock z s.view b word t.view
  pub not : locked ≡ false → t.view ≡ without_notes s.view
  pub lone : s.view.lone ≡ true → (o : OpenBucket) → s.view.notes.open_bucket ≡ Some o → o.bucket ≡ b
      → word ≡ open_word o → locked ≡ true
  pub rests : locked ≡ true → (o : OpenBucket) → s.view.notes.open_bucket ≡ Some o → o.bucket ≡ b
      → word ≡ open_word o → (l : LockedBucket) → t.view.holds.bucket ≡ Some l → RestsOn o l
  pub whole : s.view.lone ≡ true → locked ≡ true → known_at t.view.known b ≡ known_at s.view.known b
  pub lawful : IsLawfulCaller z t.view

-- The call c was answered: but for the log the caller is this view, and its entry is at the end of the log.
pub record HasEntered (z : Sizes) (s : CallerState) (after : View) (c : Call) (t : CallerState) : Type 0 where
  pub same : IsSameSeat s t
  pub entered : Enters z s.view c after t.view
  pub lawful : IsLawfulCaller z t.view

-- the call was answered where the bucket had the word that was noted; a lone caller finds it
pub record IsValidated (z : Sizes) (s t : CallerState) (c : Call) (here : Bool) : Type 0 where
  pub same : IsSameSeat s t
  pub valid : here ≡ true → Enters z s.view c (view_after_validate s.view c) t.view
  pub not : here ≡ false → t ≡ with_view s (without_notes s.view)
  pub lone : s.view.lone ≡ true → here ≡ true
  pub lawful : IsLawfulCaller z t.view
