-- A bucket that was seen without its lock, with what was read of it, and its lock after that.
use Rattle.std.specs.Prelude.{◌≡◌, ◌≢◌, ◌<◌, ◌≤◌, ℕ, Bool, true, false, List, length, Option, None, Some, IfSome, IfNone, is_some, Result}
use Rattle.std.specs.FinMap.{get, len}
use Rattle.bihash_words.specs.Maps.{Event, Pairs, IsEvent, effect_of, most_pairs}
use Rattle.bihash_words.specs.Patches.{IsStorable}
use Rattle.bihash_words.specs.Sizes.{Sizes, sizes_of}
use Rattle.bihash_words.specs.declared.patch.Change.{Change}
use Rattle.bihash_words.specs.declared.patch.Change.TheVariants.{Keep, Set}
use Rattle.bihash_words.specs.declared.patch.Reply.{Reply}
use Rattle.bihash_words.specs.declared.patch.Reply.TheVariants.{Full, NoPages}
use Rattle.bihash_words.specs.declared.expiry.Expiry
use Rattle.bihash_words.specs.declared.shape.Shape.{Ghosts}
use Rattle.bihash_rule.specs.Histories.{bounds_of, is_changed}
use Rattle.bihash_rule.specs.Callers.{IsLawfulCaller, known_at}
use Rattle.bihash_rule.specs.Blocks.{IsBlockOf, places}
use Rattle.bihash_rule.specs.Buckets.{AreReadIn}
use Rattle.bihash_steps.specs.BucketSteps.{map_now}
use Rattle.bihash_steps.specs.Seats.{CallerState, with_view}
use Rattle.bihash_rule.specs.declared.view.Extent.{Extent}
use Rattle.bihash_rule.specs.declared.view.OpenBucket.{OpenBucket}
use Rattle.bihash_rule.specs.declared.view.View.{View}
use Rattle.bihash_steps.specs.BucketCalls.{event}
use Rattle.bihash_table.specs.Answers.{recycled_update}
use Rattle.bihash_table.specs.Tries.{TriedOver}
use Rattle.bihash_table.specs.declared.contended.Contended.{Contended}
use Rattle.bihash_table.specs.declared.entered_value.Entrant.{Entrant}
use Rattle.bihash_table.specs.declared.hashed_key.SeenBucket.{SeenBucket}
use Rattle.bihash_table.specs.inner.Locked.{IsLocked}
use Rattle.bihash_table.specs.inner.OpenReads.{HasOpen, IsOpened, IsPairIn, value_of}
use Rattle.bihash_table.specs.Promise.{IsContended}
use Rattle.bihash_rule.specs.Places.{ArePlaces, IsCrowdedFor}

-- The caller saw bucket b without its lock, and read words of its block since. What they tell of the block
-- holds on the condition that they are its words.
pub record HasSeen (z : Sizes) (v : View) (b word : ℕ) (tells : Extent → List ℕ → Type 0) : Type 0 where
  pub seen : HasOpen z v b word
  pub told : AreReadIn seen.block.open_bucket.reads seen.block.open_bucket.block → tells seen.extent seen.block.open_bucket.block

-- what was found at the key is what the map has there
abbrev pub IsValueOf : Sizes → List ℕ → Option ℕ → Extent → List ℕ → Type 0
IsValueOf z key found e block = (m : Pairs) → IsBlockOf z e block m → found ≡ get m key

-- a call may be answered so after n writes of the bucket, whose map doesn't change
abbrev pub IsAnswerOf : Sizes → ℕ → Event → Extent → List ℕ → Type 0
IsAnswerOf z n call e block = (m : Pairs) → IsBlockOf z e block m → (m' : Pairs) × IsEvent (bounds_of z) m n call m'

-- the key is new, and no free place is open to it
abbrev pub IsNewAndCrowded : Sizes → List ℕ → Extent → List ℕ → Type 0
IsNewAndCrowded z key e block = IsPairIn z key None e block × IsCrowdedFor z e block key

-- The lock was taken where the bucket was seen: nobody wrote since, and the words that were read are those
-- of the block.
pub record LocksSeen (z : Sizes) (v w : View) (b word : ℕ) : Type 0 where
  pub locked : IsLocked z v w b word
  pub known : known_at w.known b ≡ known_at v.known b
  pub map : map_now w b ≡ map_now v b
  pub bucket : OpenBucket
  pub noted : v.notes.open_bucket ≡ Some bucket
  pub extent : locked.lock.extent ≡ bucket.extent
  pub block : locked.lock.now ≡ bucket.block
  pub reads : AreReadIn bucket.reads bucket.block

-- The bucket has still the word that it was seen with: nobody wrote since, and the words that were read are those of the
-- block.
pub record RestsSeen (v w : View) (b : ℕ) : Type 0 where
  pub map : map_now w b ≡ map_now v b
  pub bucket : OpenBucket
  pub noted : v.notes.open_bucket ≡ Some bucket
  pub reads : AreReadIn bucket.reads bucket.block

-- a look at bucket b, which a lone caller finds unlocked: its word where it was
pub record TellsUnlocked (z : Sizes) (s t : CallerState) (b : ℕ) (r : Option ℕ) : Type 0 where
  pub same : t ≡ with_view s t.view
  pub opened : IfSome r (IsOpened z s.view t.view b)
  pub contended : IfNone r (IsContended z s.view t.view b)
  pub no_lock : IfNone r (t.view.records ≡ s.view.records)
  pub lone : s.view.lone ≡ true → is_some r ≡ true
  pub lawful : IsLawfulCaller z t.view

-- a try to lock bucket b from the word that it was seen with, at which a lone caller succeeds
pub record TellsLockTry (z : Sizes) (s t : CallerState) (b word : ℕ) (won : Bool) : Type 0 where
  pub same : t ≡ with_view s t.view
  pub locked : won ≡ true → LocksSeen z s.view t.view b word
  pub contended : won ≡ false → IsContended z s.view t.view b
  pub no_lock : won ≡ false → t.view.records ≡ s.view.records
  pub lone : s.view.lone ≡ true → won ≡ true
  pub lawful : IsLawfulCaller z t.view

-- a look whether bucket b has still the word that it was seen with, as a lone caller finds it
pub record TellsUnchanged (z : Sizes) (s t : CallerState) (b : ℕ) (here : Bool) : Type 0 where
  pub same : t ≡ with_view s t.view
  pub rests : here ≡ true → RestsSeen s.view t.view b
  pub learned : IsContended z s.view t.view b
  pub no_lock : t.view.records ≡ s.view.records
  pub lone : s.view.lone ≡ true → here ≡ true
  pub lawful : IsLawfulCaller z t.view

-- ---- What a call may do on what was seen

-- The caller of this row saw the bucket, and may give this reply, which is no write and no refusal for want of pages or
-- of room.
pub record MayReply {A K : Type 0} (g : Ghosts A K) (row : _) (s : CallerState) (bucket : SeenBucket A K g)
    (found : Option ℕ) (change : Change) (reply : Reply) : Type 0 where
  pub own : s.row ≡ row
  pub seen : HasSeen (sizes_of g) s.view bucket.hashed.bucket bucket.word
      (IsAnswerOf (sizes_of g) (length (known_at s.view.known bucket.hashed.bucket))
      (event (g.words_of bucket.hashed.key.now) found change reply))
  pub reads : is_changed reply ≡ false
  pub paged : (log2 left : ℕ) → reply ≡ NoPages log2 left → ⊥
  pub roomy : reply ≢ Full

-- The caller of this row saw the bucket, and what a look for the key's pair found there.
pub record Found {A K : Type 0} (g : Ghosts A K) (row : _) (s : CallerState) (bucket : SeenBucket A K g)
    (pair : Option (ℕ × ℕ)) : Type 0 where
  pub own : s.row ≡ row
  pub seen : HasSeen (sizes_of g) s.view bucket.hashed.bucket bucket.word
      (IsPairIn (sizes_of g) (g.words_of bucket.hashed.key.now) pair)

-- The same, where a change of that was decided and the version isn't used up.
pub record WantsChange {A K : Type 0} (g : Ghosts A K) (row : _) (s : CallerState) (bucket : SeenBucket A K g)
    (pair : Option (ℕ × ℕ)) (change : Change) : Type 0 where
  pub own : s.row ≡ row
  pub seen : HasSeen (sizes_of g) s.view bucket.hashed.bucket bucket.word
      (IsPairIn (sizes_of g) (g.words_of bucket.hashed.key.now) pair)
  pub unworn : length (known_at s.view.known bucket.hashed.bucket) < g.LIMIT
  pub wanted : effect_of change (value_of pair) ≢ Keep
  pub storable : IsStorable change

-- The caller of this row saw the bucket, which has no free place for a new key that is to have this value.
pub record WantsRoom {A K : Type 0} (g : Ghosts A K) (row : _) (s : CallerState) (bucket : SeenBucket A K g)
    (value : ℕ) : Type 0 where
  pub own : s.row ≡ row
  pub seen : HasSeen (sizes_of g) s.view bucket.hashed.bucket bucket.word
      (IsNewAndCrowded (sizes_of g) (g.words_of bucket.hashed.key.now))
  pub unworn : length (known_at s.view.known bucket.hashed.bucket) < g.LIMIT
  pub storable : IsStorable (Set value)

-- the places of a bucket that has no room for the new key
abbrev pub IsFullFor : {A K : Type 0} (g : Ghosts A K) → K → List (K × ℕ) → Extent → List ℕ → Type 0
IsFullFor g key ps e block = IsNewAndCrowded (sizes_of g) (g.words_of key) e block × ArePlaces g ps block
    × ((m : Pairs) → IsBlockOf (sizes_of g) e block m → most_pairs (bounds_of (sizes_of g)) ≤ len m)
    × (length ps ≡ places e.page e.size.log2)

-- The caller of this row saw the bucket, which is full, with these places. A new key is to have this value.
pub record WantsPlace {A K : Type 0} (g : Ghosts A K) (row : _) (s : CallerState) (bucket : SeenBucket A K g)
    (value : ℕ) (ps : List (K × ℕ)) : Type 0 where
  pub own : s.row ≡ row
  pub seen : HasSeen (sizes_of g) s.view bucket.hashed.bucket bucket.word (IsFullFor g bucket.hashed.key.now ps)
  pub count : length ps ≡ places seen.seen.extent.page seen.seen.extent.size.log2
  pub unworn : length (known_at s.view.known bucket.hashed.bucket) < g.LIMIT
  pub storable : IsStorable (Set value)

-- The caller of this row saw the bucket, and may be refused for want of room: its expiry removes no pair.
pub record MayRefuse {A K : Type 0} (g : Ghosts A K) (row : _) (s : CallerState) (bucket : SeenBucket A K g) (value : ℕ)
    (is_expired : ℕ → Bool) : Type 0 where
  pub own : s.row ≡ row
  pub seen : HasSeen (sizes_of g) s.view bucket.hashed.bucket bucket.word
      (IsAnswerOf (sizes_of g) (length (known_at s.view.known bucket.hashed.bucket))
      (recycled_update (g.words_of bucket.hashed.key.now) None (Set value) is_expired None Full))

-- One try to enter a new key in the bucket that was seen, with a value and an expiry.
abbrev pub TriedToEnter : {A K E : Type 0} (g : Ghosts A K) (x : Expiry.Ghosts E) (s t : CallerState) → SeenBucket A K g → Entrant E
    → Result Reply Contended → Type 0
TriedToEnter g x s t bucket entrant r = TriedOver g s t bucket.hashed.key.now None (Set entrant.value) (x.is_expired entrant.expiry.now) r
