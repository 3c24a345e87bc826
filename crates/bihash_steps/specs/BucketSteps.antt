-- What a view becomes at each kind of step on a bucket, and what the step tells its caller.
use Rattle.std.specs.Prelude.{◌≡◌, ◌⊎◌, ℕ, ◌+◌, ◌^◌, ◌<◌, ◌≤◌, List, [], ◌∷◌, ◌++◌, length, slice_index, slice_set, Bool, true, false, Option, Some, None}
use lib.ListN.{get_elem?}
use mathlib.Core.Option.{some}
use Rattle.std.specs.FinMap.{get}
use Rattle.std.specs.List.{last_or}
use Rattle.bihash_words.specs.Maps.{Event, Pairs, written}
use Rattle.bihash_words.specs.Sizes.{Sizes}
use Rattle.bihash_words.specs.Words.{FitsWord, packed}
use Rattle.bihash_words.specs.declared.patch.Reply.TheVariants.{Changed, NoPages}
use Rattle.bihash_rule.specs.Words.{block_words}
use Rattle.bihash_rule.specs.Histories.{IsKeyOf, IsPrefix, IsWrite, IsWriteList, IsAnswer, after, is_changed, store_of, write_of}
use Rattle.bihash_rule.specs.Callers.{known_at, opening_at, HasNumber, IsLawfulCaller}
use Rattle.bihash_rule.specs.Logs.{Begins, writes_on}
use Rattle.bihash_rule.specs.Blocks.{IsBlockOf}
use Rattle.bihash_rule.specs.Buckets.{AreReadIn, word_of, open_word}
use Rattle.bihash_rule.specs.PageStores.{returned_in}
use Rattle.bihash_rule.specs.Views.{no_notes}
use Rattle.bihash_steps.specs.Steps.{ViewOfSeat}
use Rattle.bihash_rule.specs.declared.view.Write.{Write}
use Rattle.bihash_rule.specs.declared.view.Call.{Call}
use Rattle.bihash_rule.specs.declared.view.Entry.{Entry}
use Rattle.bihash_rule.specs.declared.view.Record.{Record}
use Rattle.bihash_rule.specs.declared.view.Extent.{Extent}
use Rattle.bihash_rule.specs.declared.view.LockedBucket.{LockedBucket}
use Rattle.bihash_rule.specs.declared.view.OpenBucket.{OpenBucket}
use Rattle.bihash_rule.specs.declared.view.PageStore.{PageStore}
use Rattle.bihash_rule.specs.declared.view.View.{View}

-- ---- A load of a bucket's word

-- what was noted is dropped
abbrev pub without_notes : View → View
without_notes v = record v { notes = no_notes }

-- the history of bucket b is known whole
abbrev pub with_history : View → ℕ → List Write → View
with_history v b history = record v { known = record v.known { writes = slice_set v.known.writes b history } }

-- What a step that finds bucket b with this word, and so without its lock, tells of it: a history that
-- continues what was known, and the block that holds the pairs which that leaves.
pub record IsFound (z : Sizes) (v : View) (b word : ℕ) (history : List Write) (extent : Extent)
    (block : List ℕ) : Type 0 where
  pub begins : IsPrefix (known_at v.known b) history
  pub writes : IsWriteList z b (opening_at v.known b) history
  pub fits : FitsWord (word_of extent false (length history))
  pub stood : word ≡ packed (word_of extent false (length history))
  pub near : extent.page + 2 ^ extent.size.log2 ≤ z.pages + 1
  pub size : length block ≡ block_words z extent.page extent.size.log2
  pub pairs : IsBlockOf z extent block (after (opening_at v.known b) history (length history))
  pub listed : b < length v.known.writes

abbrev pub open_on : ℕ → ℕ → Extent → List ℕ → OpenBucket
open_on b version extent block = record {
  bucket = b;
  version = version;
  extent = extent;
  block = block;
  reads = [];
}

-- the bucket was seen without its lock: its history is known, and its block is noted
pub record SeesOpen (z : Sizes) (v : View) (b word : ℕ) (w : View) : Type 0 where
  pub history : List Write
  pub extent : Extent
  pub block : List ℕ
  pub found : IsFound z v b word history extent block
  pub is : w ≡ record (with_history v b history) {
    notes = record no_notes { open_bucket = Some (open_on b (length history) extent block) };
  }

-- somebody has the lock
pub record SeesLocked (v : View) (word : ℕ) (w : View) : Type 0 where
  pub extent : Extent
  pub version : ℕ
  pub fits : FitsWord (word_of extent true version)
  pub stood : word ≡ packed (word_of extent true version)
  pub is : w ≡ without_notes v

-- What was noted of bucket b, where its word is found again: the words that were read are those of its block. A lone
-- caller finds that word.
pub record RestsOpen (v : View) (b word : ℕ) : Type 0 where
  pub reads : (o : OpenBucket) → v.notes.open_bucket ≡ Some o → o.bucket ≡ b → word ≡ open_word o → AreReadIn o.reads o.block
  pub alone : v.lone ≡ true → (o : OpenBucket) → v.notes.open_bucket ≡ Some o → o.bucket ≡ b → word ≡ open_word o

-- a lone caller that has no lock finds none, and knew the history before
pub record TellsBucket (z : Sizes) (b : ℕ) (m : ViewOfSeat) (found : ℕ) (m' : ViewOfSeat) : Type 0 where
  pub slots : m'.1 ≡ m.1
  pub seen : SeesOpen z m.0 b found m'.0 ⊎ SeesLocked m.0 found m'.0
  pub lone : m.0.lone ≡ true → m.0.holds.bucket ≡ None → SeesOpen z m.0 b found m'.0
  pub again : RestsOpen m.0 b found
  pub lawful : IsLawfulCaller z m'.0
  pub whole : m.0.lone ≡ true → known_at m'.0.known b ≡ known_at m.0.known b

-- ---- The exchange that sets the lock bit

-- the acting record counts one lock more
abbrev pub lock_counted : List Record → List Record
lock_counted [] = []
lock_counted (r ∷ rs) = record r { locks = r.locks + 1 } ∷ rs

abbrev pub locked_on : ℕ → ℕ → Extent → List ℕ → LockedBucket
locked_on b version extent block = record {
  bucket = b;
  version = version;
  extent = extent;
  was = block;
  now = block;
  stored = false;
}

abbrev pub locking : View → LockedBucket → View
locking v l = record v {
  records = lock_counted v.records;
  holds = record v.holds { bucket = Some l };
  notes = no_notes;
}

-- the lock was taken where the bucket had this word: its history is known, and the words of its block
pub record TakesLock (z : Sizes) (v : View) (b word : ℕ) (w : View) : Type 0 where
  pub history : List Write
  pub extent : Extent
  pub block : List ℕ
  pub found : IsFound z v b word history extent block
  pub is : w ≡ locking (with_history v b history) (locked_on b (length history) extent block)

-- What was read while the bucket was open holds under its lock: the block is the one that was noted, and
-- the words that were read are its words.
pub record RestsOn (o : OpenBucket) (l : LockedBucket) : Type 0 where
  pub extent : l.extent ≡ o.extent
  pub version : l.version ≡ o.version
  pub block : l.was ≡ o.block
  pub reads : AreReadIn o.reads l.was

-- a lone caller that saw the bucket with this word takes its lock, and knew the history before
pub record TellsLock (z : Sizes) (b word : ℕ) (m : ViewOfSeat) (found : ℕ) (m' : ViewOfSeat) : Type 0 where
  pub slots : m'.1 ≡ m.1
  pub taken : found ≡ word → TakesLock z m.0 b word m'.0
  pub not : (found ≡ word → ⊥) → m'.0 ≡ without_notes m.0
  pub lone : m.0.lone ≡ true → (o : OpenBucket) → m.0.notes.open_bucket ≡ Some o → o.bucket ≡ b
      → word ≡ open_word o → found ≡ word
  pub rests : found ≡ word → (o : OpenBucket) → m.0.notes.open_bucket ≡ Some o → o.bucket ≡ b
      → word ≡ open_word o → (l : LockedBucket) → m'.0.holds.bucket ≡ Some l → RestsOn o l
  pub lawful : IsLawfulCaller z m'.0
  pub whole : m.0.lone ≡ true → found ≡ word → known_at m'.0.known b ≡ known_at m.0.known b

-- ---- The words of the block under the lock

abbrev pub with_lock : View → Option LockedBucket → View
with_lock v lock = record v { holds = record v.holds { bucket = lock }; notes = no_notes }

-- word k of the block that the caller has locked, which begins at this page
pub record IsLockedWord (z : Sizes) (v : View) (page k : ℕ) : Type 0 where
  pub lock : LockedBucket
  pub held : v.holds.bucket ≡ Some lock
  pub first : lock.extent.page ≡ page
  pub near : page + 2 ^ lock.extent.size.log2 ≤ z.pages + 1
  pub inside : k < block_words z page lock.extent.size.log2

pub record TellsLockedWord (k : ℕ) (m : ViewOfSeat) (found : ℕ) (m' : ViewOfSeat) : Type 0 where
  pub same : m' ≡ m
  pub value : (l : LockedBucket) → m.0.holds.bucket ≡ Some l → found ≡ slice_index l.now k

-- a word was stored
abbrev pub stored_in : LockedBucket → ℕ → ℕ → LockedBucket
stored_in l k word = record l { now = slice_set l.now k word; stored = true }

abbrev pub TellsStored : ℕ → ℕ → ViewOfSeat → ViewOfSeat → Type 0
TellsStored k word m m' = (l : LockedBucket) → m.0.holds.bucket ≡ Some l
    → m' ≡ (with_lock m.0 (Some (stored_in l k word)), m.1)

-- ---- The old word is put back

-- the holder of the lock of bucket b, whose word was this one, in whose block it stored nothing
pub record HoldsClean (v : View) (b word : ℕ) : Type 0 where
  pub lock : LockedBucket
  pub held : v.holds.bucket ≡ Some lock
  pub bucket : lock.bucket ≡ b
  pub stood : word ≡ packed (word_of lock.extent false lock.version)
  pub clean : lock.stored ≡ false

-- the lock was opened without an answer
abbrev pub without_lock : View → View
without_lock v = with_lock v None

-- the number that the caller acts under
abbrev pub acting : List Record → ℕ
acting [] = 0
acting (r ∷ rs) = r.number

-- the acting record has one call more
abbrev pub push_call : Call → List Record → List Record
push_call c [] = []
push_call c (r ∷ rs) = record r { calls = r.calls ++ c ∷ [] } ∷ rs

-- the last of its calls
abbrev pub last_call : List Record → Option Call
last_call [] = None
last_call (r ∷ rs) = last_or None r.calls

abbrev pub with_call : View → Call → View
with_call v c = record v { records = push_call c v.records }

-- a call on bucket b, `more` writes after what is known of it
abbrev pub call_of : View → ℕ → ℕ → Event → Call
call_of v b more e = record {
  bucket = b;
  stamp = length (known_at v.known b) + more;
  key = e.key;
  found = e.found;
  change = e.change;
  reply = e.reply;
  recycling = e.recycling;
  store = store_of e.reply v.notes.left;
}

-- the map of bucket b, as far as it is known
abbrev pub map_now : View → ℕ → Pairs
map_now v b = after (opening_at v.known b) (known_at v.known b) (length (known_at v.known b))

-- A call that is no write may be answered at the bucket's map. A refusal for want of pages rests on what
-- was noted when the allocation lock was opened: no block of its size was there, and so many pages
-- were never used.
pub record MayAnswer (z : Sizes) (v : View) (b word : ℕ) (c : Call) : Type 0 where
  pub clean : HoldsClean v b word
  pub bucket : c.bucket ≡ b
  pub stamp : c.stamp ≡ length (known_at v.known b)
  pub key : IsKeyOf z b c.key
  pub reads : is_changed c.reply ≡ false
  pub answers : IsAnswer z (map_now v b) (length (known_at v.known b)) c
  pub short : (log2 left : ℕ) → c.reply ≡ NoPages log2 left → (store : PageStore)
      × (v.notes.left ≡ Some store) × (store.used + left ≡ z.pages) × (returned_in store log2 ≡ [])
  pub store : c.store ≡ store_of c.reply v.notes.left

-- the call was answered, and the lock opened
abbrev pub view_after_answer : View → Call → View
view_after_answer v c = without_lock (with_call v c)

-- ---- The entry of an answered call

abbrev pub entry_of : View → Call → Entry
entry_of v c = record { by = acting v.records; call = c }

-- The call of the caller v was answered at a step before which the log of the table was `before`: its entry is the
-- next one. What the caller knew of the log begins it, and all that others entered since bears no number of the
-- caller. What the caller knew of the bucket are all its writes: the entry has the bucket's version at that step.
pub record Enters (z : Sizes) (v : View) (c : Call) (after w : View) : Type 0 where
  pub before : List Entry
  pub begins : Begins v.log before
  pub others : (k : ℕ) (e : Entry) → get_elem? begins.rest k ≡ some e → HasNumber v.records e.by → ⊥
  pub now : writes_on c.bucket before ≡ known_at v.known c.bucket
  pub is : w ≡ record after { log = before ++ entry_of v c ∷ [] }

pub record TellsEntry (z : Sizes) (after : View → View) (c : Call) (m m' : ViewOfSeat) : Type 0 where
  pub slots : m'.1 ≡ m.1
  pub entered : Enters z m.0 c (after m.0) m'.0
  pub lawful : IsLawfulCaller z m'.0

pub record TellsEvent (z : Sizes) (after : View → View) (m m' : ViewOfSeat) : Type 0 where
  pub seat : m' ≡ (after m.0, m.1)
  pub lawful : IsLawfulCaller z m'.0

-- ---- A write

-- The holder of the lock of bucket b, whose word was this one, may make the write of the call.
pub record MayWrite (z : Sizes) (v : View) (b word : ℕ) (c : Call) : Type 0 where
  pub lock : LockedBucket
  pub held : v.holds.bucket ≡ Some lock
  pub bucket : lock.bucket ≡ b
  pub version : lock.version ≡ length (known_at v.known b)
  pub fits : FitsWord (word_of lock.extent false lock.version)
  pub stood : word ≡ packed (word_of lock.extent false lock.version)
  pub unworn : length (known_at v.known b) < z.limit
  pub call : c.bucket ≡ b
  pub stamp : c.stamp ≡ length (known_at v.known b) + 1
  pub found : c.found ≡ get (map_now v b) c.key
  pub reply : c.reply ≡ Changed c.found
  pub store : c.store ≡ store_of c.reply v.notes.left
  pub write : IsWrite z b (length (known_at v.known b)) (map_now v b) (write_of (acting v.records) c)

-- the map after the write
abbrev pub next_map : View → ℕ → Call → Pairs
next_map v b c = written (map_now v b) c.key c.change c.recycling

-- the same block with this linear mark
abbrev pub marked : Extent → Bool → Extent
marked e linear = record { page = e.page; size = record { log2 = e.size.log2; linear = linear } }

-- it may be made with the block as it is now, which has this linear mark from then on
pub record MayMark (z : Sizes) (v : View) (b word : ℕ) (linear : Bool) (c : Call) : Type 0 where
  pub write : MayWrite z v b word c
  pub pairs : IsBlockOf z (marked write.lock.extent linear) write.lock.now (next_map v b c)

-- the write is at the end of the bucket's history, and the lock is open
abbrev pub view_after_write : View → Call → View
view_after_write v c = without_lock
    (with_call (with_history v c.bucket (known_at v.known c.bucket ++ write_of (acting v.records) c ∷ [])) c)

-- ---- Without the lock

-- more words of the open bucket were read
abbrev pub read_more : List (ℕ × ℕ) → Option OpenBucket → Option OpenBucket
read_more more None = None
read_more more (Some o) = Some (record o { reads = more ++ o.reads })

abbrev pub with_reading : View → List (ℕ × ℕ) → View
with_reading v more = record v { notes = record v.notes { open_bucket = read_more more v.notes.open_bucket } }

-- word k of the block that was noted of the open bucket, which begins at this page
pub record IsOpenWord (z : Sizes) (v : View) (page k : ℕ) : Type 0 where
  pub bucket : OpenBucket
  pub noted : v.notes.open_bucket ≡ Some bucket
  pub first : bucket.extent.page ≡ page
  pub near : page + 2 ^ bucket.extent.size.log2 ≤ z.pages + 1
  pub inside : k < block_words z page bucket.extent.size.log2

-- the word is noted among those that were read
abbrev pub TellsOpenWord : ℕ → ViewOfSeat → ℕ → ViewOfSeat → Type 0
TellsOpenWord k m found m' = m' ≡ (with_reading m.0 ((k, found) ∷ []), m.1)

-- A call that is no write may be answered where the bucket is found with the word that was noted, if it
-- is the answer at the bucket's map on the condition that the words that were read are the block's.
pub record MayValidate (z : Sizes) (v : View) (b word : ℕ) (c : Call) : Type 0 where
  pub open_bucket : OpenBucket
  pub noted : v.notes.open_bucket ≡ Some open_bucket
  pub home : open_bucket.bucket ≡ b
  pub fits : FitsWord (word_of open_bucket.extent false open_bucket.version)
  pub stood : word ≡ open_word open_bucket
  pub version : open_bucket.version ≡ length (known_at v.known b)
  pub bucket : c.bucket ≡ b
  pub stamp : c.stamp ≡ length (known_at v.known b)
  pub key : IsKeyOf z b c.key
  pub reads : is_changed c.reply ≡ false
  pub answers : AreReadIn open_bucket.reads open_bucket.block
      → IsAnswer z (map_now v b) (length (known_at v.known b)) c
  pub pages : (log2 left : ℕ) → c.reply ≡ NoPages log2 left → ⊥
  pub store : c.store ≡ store_of c.reply v.notes.left

-- the call was answered without a lock
abbrev pub view_after_validate : View → Call → View
view_after_validate v c = without_notes (with_call v c)

-- a lone caller finds the word that it noted
pub record TellsValid (z : Sizes) (word : ℕ) (c : Call) (m : ViewOfSeat) (found : ℕ) (m' : ViewOfSeat) : Type 0 where
  pub slots : m'.1 ≡ m.1
  pub valid : found ≡ word → Enters z m.0 c (view_after_validate m.0 c) m'.0
  pub not : (found ≡ word → ⊥) → m'.0 ≡ without_notes m.0
  pub lone : m.0.lone ≡ true → found ≡ word
  pub lawful : IsLawfulCaller z m'.0
