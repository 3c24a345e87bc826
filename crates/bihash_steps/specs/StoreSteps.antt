-- What a view becomes at each kind of step on the page store, on a held block, and at the store that
-- gives a bucket another block; and what the step tells its caller.
use Rattle.std.specs.Prelude.{◌≡◌, ◌≢◌, ℕ, ◌+◌, ◌-◌, ◌*◌, ◌^◌, ◌<◌, ◌≤◌, List, [], ◌∷◌, ◌++◌, length, take, slice_index, slice_set, true, false, Option, Some, None, zero, suc}
use Rattle.bihash_words.specs.Sizes.{Sizes}
use Rattle.bihash_rule.specs.Words.{returned_count_at, list_words, list_at, page_words, block_words}
use Rattle.bihash_rule.specs.Blocks.{no_block, IsBlockOf}
use Rattle.bihash_rule.specs.PageStores.{returned_in}
use Rattle.bihash_rule.specs.Views.{no_notes}
use Rattle.bihash_steps.specs.Steps.{ViewOfSeat}
use Rattle.bihash_steps.specs.BucketSteps.{without_notes, MayWrite, next_map, view_after_write}
use Rattle.bihash_rule.specs.declared.view.Call.{Call}
use Rattle.bihash_rule.specs.declared.view.Extent.{Extent}
use Rattle.bihash_rule.specs.declared.view.LockedBucket.{LockedBucket}
use Rattle.bihash_rule.specs.declared.view.PageStore.{PageStore}
use Rattle.bihash_rule.specs.declared.view.LockedStore.{LockedStore}
use Rattle.bihash_rule.specs.declared.view.HeldBlock.{HeldBlock}
use Rattle.bihash_rule.specs.declared.view.View.{View}
use Rattle.bihash_steps.specs.declared.steps_on_page_store.word.PoolWord.{PoolWord}
use Rattle.bihash_steps.specs.declared.steps_on_page_store.word.PoolWord.TheVariants.{Used, Count, Listed}

-- the caller holds this of the page store, and this block; its notes are dropped
abbrev pub holding : View → Option LockedStore → Option HeldBlock → View
holding v store block = record v {
  holds = record { bucket = v.holds.bucket; store = store; block = block };
  notes = no_notes;
}

-- ---- The allocation lock

-- the allocation lock was taken: all of the page store is known
pub record LocksStore (z : Sizes) (v w : View) : Type 0 where
  pub store : PageStore
  pub wide : length store.returned ≡ z.max_log2 + 1
  pub few : store.used ≤ z.pages
  pub settled : store.unpublished ≡ false
  pub room : (log2 : ℕ) → log2 ≤ z.max_log2 → length (returned_in store log2) ≤ list_words z log2
  pub is : w ≡ holding v (Some (record { store = store; listed = None })) v.holds.block

-- The allocation lock may be opened: the page store is settled, and the caller has given its block to a bucket or back.
pub record MayOpenStore (v : View) : Type 0 where
  pub locked : LockedStore
  pub held : v.holds.store ≡ Some locked
  pub settled : locked.store.unpublished ≡ false
  pub returned : v.holds.block ≡ None

-- a lone caller that doesn't have it takes it
pub record TellsStoreLock (z : Sizes) (m : ViewOfSeat) (found : ℕ) (m' : ViewOfSeat) : Type 0 where
  pub slots : m'.1 ≡ m.1
  pub taken : found ≡ 0 → LocksStore z m.0 m'.0
  pub not : found ≢ 0 → m'.0 ≡ without_notes m.0
  pub lone : m.0.lone ≡ true → m.0.holds.store ≡ None → found ≡ 0

-- the lock was opened: what stood in the page store is noted, for a refusal for want of pages
abbrev pub store_opened : View → LockedStore → View
store_opened v n = record v {
  holds = record v.holds { store = None };
  notes = record no_notes { left = Some n.store };
}

abbrev pub TellsStoreOpened : ViewOfSeat → ViewOfSeat → Type 0
TellsStoreOpened m m' = (n : LockedStore) → m.0.holds.store ≡ Some n → m' ≡ (store_opened m.0 n, m.1)

-- ---- Loads of the page store's words

-- the words that the holder of the allocation lock may load
abbrev pub IsInStore : Sizes → PageStore → PoolWord → Type 0
IsInStore z store Used = Unit {0}
IsInStore z store (Count log2) = log2 ≤ z.max_log2
IsInStore z store (Listed log2 i) = (log2 ≤ z.max_log2) × (i < length (returned_in store log2)) × (i < list_words z log2)

-- where such a word stands
abbrev pub pool_word_at : Sizes → PoolWord → ℕ
pool_word_at z Used = 2
pool_word_at z (Count log2) = returned_count_at log2
pool_word_at z (Listed log2 i) = list_at z log2 + i

abbrev pub word_in : PageStore → PoolWord → ℕ
word_in store Used = store.used
word_in store (Count log2) = length (returned_in store log2)
word_in store (Listed log2 i) = slice_index (returned_in store log2) i

-- a list has room for a block that is held and not in it, and for a half of one
abbrev pub HasRoomFor : Sizes → Option HeldBlock → PoolWord → ℕ → Type 0
HasRoomFor z None word n = Unit {0}
HasRoomFor z (Some h) Used n = Unit {0}
HasRoomFor z (Some h) (Count log2) n = log2 ≤ h.log2 → h.log2 ≤ log2 + 1 → n < list_words z log2
HasRoomFor z (Some h) (Listed log2 i) n = Unit {0}

-- the word at this address was loaded
pub record TellsPoolWord (z : Sizes) (at : ℕ) (m : ViewOfSeat) (found : ℕ) (m' : ViewOfSeat) : Type 0 where
  pub same : m' ≡ m
  pub value : (n : LockedStore) (word : PoolWord) → m.0.holds.store ≡ Some n → IsInStore z n.store word
      → at ≡ pool_word_at z word → (found ≡ word_in n.store word) × HasRoomFor z m.0.holds.block word found

-- ---- Blocks are taken

-- the same page store without the last of these returned blocks
abbrev pub unlisted : PageStore → ℕ → PageStore
unlisted store log2 = record store {
  returned = slice_set store.returned log2
      (take (length (returned_in store log2) - 1) (returned_in store log2));
  unpublished = true;
}

-- the same with 2 ^ log2 more pages handed out
abbrev pub grown : PageStore → ℕ → PageStore
grown store log2 = record store { used = store.used + 2 ^ log2; unpublished = true }

-- a block was taken, and the words that stand there are known
pub record TakesBlock (z : Sizes) (v : View) (store : PageStore) (page log2 : ℕ) (w : View) : Type 0 where
  pub words : List ℕ
  pub size : length words ≡ 2 ^ log2 * page_words z
  pub some_page : 1 ≤ page
  pub near : page + 2 ^ log2 ≤ z.pages + 1
  pub is : w ≡ holding v (Some (record { store = store; listed = None }))
      (Some (record { page = page; log2 = log2; words = words }))

-- the last of `count + 1` returned blocks of this log2 may be taken
pub record MayTakeReturned (z : Sizes) (v : View) (log2 count : ℕ) : Type 0 where
  pub locked : LockedStore
  pub store : v.holds.store ≡ Some locked
  pub block : v.holds.block ≡ None
  pub settled : locked.store.unpublished ≡ false
  pub small : log2 ≤ z.max_log2
  pub listed : length (returned_in locked.store log2) ≡ count + 1

-- this number was stored where the count of a list stands
pub record TellsTakenReturned (z : Sizes) (at number : ℕ) (m m' : ViewOfSeat) : Type 0 where
  pub slots : m'.1 ≡ m.1
  pub taken : (log2 : ℕ) (n : LockedStore) → MayTakeReturned z m.0 log2 number → at ≡ returned_count_at log2
      → m.0.holds.store ≡ Some n → TakesBlock z m.0 (unlisted n.store log2)
      (slice_index (returned_in n.store log2) number) log2 m'.0

-- The next pages that were never used may be taken: no block of this log2 was returned.
pub record MayTakeUnused (z : Sizes) (v : View) (log2 used : ℕ) : Type 0 where
  pub locked : LockedStore
  pub store : v.holds.store ≡ Some locked
  pub block : v.holds.block ≡ None
  pub settled : locked.store.unpublished ≡ false
  pub small : log2 ≤ z.max_log2
  pub none : returned_in locked.store log2 ≡ []
  pub mark : locked.store.used ≡ used
  pub left : used + 2 ^ log2 ≤ z.pages

-- this number was stored in the used mark
pub record TellsTakenUnused (z : Sizes) (number : ℕ) (m m' : ViewOfSeat) : Type 0 where
  pub slots : m'.1 ≡ m.1
  pub taken : (log2 used : ℕ) (n : LockedStore) → MayTakeUnused z m.0 log2 used → number ≡ used + 2 ^ log2
      → m.0.holds.store ≡ Some n → TakesBlock z m.0 (grown n.store log2) (used + 1) log2 m'.0

-- ---- Words of a held block

-- word k of the block that the caller holds, which begins at this page
pub record IsHeldWord (z : Sizes) (v : View) (page k : ℕ) : Type 0 where
  pub block : HeldBlock
  pub held : v.holds.block ≡ Some block
  pub first : block.page ≡ page
  pub near : page + 2 ^ block.log2 ≤ z.pages + 1
  pub inside : k < block_words z page block.log2

abbrev pub stored_at : HeldBlock → ℕ → ℕ → HeldBlock
stored_at h k word = record h { words = slice_set h.words k word }

-- ---- A held block is given back

-- a page may be written after the last of this list
pub record MayList (z : Sizes) (v : View) (log2 count : ℕ) : Type 0 where
  pub locked : LockedStore
  pub store : v.holds.store ≡ Some locked
  pub small : log2 ≤ z.max_log2
  pub listed : length (returned_in locked.store log2) ≡ count
  pub room : count < list_words z log2

abbrev pub listing : LockedStore → ℕ → ℕ → LockedStore
listing n log2 page = record n { listed = Some (record { log2 = log2; page = page }) }

-- the page was stored at this address
abbrev pub TellsListed : Sizes → ℕ → ℕ → ViewOfSeat → ViewOfSeat → Type 0
TellsListed z at page m m' = (log2 count : ℕ) (n : LockedStore) → MayList z m.0 log2 count
    → at ≡ list_at z log2 + count → m.0.holds.store ≡ Some n
    → m' ≡ (holding m.0 (Some (listing n log2 page)) m.0.holds.block, m.1)

-- its list may count it
pub record MayReturn (z : Sizes) (v : View) (log2 count : ℕ) : Type 0 where
  pub locked : LockedStore
  pub store : v.holds.store ≡ Some locked
  pub block : HeldBlock
  pub held : v.holds.block ≡ Some block
  pub same_log2 : block.log2 ≡ log2
  pub small : log2 ≤ z.max_log2
  pub page : locked.listed ≡ Some (record { log2 = log2; page = block.page })
  pub settled : locked.store.unpublished ≡ false
  pub listed : length (returned_in locked.store log2) ≡ count
  pub room : count < list_words z log2

-- the page store with one more returned block
abbrev pub relisted : PageStore → ℕ → ℕ → PageStore
relisted store log2 page = record store {
  returned = slice_set store.returned log2 (returned_in store log2 ++ page ∷ []);
}

-- this number was stored where the count of a list stands
abbrev pub TellsReturned : Sizes → ℕ → ℕ → ViewOfSeat → ViewOfSeat → Type 0
TellsReturned z at number m m' = (log2 count : ℕ) (n : LockedStore) (h : HeldBlock)
    → MayReturn z m.0 log2 count → at ≡ returned_count_at log2 → number ≡ count + 1
    → m.0.holds.store ≡ Some n → m.0.holds.block ≡ Some h
    → m' ≡ (holding m.0 (Some (record { store = relisted n.store log2 h.page; listed = None })) None, m.1)

-- ---- A held block is cut in two

-- the first half of a block, of this log2, with the words that stand in it
abbrev pub first_half : Sizes → HeldBlock → ℕ → HeldBlock
first_half z h log2 = record { page = h.page; log2 = log2; words = take (2 ^ log2 * page_words z) h.words }

-- the list of half the size may count the second half of the held block
pub record MayCut (z : Sizes) (v : View) (log2 count : ℕ) : Type 0 where
  pub locked : LockedStore
  pub store : v.holds.store ≡ Some locked
  pub block : HeldBlock
  pub held : v.holds.block ≡ Some block
  pub twice : block.log2 ≡ log2 + 1
  pub small : log2 ≤ z.max_log2
  pub page : locked.listed ≡ Some (record { log2 = log2; page = block.page + 2 ^ log2 })
  pub listed : length (returned_in locked.store log2) ≡ count
  pub room : count < list_words z log2

-- the second half of the block was returned, and the first is held
abbrev pub halved : Sizes → View → LockedStore → HeldBlock → ℕ → View
halved z v n h log2 = holding v (Some (record { store = relisted n.store log2 (h.page + 2 ^ log2); listed = None }))
    (Some (first_half z h log2))

-- this number was stored where the count of a list stands
abbrev pub TellsCut : Sizes → ℕ → ℕ → ViewOfSeat → ViewOfSeat → Type 0
TellsCut z at number m m' = (log2 count : ℕ) (n : LockedStore) (h : HeldBlock) → MayCut z m.0 log2 count
    → at ≡ returned_count_at log2 → number ≡ count + 1 → m.0.holds.store ≡ Some n → m.0.holds.block ≡ Some h
    → m' ≡ (halved z m.0 n h log2, m.1)

-- ---- The store that gives a bucket another block

abbrev pub words_in : Option HeldBlock → List ℕ
words_in None = []
words_in (Some h) = h.words

-- the extent is that of the held block, or of none where none is held
abbrev pub IsOf : Extent → Option HeldBlock → Type 0
IsOf extent None = extent ≡ no_block
IsOf extent (Some h) = (extent.page ≡ h.page) × (extent.size.log2 ≡ h.log2)

-- the holder of both locks may make the write of the call with the block that it holds, or with none
pub record MayReplace (z : Sizes) (v : View) (b word : ℕ) (extent : Extent) (c : Call) : Type 0 where
  pub write : MayWrite z v b word c
  pub locked : LockedStore
  pub store : v.holds.store ≡ Some locked
  pub near : extent.page + 2 ^ extent.size.log2 ≤ z.pages + 1
  pub block : IsOf extent v.holds.block
  pub pairs : IsBlockOf z extent (words_in v.holds.block) (next_map v b c)

abbrev pub old_block : ℕ → ℕ → List ℕ → Option HeldBlock
old_block zero log2 words = None
old_block (suc page) log2 words = Some (record { page = suc page; log2 = log2; words = words })

-- the block that the bucket had
abbrev pub freed : Option LockedBucket → Option HeldBlock
freed None = None
freed (Some l) = old_block l.extent.page l.extent.size.log2 l.now

-- no block that was taken waits for its bucket
abbrev pub settled_in : Option LockedStore → Option LockedStore
settled_in None = None
settled_in (Some n) = Some (record n { store = record n.store { unpublished = false } })

-- the view after a write that gives the bucket another block
abbrev pub view_after_replace : View → Call → View
view_after_replace v c = record (view_after_write v c) {
  holds = record { bucket = None; store = settled_in v.holds.store; block = freed v.holds.bucket };
}
