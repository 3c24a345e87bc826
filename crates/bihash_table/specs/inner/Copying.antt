-- What copies of a block to places and back rest on, and what giving back a block leaves.
use Rattle.std.specs.Prelude.{◌≡◌, ◌≢◌, ℕ, ◌+◌, ◌*◌, ◌^◌, ◌<◌, ◌≤◌, List, length, slice_index, false, Some, None}
use Rattle.bihash_words.specs.Sizes.{IsSound, Sizes, sizes_of}
use Rattle.bihash_words.specs.declared.shape.Shape.{Ghosts}
use Rattle.bihash_rule.specs.Words.{block_words, list_words, place_words}
use Rattle.bihash_rule.specs.Blocks.{free, key_in, places, value_in}
use Rattle.bihash_rule.specs.PageStores.{returned_in}
use Rattle.bihash_rule.specs.Views.{no_notes, nothing_held}
use Rattle.bihash_steps.specs.StoreSteps.{holding, old_block}
use Rattle.bihash_steps.specs.Seats.{CallerState, with_view}
use Rattle.bihash_rule.specs.declared.view.Extent.{Extent}
use Rattle.bihash_rule.specs.declared.view.LockedStore.{LockedStore}
use Rattle.bihash_rule.specs.declared.view.HeldBlock.{HeldBlock}
use Rattle.bihash_rule.specs.declared.view.View.{View}
use Rattle.bihash_table.specs.inner.Scans.{IsWordOf}

-- the caller holds this block, which begins at this page, and has no note
pub record HasBlock (z : Sizes) (v : View) (page : ℕ) (h : HeldBlock) : Type 0 where
  pub held : v.holds.block ≡ Some h
  pub first : h.page ≡ page
  pub some_page : 1 ≤ page
  pub near : page + 2 ^ h.log2 ≤ z.pages + 1
  pub size : length h.words ≡ block_words z page h.log2
  pub plain : v.notes ≡ no_notes

-- the view with other words in the held block
abbrev pub with_words : View → HeldBlock → List ℕ → View
with_words v h words = holding v v.holds.store (Some (record h { words = words }))

-- a place was stored, and none before it
pub record IsPlaced {A K : Type 0} (g : Ghosts A K) (s t : CallerState) (h : HeldBlock) (place : ℕ) (key : K)
    (value : ℕ) : Type 0 where
  pub words : List ℕ
  pub is : t ≡ with_view s (with_words s.view h words)
  pub long : length words ≡ length h.words
  pub key_is : value ≢ free → key_in (sizes_of g) words place ≡ g.words_of key
  pub value_is : value_in (sizes_of g) words place ≡ value
  pub before : (k : ℕ) → k < place * place_words (sizes_of g) → slice_index words k ≡ slice_index h.words k

-- The caller of this row holds a block that begins at this page and has so many places at least.
pub record HoldsOwnBlock (z : Sizes) (row : _) (s : CallerState) (page count : ℕ) : Type 0 where
  pub own : s.row ≡ row
  pub sound : IsSound z
  pub block : HeldBlock
  pub has : HasBlock z s.view page block
  pub inside : count ≤ places page block.log2

-- the caller has the allocation lock, and no block
pub record HasStore (z : Sizes) (v : View) (n : LockedStore) : Type 0 where
  pub held : v.holds.store ≡ Some n
  pub block : v.holds.block ≡ None
  pub few : n.store.used ≤ z.pages
  pub wide : length n.store.returned ≡ z.max_log2 + 1
  pub room : (log2 : ℕ) → log2 ≤ z.max_log2 → length (returned_in n.store log2) ≤ list_words z log2
  pub settled : n.store.unpublished ≡ false

-- under the allocation lock the caller holds this block, which no bucket waits for
pub record MayGiveBack (v : View) (log2 page : ℕ) (n : LockedStore) (h : HeldBlock) : Type 0 where
  pub store : v.holds.store ≡ Some n
  pub block : v.holds.block ≡ Some h
  pub same_log2 : h.log2 ≡ log2
  pub same_page : h.page ≡ page
  pub settled : n.store.unpublished ≡ false

-- under the allocation lock the caller holds the block that a bucket had, or none where it had none
pub record HoldsOld (v : View) (n : LockedStore) (e : Extent) (words : List ℕ) : Type 0 where
  pub store : v.holds.store ≡ Some n
  pub block : v.holds.block ≡ old_block e.page e.size.log2 words
  pub settled : n.store.unpublished ≡ false

-- The caller of this row has the allocation lock, and may give back this block.
pub record MayGiveBackBlock (z : Sizes) (row : _) (s : CallerState) (log2 page : ℕ) : Type 0 where
  pub own : s.row ≡ row
  pub sound : IsSound z
  pub small : log2 ≤ z.max_log2
  pub store : LockedStore
  pub block : HeldBlock
  pub may : MayGiveBack s.view log2 page store block

-- The caller of this row has the allocation lock, and the block that the bucket of this word had.
pub record MayLeave (z : Sizes) (row : _) (s : CallerState) (word : ℕ) : Type 0 where
  pub own : s.row ≡ row
  pub sound : IsSound z
  pub store : LockedStore
  pub extent : Extent
  pub words : List ℕ
  pub names : IsWordOf z word extent
  pub holds : HoldsOld s.view store extent words

-- the same view, which notes what it does, with the allocation lock and without a block
abbrev pub with_store : View → LockedStore → View → View
with_store v n w = record v {
  holds = record { bucket = v.holds.bucket; store = Some n; block = None };
  notes = w.notes;
}

-- after the return of the old block the caller holds the allocation lock, and no block
pub record GivenBack (s t : CallerState) : Type 0 where
  pub locked : LockedStore
  pub is : t ≡ with_view s (with_store s.view locked t.view)
  pub settled : locked.store.unpublished ≡ false

-- the caller holds neither the allocation lock nor a block any more
pub record Released (v w : View) : Type 0 where
  pub is : w ≡ record v { holds = record nothing_held { bucket = v.holds.bucket }; notes = w.notes }
