-- The page store between two steps: its words, the allocation lock and what its holder knows, blocks
-- that no bucket has, and what was noted for a refusal for want of pages.
use Rattle.std.specs.Prelude.{◌≡◌, ℕ, ◌+◌, ◌*◌, ◌^◌, ◌<◌, ◌≤◌, List, [], length, slice_index, slice_index_or, is_some, false, Option, Some, None, zero, suc}
use lib.ListN.{get_elem?}
use mathlib.Core.Option.{some, none}
use mathlib.Core.Option as maybe
use Rattle.bihash_words.specs.Sizes.{Sizes}
use Rattle.bihash_words.specs.Words.{bit}
use Rattle.bihash_words.specs.declared.patch.Reply.TheVariants.{NoPages}
use Rattle.bihash_rule.specs.Words.{allocation_lock_of, used_mark_of, returned_count_at, list_words, list_at, buckets, page_at, block_words, Stands}
use Rattle.bihash_rule.specs.Partition.{PageRun, Owner, run_of, runs_of}
use Rattle.bihash_rule.specs.Buckets.{BucketState}
use Rattle.bihash_rule.specs.declared.view.Call.{Call}
use Rattle.bihash_rule.specs.declared.view.Record.{Record}
use Rattle.bihash_rule.specs.declared.view.PageStore.{PageStore}
use Rattle.bihash_rule.specs.declared.view.ListedPage.{ListedPage}
use Rattle.bihash_rule.specs.declared.view.LockedStore.{LockedStore}
use Rattle.bihash_rule.specs.declared.view.HeldBlock.{HeldBlock}
use Rattle.bihash_rule.specs.declared.view.View.{View}
use Rattle.bihash_rule.specs.declared.view.Openings.{Openings}

-- the page store, and the seat that holds the allocation lock
pub record StoreState : Type 0 where
  pub store : PageStore
  pub lock : Option ℕ

-- the returned blocks of one log2, by their first pages
abbrev pub returned_in : PageStore → ℕ → List ℕ
returned_in store log2 = slice_index_or store.returned log2 []

-- the writes of the first n buckets together
abbrev pub writes_in : (ℕ → BucketState) → ℕ → ℕ
writes_in x zero = 0
writes_in x (suc n) = writes_in x n + length (x n).history

abbrev pub all_writes : Sizes → (ℕ → BucketState) → ℕ
all_writes z x = writes_in x (buckets z)

-- how many pages can be handed out after so many writes, where some had been when the row began
abbrev pub most_used : Sizes → ℕ → ℕ → ℕ
most_used z before writes = before + 2 ^ z.max_log2 * writes

abbrev pub all_used : Sizes → Openings → (ℕ → BucketState) → ℕ
all_used z openings x = most_used z openings.used (all_writes z x)

-- The words of the page store. No more pages were handed out than `most`, but for one block that is not
-- published yet.
pub record IsStore (z : Sizes) (words : List ℕ) (most : ℕ) (q : StoreState) : Type 0 where
  pub lock : allocation_lock_of words ≡ bit (is_some q.lock)
  pub used : used_mark_of words ≡ q.store.used
  pub wide : length q.store.returned ≡ suc z.max_log2
  pub count : (log2 : ℕ) → log2 ≤ z.max_log2
      → slice_index words (returned_count_at log2) ≡ length (returned_in q.store log2)
  pub lists : (log2 : ℕ) → log2 ≤ z.max_log2 → Stands words (list_at z log2) (returned_in q.store log2)
  pub room : (log2 : ℕ) → log2 ≤ z.max_log2 → length (returned_in q.store log2) ≤ list_words z log2
  pub bound : q.store.used ≤ most + 2 ^ z.max_log2 * bit q.store.unpublished
  pub settled : q.lock ≡ None → q.store.unpublished ≡ false

-- ---- With the allocation lock

-- a page number follows the last of its list
pub record IsListed (z : Sizes) (words : List ℕ) (store : PageStore) (i : ListedPage) : Type 0 where
  pub small : i.log2 ≤ z.max_log2
  pub room : length (returned_in store i.log2) < list_words z i.log2
  pub stands : slice_index words (list_at z i.log2 + length (returned_in store i.log2)) ≡ i.page

abbrev pub IsListedIf : Sizes → List ℕ → PageStore → Option ListedPage → Type 0
IsListedIf z words store None = Unit {0}
IsListedIf z words store (Some i) = IsListed z words store i

-- seat j holds the allocation lock, and knows the page store
pub record HoldsStore (z : Sizes) (words : List ℕ) (q : StoreState) (j : ℕ)
    (l : LockedStore) : Type 0 where
  pub held : q.lock ≡ Some j
  pub store : l.store ≡ q.store
  pub listed : IsListedIf z words q.store l.listed

abbrev pub HoldsStoreIf : Sizes → List ℕ → StoreState → ℕ → Option LockedStore → Type 0
HoldsStoreIf z words q j None = Unit {0}
HoldsStoreIf z words q j (Some l) = HoldsStore z words q j l

-- the seat that has the allocation lock notes it
abbrev pub NotesStore : StoreState → ℕ → Option LockedStore → Type 0
NotesStore q j store = q.lock ≡ Some j → (l : LockedStore) × (store ≡ Some l)

-- ---- Blocks that no bucket has

-- the words of a held block stand there
pub record HoldsBlock (z : Sizes) (words : List ℕ) (h : HeldBlock) : Type 0 where
  pub some_page : 1 ≤ h.page
  pub small : h.log2 ≤ z.max_log2
  pub size : length h.words ≡ block_words z h.page h.log2
  pub stands : Stands words (page_at z h.page) h.words

abbrev pub HoldsBlockIf : Sizes → List ℕ → Option HeldBlock → Type 0
HoldsBlockIf z words None = Unit {0}
HoldsBlockIf z words (Some h) = HoldsBlock z words h

abbrev pub run_in : Option HeldBlock → Option PageRun
run_in None = None
run_in (Some h) = run_of h.page h.log2

abbrev pub run_held : maybe.Option View → Option PageRun
run_held none = None
run_held (some v) = run_in v.holds.block

-- the pages that each bucket, list and seat has
abbrev pub runs_now : (ℕ → BucketState) → PageStore → List View → Owner → Option PageRun
runs_now x store views = runs_of (λ b. run_of (x b).extent.page (x b).extent.size.log2)
    (λ log2. returned_in store log2) (λ j. run_held (get_elem? views j))

-- ---- Refusals for want of pages

-- A call that found no block of this log2 bears the page store that it saw: none was returned there, and
-- `left` pages were never used. The others are no more than `most`.
pub record BearsOutOfPages (z : Sizes) (most : ℕ) (c : Call) (log2 left : ℕ) : Type 0 where
  pub store : PageStore
  pub bears : c.store ≡ Some store
  pub none : returned_in store log2 ≡ []
  pub unused : store.used + left ≡ z.pages
  pub taken : z.pages ≤ left + most

abbrev pub HasCall : List Record → Call → Type 0
HasCall records c = (i k : ℕ) × (r : Record) × (get_elem? records i ≡ some r)
    × (get_elem? r.calls k ≡ some c)

-- each call of the records that was refused for want of pages tells what it saw, and what can be left
abbrev pub BearOutOfPages : Sizes → ℕ → List Record → Type 0
BearOutOfPages z most records = (c : Call) → HasCall records c → (log2 left : ℕ)
    → c.reply ≡ NoPages log2 left → BearsOutOfPages z most c log2 left

-- what was noted when the allocation lock was opened
abbrev pub LeftIf : Sizes → ℕ → Option PageStore → Type 0
LeftIf z most None = Unit {0}
LeftIf z most (Some store) = (store.used ≤ z.pages) × (store.used ≤ most)
