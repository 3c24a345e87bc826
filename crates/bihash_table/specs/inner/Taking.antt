-- What taking a block from the page store leaves: a returned one, pages that were never used, or the first pages of a
-- larger returned one that is cut.
use Rattle.std.specs.Prelude.{◌≡◌, ℕ, ◌+◌, ◌-◌, ◌^◌, ◌<◌, ◌≤◌, Bool, true, [], ◌∷◌, ◌++◌, length, slice_index, Option, None, IfSome, IfNone, Result, IfOk, IfErr}
use Rattle.bihash_words.specs.Sizes.{IsSound, Sizes}
use Rattle.bihash_rule.specs.PageStores.{returned_in}
use Rattle.bihash_steps.specs.StoreSteps.{TakesBlock, grown, unlisted}
use Rattle.bihash_steps.specs.Seats.{CallerState, with_view}
use Rattle.bihash_rule.specs.declared.view.LockedStore.{LockedStore}
use Rattle.bihash_rule.specs.declared.view.PageStore.{PageStore}
use Rattle.bihash_rule.specs.declared.view.View.{View}
use Rattle.bihash_table.specs.OutOfPages.{HasNoLarger}
use Rattle.bihash_table.specs.inner.Copying.{HasStore}

-- ---- A block is cut

-- A block of 2 ^ from pages that begins at this page was cut down to 2 ^ log2: of each size between, the second half of
-- what was left is the last returned block. No other list changed.
pub record IsCutDown (before after : PageStore) (page from log2 : ℕ) : Type 0 where
  pub used : after.used ≡ before.used
  pub unpublished : after.unpublished ≡ before.unpublished
  pub wide : length after.returned ≡ length before.returned
  pub halves : (size : ℕ) → log2 ≤ size → size < from
      → returned_in after size ≡ returned_in before size ++ (page + 2 ^ size) ∷ []
  pub below : (size : ℕ) → size < log2 → returned_in after size ≡ returned_in before size
  pub above : (size : ℕ) → from ≤ size → returned_in after size ≡ returned_in before size

-- under the allocation lock the view has this page store, and a block of 2 ^ log2 pages that no bucket has
pub record HoldsPages (z : Sizes) (v : View) (store : PageStore) (page log2 : ℕ) : Type 0 where
  pub block : TakesBlock z v store page log2 v
  pub wide : length store.returned ≡ z.max_log2 + 1
  pub small : log2 ≤ z.max_log2

-- The caller of this row holds a block of 2 ^ log2 pages that begins at this page.
pub record HoldsLarger (z : Sizes) (row : _) (s : CallerState) (page log2 : ℕ) : Type 0 where
  pub own : s.row ≡ row
  pub sound : IsSound z
  pub store : PageStore
  pub holds : HoldsPages z s.view store page log2

-- the block that the caller held was cut down
pub record TellsCutDown (z : Sizes) (s t : CallerState) (page from log2 : ℕ) : Type 0 where
  pub same : t ≡ with_view s t.view
  pub cut : (store : PageStore) → HoldsPages z s.view store page from
      → (left : PageStore) × IsCutDown store left page from log2 × TakesBlock z s.view left page log2 t.view

-- ---- A block is taken

-- The last returned block of the smallest larger size that has one was taken and cut: the caller has its first 2 ^ log2
-- pages.
pub record TakesCut (z : Sizes) (v : View) (store : PageStore) (page log2 : ℕ) (w : View) : Type 0 where
  pub from : ℕ
  pub larger : log2 < from
  pub small : from ≤ z.max_log2
  pub smallest : (size : ℕ) → log2 < size → size < from → returned_in store size ≡ []
  pub some : 1 ≤ length (returned_in store from)
  pub last : page ≡ slice_index (returned_in store from) (length (returned_in store from) - 1)
  pub left : PageStore
  pub cut : IsCutDown (unlisted store from) left page from log2
  pub block : TakesBlock z v left page log2 w

-- a larger block was taken and cut, or none was returned and nothing changed
pub record TellsLargerTake (z : Sizes) (s t : CallerState) (log2 : ℕ) (r : Option ℕ) : Type 0 where
  pub same : t ≡ with_view s t.view
  pub taken : IfSome r (λ page. (n : LockedStore) → HasStore z s.view n → TakesCut z s.view n.store page log2 t.view)
  pub none : IfNone r ((t ≡ s) × ((n : LockedStore) → HasStore z s.view n → HasNoLarger z n.store log2))

-- The last of the returned blocks of this log2 was taken. Where there is none, the next pages that were never used were, and
-- where these are too few, a larger block was cut.
pub record TakesPages (z : Sizes) (cuts : Bool) (v : View) (store : PageStore) (page log2 : ℕ) (w : View) : Type 0 where
  pub returned : 1 ≤ length (returned_in store log2)
      → (page ≡ slice_index (returned_in store log2) (length (returned_in store log2) - 1))
      × TakesBlock z v (unlisted store log2) page log2 w
  pub unused : returned_in store log2 ≡ [] → store.used + 2 ^ log2 ≤ z.pages
      → (page ≡ store.used + 1) × TakesBlock z v (grown store log2) page log2 w
  pub cut : returned_in store log2 ≡ [] → z.pages < store.used + 2 ^ log2 → (cuts ≡ true) × TakesCut z v store page log2 w

-- no block of this log2 was returned, and fewer pages than it has were never used
pub record LacksPages (z : Sizes) (store : PageStore) (log2 left : ℕ) : Type 0 where
  pub none : returned_in store log2 ≡ []
  pub unused : store.used + left ≡ z.pages
  pub few : left < 2 ^ log2

-- The caller of this row has the allocation lock, and may take a block of this log2.
pub record MayTake (z : Sizes) (row : _) (s : CallerState) (log2 : ℕ) : Type 0 where
  pub own : s.row ≡ row
  pub sound : IsSound z
  pub store : (n : LockedStore) × HasStore z s.view n
  pub small : log2 ≤ z.max_log2

-- a block was taken, or pages are wanting and nothing changed; where larger blocks are cut, none was returned then
pub record TellsTake (z : Sizes) (cuts : Bool) (s t : CallerState) (log2 : ℕ) (r : Result ℕ ℕ) : Type 0 where
  pub same : t ≡ with_view s t.view
  pub taken : IfOk r (λ page. (n : LockedStore) → HasStore z s.view n → TakesPages z cuts s.view n.store page log2 t.view)
  pub refused : IfErr r (λ left. (t ≡ s) × ((n : LockedStore) → HasStore z s.view n → LacksPages z n.store log2 left))
  pub no_larger : cuts ≡ true
      → IfErr r (λ left. (n : LockedStore) → HasStore z s.view n → HasNoLarger z n.store log2)

-- ---- A block is taken, or none

-- The caller of this row holds neither the allocation lock nor a block.
pub record MayTryBlock (z : Sizes) (row : _) (s : CallerState) (log2 : ℕ) : Type 0 where
  pub own : s.row ≡ row
  pub open_store : s.view.holds.store ≡ None
  pub bare : s.view.holds.block ≡ None
  pub small : log2 ≤ z.max_log2

-- it holds both, or has noted at most
pub record TellsBlockTry (z : Sizes) (s t : CallerState) (log2 : ℕ) (r : Option ℕ) : Type 0 where
  pub same : t ≡ with_view s t.view
  pub taken : IfSome r (λ page. (left : PageStore) × TakesBlock z s.view left page log2 t.view)
  pub none : IfNone r (t.view ≡ record s.view { notes = t.view.notes })
