-- Why a refusal for want of pages was right.
use Rattle.std.specs.Prelude.{◌≡◌, ℕ, ◌+◌, ◌<◌, ◌≤◌, ◌^◌, Bool, [], length, Some}
use Rattle.bihash_words.specs.Sizes.{Sizes}
use Rattle.bihash_words.specs.declared.patch.Reply.{Reply}
use Rattle.bihash_words.specs.declared.patch.Reply.TheVariants.{NoPages}
use Rattle.bihash_words.specs.declared.shape.Shape.{Ghosts}
use Rattle.bihash_plan.specs.Wants.{IsPlanned}
use Rattle.bihash_rule.specs.Callers.{known_at}
use Rattle.bihash_rule.specs.PageStores.{returned_in}
use Rattle.bihash_steps.specs.BucketSteps.{last_call, map_now}
use Rattle.bihash_rule.specs.declared.view.Call.{Call}
use Rattle.bihash_rule.specs.declared.view.PageStore.{PageStore}
use Rattle.bihash_rule.specs.declared.view.View.{View}

-- The new key wants a block of 2 ^ log2 pages where the map of bucket b is that after all known writes, as
-- the entry's stamp says. In the page store that the entry bears, as it was loaded under the allocation lock,
-- no block of this size was returned, and the `left` pages that were never used are fewer.
pub record IsOutOfPages {A K : Type 0} (g : Ghosts A K) (w : View) (b : ℕ) (key : K) (log2 left : ℕ) : Type 0 where
  pub linear : Bool
  pub planned : IsPlanned g (map_now w b) key (record { log2 = log2; linear = linear })
  pub store : PageStore
  -- the entry of the last call comes after all writes that are known, and bears this page store
  pub bears : (c : Call) → last_call w.records ≡ Some c → (c.stamp ≡ length (known_at w.known b)) × (c.store ≡ Some store)
  pub none : returned_in store log2 ≡ []
  pub unused : store.used + left ≡ g.PAGES
  pub few : left < 2 ^ log2

-- no block of more than 2 ^ log2 pages was returned
abbrev pub HasNoLarger : Sizes → PageStore → ℕ → Type 0
HasNoLarger z store log2 = (size : ℕ) → log2 < size → size ≤ z.max_log2 → returned_in store size ≡ []

-- Where this reply tells that pages are wanting, no larger block was returned either in the page store that the entry
-- bears: none could be cut.
abbrev pub LacksLarger : Sizes → View → Reply → Type 0
LacksLarger z w reply = (log2 left : ℕ) → reply ≡ NoPages log2 left → (c : Call) (store : PageStore)
    → last_call w.records ≡ Some c → c.store ≡ Some store → HasNoLarger z store log2
