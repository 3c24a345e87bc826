-- What the steps on the page store leave of their caller: s is the caller before the step, t after it.
use Rattle.std.specs.Prelude.{◌≡◌, ℕ, true, false, Bool, Some, None}
use Rattle.bihash_words.specs.Sizes.{Sizes}
use Rattle.bihash_steps.specs.BucketSteps.{without_notes}
use Rattle.bihash_steps.specs.StoreSteps.{HasRoomFor, LocksStore, word_in}
use Rattle.bihash_steps.specs.Seats.{CallerState, IsSameSeat}
use Rattle.bihash_steps.specs.declared.steps_on_page_store.word.PoolWord.{PoolWord}
use Rattle.bihash_rule.specs.declared.view.LockedStore.{LockedStore}

-- The allocation lock was taken, or somebody has it. A lone caller that doesn't hold it takes it.
pub record TriesStoreLock (z : Sizes) (s t : CallerState) (locked : Bool) : Type 0 where
  pub same : IsSameSeat s t
  pub taken : locked ≡ true → LocksStore z s.view t.view
  pub not : locked ≡ false → t.view ≡ without_notes s.view
  pub lone : s.view.lone ≡ true → s.view.holds.store ≡ None → locked ≡ true

-- a word of the page store was loaded
pub record ReadsStore (z : Sizes) (s t : CallerState) (word : PoolWord) (found : ℕ) : Type 0 where
  pub same : t ≡ s
  pub value : (n : LockedStore) → s.view.holds.store ≡ Some n → found ≡ word_in n.store word
  pub room : HasRoomFor z s.view.holds.block word found
