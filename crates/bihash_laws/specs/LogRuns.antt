-- Runs of a row: one state after another, each by a step of one of the kinds of bihash_steps.
use Rattle.std.specs.Prelude.{◌≡◌, ◌≢◌, ℕ, ◌+◌, ◌^◌, List, [], ◌∷◌, ◌++◌, slice_set, Some}
use lib.ListN.{get_elem?}
use mathlib.Core.Option.{some}
use Rattle.bihash_words.specs.Sizes.{Sizes}
use Rattle.bihash_rule.specs.Words.{list_at, returned_count_at}
use Rattle.bihash_rule.specs.WordRule.{WordRule}
use Rattle.bihash_steps.specs.Steps.{TellsAgreement, TellsCount, TellsNumber, ViewOfSeat, first_numbers, joining, other_numbers, view_after_spending}
use Rattle.bihash_steps.specs.BucketSteps.{TellsBucket, TellsEntry, TellsEvent, TellsLock, TellsLockedWord, TellsOpenWord, TellsStored, TellsValid, view_after_answer, view_after_write, without_lock}
use Rattle.bihash_steps.specs.StoreSteps.{MayCut, MayList, MayReturn, MayTakeReturned, MayTakeUnused, TellsCut, TellsListed, TellsPoolWord, TellsReturned, TellsStoreLock, TellsStoreOpened, TellsTakenReturned, TellsTakenUnused, holding, stored_at, view_after_replace}
use Rattle.bihash_steps.specs.Renewals.{TellsRowWord}
use Rattle.bihash_laws.specs.LogLaws.{RowState}
use Rattle.bihash_rule.specs.declared.view.Call.{Call}
use Rattle.bihash_rule.specs.declared.view.HeldBlock.{HeldBlock}
use Rattle.bihash_rule.specs.declared.view.LockedBucket.{LockedBucket}
use Rattle.bihash_rule.specs.declared.view.LockedStore.{LockedStore}
use Rattle.bihash_rule.specs.declared.view.View.{View}

-- What a step of a seat tells, kind by kind: m is the seat before it, m' after it.
pub data IsSeatStep (z : Sizes) (m m' : ViewOfSeat) : Type 0 where
  finds_bucket : (b found : ℕ) → TellsBucket z b m found m' → IsSeatStep z m m'
  tries_lock : (b word found : ℕ) → TellsLock z b word m found m' → IsSeatStep z m m'
  loads_locked : (k found : ℕ) → TellsLockedWord k m found m' → IsSeatStep z m m'
  stores_locked : (k word : ℕ) (l : LockedBucket) → m.0.holds.bucket ≡ Some l → TellsStored k word m m' → IsSeatStep z m m'
  loads_open : (k found : ℕ) → TellsOpenWord k m found m' → IsSeatStep z m m'
  validates : (word found : ℕ) (c : Call) → TellsValid z word c m found m' → IsSeatStep z m m'
  releases : TellsEvent z without_lock m m' → IsSeatStep z m m'
  cancels : (c : Call) → TellsEntry z (λ v. view_after_answer v c) c m m' → IsSeatStep z m m'
  publishes : (c : Call) → TellsEntry z (λ v. view_after_write v c) c m m' → IsSeatStep z m m'
  replaces : (c : Call) → TellsEntry z (λ v. view_after_replace v c) c m m' → IsSeatStep z m m'
  tries_store : (found : ℕ) → TellsStoreLock z m found m' → IsSeatStep z m m'
  opens_store : (n : LockedStore) → m.0.holds.store ≡ Some n → TellsStoreOpened m m' → IsSeatStep z m m'
  loads_store : (at found : ℕ) → TellsPoolWord z at m found m' → IsSeatStep z m m'
  takes_returned : (at count log2 : ℕ) (n : LockedStore) → MayTakeReturned z m.0 log2 count → at ≡ returned_count_at log2
      → m.0.holds.store ≡ Some n → TellsTakenReturned z at count m m' → IsSeatStep z m m'
  takes_unused : (mark log2 used : ℕ) (n : LockedStore) → MayTakeUnused z m.0 log2 used → mark ≡ used + 2 ^ log2
      → m.0.holds.store ≡ Some n → TellsTakenUnused z mark m m' → IsSeatStep z m m'
  stores_held : (k word : ℕ) (h : HeldBlock) → m' ≡ (holding m.0 m.0.holds.store (Some (stored_at h k word)), m.1)
      → IsSeatStep z m m'
  lists_block : (at page log2 count : ℕ) (n : LockedStore) → MayList z m.0 log2 count → at ≡ list_at z log2 + count
      → m.0.holds.store ≡ Some n → TellsListed z at page m m' → IsSeatStep z m m'
  returns_block : (at number log2 count : ℕ) (n : LockedStore) (h : HeldBlock) → MayReturn z m.0 log2 count
      → at ≡ returned_count_at log2 → number ≡ count + 1 → m.0.holds.store ≡ Some n → m.0.holds.block ≡ Some h
      → TellsReturned z at number m m' → IsSeatStep z m m'
  cuts_block : (at number log2 count : ℕ) (n : LockedStore) (h : HeldBlock) → MayCut z m.0 log2 count
      → at ≡ returned_count_at log2 → number ≡ count + 1 → m.0.holds.store ≡ Some n → m.0.holds.block ≡ Some h
      → TellsCut z at number m m' → IsSeatStep z m m'
  counts_callers : (found : ℕ) → TellsCount z m found m' → IsSeatStep z m m'
  tries_number : (count found : ℕ) → TellsNumber z count m found m' → IsSeatStep z m m'
  learns_agreement : TellsAgreement z m m' → IsSeatStep z m m'
  loads_row : (found : ℕ) → TellsRowWord z m found m' → IsSeatStep z m m'

-- a step of a row's views: a seat's own step, a cut of its numbers, or a join of two seats
pub data IsStep (z : Sizes) (views views' : List View) : Type 0 where
  acts : (id : ℕ) (m m' : ViewOfSeat) → get_elem? views id ≡ some m.0 → views' ≡ slice_set views id m'.0 → IsSeatStep z m m'
      → IsStep z views views'
  cuts : (id n : ℕ) (v : View) → get_elem? views id ≡ some v
      → views' ≡ slice_set views id (first_numbers n v) ++ other_numbers n v ∷ [] → IsStep z views views'
  joins : (id other : ℕ) (v w : View) → get_elem? views id ≡ some v → get_elem? views other ≡ some w → id ≢ other
      → views' ≡ slice_set (slice_set views id (joining v w)) other (view_after_spending z) → IsStep z views views'

-- each of these states follows the one before it by a step, and the word rule holds of it
abbrev pub IsStepRun : Sizes → RowState → List RowState → Type 0
IsStepRun z s [] = Unit {0}
IsStepRun z s (t ∷ ts) = WordRule z t × IsStep z s.views t.views × IsStepRun z t ts

-- the state that a run ends in
abbrev pub end_of : RowState → List RowState → RowState
end_of s [] = s
end_of s (t ∷ ts) = end_of t ts
