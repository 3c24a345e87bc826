-- What stands in the way of a caller's step: another caller's lock.
use Rattle.std.specs.Prelude.{◌≡◌, ◌≢◌, ℕ, ◌≤◌, length, Some}
use lib.ListN.{get_elem?}
use mathlib.Core.Option.{some}
use Rattle.bihash_laws.specs.LogLaws.{RowState}
use Rattle.bihash_rule.specs.declared.view.LockedBucket.{LockedBucket}
use Rattle.bihash_rule.specs.declared.view.LockedStore.{LockedStore}
use Rattle.bihash_rule.specs.declared.view.View.{View}

-- a caller with a number that isn't the one at this seat
pub record IsAnother (s : RowState) (id : ℕ) (view : View) : Type 0 where
  pub seat : ℕ
  pub other : seat ≢ id
  pub at : get_elem? s.views seat ≡ some view
  pub numbered : 1 ≤ length view.records

-- another caller holds the lock of bucket b
pub record IsLockedByAnother (s : RowState) (id b : ℕ) : Type 0 where
  pub view : View
  pub another : IsAnother s id view
  pub lock : LockedBucket
  pub held : view.holds.bucket ≡ Some lock
  pub bucket : lock.bucket ≡ b

-- another caller holds the allocation lock
pub record IsStoreLockedByAnother (s : RowState) (id : ℕ) : Type 0 where
  pub view : View
  pub another : IsAnother s id view
  pub lock : LockedStore
  pub held : view.holds.store ≡ Some lock
