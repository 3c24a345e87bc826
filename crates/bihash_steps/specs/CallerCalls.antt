-- What the steps on callers and their numbers ask, and what they leave: s is the caller before the step, t after it.
use Rattle.std.specs.Prelude.{◌≡◌, ◌≢◌, ℕ, ◌<◌, ◌≤◌, true, false, Bool, length, Option}
use Rattle.atomic_table.specs.Seated.{TableId}
use Rattle.bihash_words.specs.Sizes.{Sizes}
use Rattle.bihash_rule.specs.Callers.{Agrees, IsLawfulCaller}
use Rattle.bihash_rule.specs.Views.{nothing_held}
use Rattle.bihash_steps.specs.Steps.{HaveBearers, IsToldWhole, view_after_count, first_numbers, informed_by, view_after_join, view_after_number, other_numbers, recounted}
use Rattle.bihash_steps.specs.Seats.{CallerState, stamp_of, with_view}
use Rattle.bihash_rule.specs.declared.view.View.{View}

-- the caller belongs to this row, and holds nothing
pub record IsIdle (row : TableId) (s : CallerState) : Type 0 where
  pub own : s.row ≡ row
  pub free : s.view.holds ≡ nothing_held

-- so do both
pub record AreIdle (row : TableId) (s other : CallerState) : Type 0 where
  pub own : (s.row ≡ row) × (other.row ≡ row)
  pub free : (s.view.holds ≡ nothing_held) × (other.view.holds ≡ nothing_held)

-- The caller count was loaded. A caller with as many numbers is lone from then on, and knows what that tells it.
pub record HasCounted (z : Sizes) (s t : CallerState) (count : ℕ) : Type 0 where
  pub view : t ≡ with_view s (view_after_count s.view count)
  pub rises : s.view.seen ≤ count
  pub few : count ≤ z.callers
  pub lawful : IsLawfulCaller z t.view
  pub bearers : HaveBearers z t.view
  pub whole : t.view.lone ≡ true → IsToldWhole z t.view

-- the number after this count was taken, or another count was found
pub record TakesNumber (z : Sizes) (s t : CallerState) (count : ℕ) (won : Bool) : Type 0 where
  pub row : (t.row ≡ s.row) × (t.seat ≡ s.seat)
  pub taken : won ≡ true → t.view ≡ view_after_number s.view count
  pub not : won ≡ false → (found : ℕ) × (found ≢ count) × (s.view.seen ≤ found) × (t.view ≡ recounted s.view found)
  pub lawful : IsLawfulCaller z t.view

-- all numbers but the first ones may go to a new seat, whose last answered call had this stamp
pub record MayCut (v : View) (kept : ℕ) (stamp : Option (ℕ × ℕ)) : Type 0 where
  pub free : v.holds ≡ nothing_held
  pub some : 1 ≤ kept
  pub less : kept < length v.records
  pub stamped : stamp ≡ stamp_of (other_numbers kept v).records

-- they went to the seat u
pub record IsCut (z : Sizes) (s t u : CallerState) (kept : ℕ) : Type 0 where
  pub left : t ≡ with_view s (first_numbers kept s.view)
  pub right : (u.row ≡ s.row) × (u.view ≡ other_numbers kept s.view)
  pub lawful : IsLawfulCaller z s.view → IsLawfulCaller z t.view × IsLawfulCaller z u.view × Agrees t.view u.view

-- the caller t has the numbers and records of s and the other
pub record IsJoined (z : Sizes) (s other t : CallerState) : Type 0 where
  pub view : t ≡ with_view s (view_after_join s.view other.view)
  pub lawful : IsLawfulCaller z t.view
  pub agree : Agrees s.view other.view

-- the callers t and u, which were s and the other, know what either knew
pub record AreInformed (z : Sizes) (s other t u : CallerState) : Type 0 where
  pub first : t ≡ with_view s (informed_by s.view s.view other.view)
  pub second : (u.row ≡ other.row) × (u.view ≡ informed_by other.view s.view other.view)
  pub lawful : IsLawfulCaller z t.view × IsLawfulCaller z u.view
  pub before : Agrees s.view other.view
  pub after : Agrees t.view u.view
