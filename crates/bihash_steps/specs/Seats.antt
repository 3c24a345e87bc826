-- What contracts see of a row and of its callers.
use Rattle.std.specs.Prelude.{◌≡◌, ℕ, ◌<◌, ◌≤◌, List, [], ◌∷◌, length, Option, Some, None}
use Rattle.atomic_table.specs.Seated.{TableId}
use Rattle.bihash_words.specs.Sizes.{Sizes, IsSound}
use Rattle.bihash_rule.specs.Words.{all_words, buckets}
use Rattle.bihash_rule.specs.Callers.{IsLawfulCaller}
use Rattle.bihash_rule.specs.declared.view.Call.{Call}
use Rattle.bihash_rule.specs.declared.view.Record.{Record}
use Rattle.bihash_rule.specs.declared.view.View.{View}

-- a caller: the row that it belongs to, its seat there, and what it knows
pub record CallerState : Type 0 where
  pub row : TableId
  pub seat : ℕ
  pub view : View

abbrev pub caller_state : TableId → ℕ → View → CallerState
caller_state row seat view = record { row = row; seat = seat; view = view }

-- the same caller with another view
abbrev pub with_view : CallerState → View → CallerState
with_view c view = record c { view = view }

-- the same caller, whatever it knows now
abbrev pub IsSameSeat : CallerState → CallerState → Type 0
IsSameSeat s t = t ≡ with_view s t.view

-- the caller s with the view v, which is lawful
pub record Becomes (z : Sizes) (s : CallerState) (v : View) (t : CallerState) : Type 0 where
  pub view : t ≡ with_view s v
  pub lawful : IsLawfulCaller z t.view

-- the caller belongs to this row, which has bucket b
pub record IsAt (z : Sizes) (row : TableId) (s : CallerState) (b : ℕ) : Type 0 where
  pub own : s.row ≡ row
  pub inside : b < buckets z

-- a row has the words of its sizes
pub record IsRow (z : Sizes) (t : TableId) : Type 0 where
  pub sound : IsSound z
  pub wide : t.words ≡ all_words z
  pub bare : t.slots ≡ 0

-- a caller that can act counts its numbers and has one
pub record CanAct (v : View) (numbers : ℕ) : Type 0 where
  pub count : length v.records ≡ numbers
  pub some : 1 ≤ numbers

-- the bucket and the stamp of the last call
abbrev pub stamp_in : List Call → Option (ℕ × ℕ)
stamp_in [] = None
stamp_in (c ∷ []) = Some (c.bucket, c.stamp)
stamp_in (c ∷ d ∷ cs) = stamp_in (d ∷ cs)

-- the same of the record that the caller acts under
abbrev pub stamp_of : List Record → Option (ℕ × ℕ)
stamp_of [] = None
stamp_of (r ∷ rs) = stamp_in r.calls
