-- What a view becomes at each kind of step, and what the step tells its caller.
use Rattle.std.specs.Prelude.{◌≡◌, ◌≢◌, ℕ, ◌+◌, ◌<◌, ◌≤◌, ◌==◌, List, [], ◌∷◌, ◌++◌, length, true, false, cond, nat_le, max, take, drop, Some}
use lib.ListN.{get_elem?}
use mathlib.Core.Option.{some}
use Rattle.atomic_table.specs.Table.{Me}
use Rattle.bihash_words.specs.Sizes.{Sizes}
use Rattle.bihash_rule.specs.Words.{buckets}
use Rattle.bihash_rule.specs.Callers.{HasMadeAll, HaveOneLog, MatchesLog, IsConsistent, IsLawfulCaller, IsWhole, KnowsOwn, known_at, known_writes}
use Rattle.bihash_rule.specs.PageStores.{BearOutOfPages, most_used}
use Rattle.bihash_rule.specs.Views.{empty_record, nothing_known, nothing_held, no_notes}
use Rattle.bihash_rule.specs.declared.view.Write.{Write}
use Rattle.bihash_rule.specs.declared.view.Entry.{Entry}
use Rattle.bihash_rule.specs.declared.view.Meeting.{Meeting}
use Rattle.bihash_rule.specs.declared.view.View.{View}
use Rattle.bihash_steps.specs.declared.split_fault.SplitFault.{SplitFault}
use Rattle.bihash_steps.specs.declared.split_fault.SplitFault.TheVariants.{Memory, Numbers, Contended}

-- a seat: its view, and the slots that it holds, of which a row has none
abbrev pub ViewOfSeat : Type 0
ViewOfSeat = Me (Unit {0}) View

-- ---- A load of the caller count

-- The caller saw this count. It is lone where it has as many numbers. Notes of what stood still before a
-- lone caller are dropped.
abbrev pub view_after_count : View → ℕ → View
view_after_count v count = record v { seen = count; lone = count == length v.records; notes = no_notes }

-- each write that the caller knows bears a number from 1 to the count that it saw
abbrev pub HaveBearers : Sizes → View → Type 0
HaveBearers z v = (b n : ℕ) (w : Write) → b < buckets z → get_elem? (known_at v.known b) n ≡ some w
    → (1 ≤ w.by) × (w.by ≤ v.seen)

-- What a caller is told that has as many numbers as the count that it saw: it has each number up to it, made
-- each write that it knows, and wherever its records tell of too few pages, its writes took the others.
pub record IsToldWhole (z : Sizes) (v : View) : Type 0 where
  pub whole : IsWhole v.records v.seen
  pub made : HasMadeAll z v
  pub short : BearOutOfPages z (most_used z v.known.openings.used (known_writes v.known (buckets z))) v.records

pub record TellsCount (z : Sizes) (m : ViewOfSeat) (found : ℕ) (m' : ViewOfSeat) : Type 0 where
  pub seat : m' ≡ (view_after_count m.0 found, m.1)
  pub rises : m.0.seen ≤ found
  pub few : found ≤ z.callers
  pub lawful : IsLawfulCaller z m'.0
  pub bearers : HaveBearers z m'.0
  pub whole : m'.0.lone ≡ true → IsToldWhole z m'.0

-- ---- An exchange of the caller count with the next

-- the caller has the next number too
abbrev pub view_after_number : View → ℕ → View
view_after_number v count = record v {
  records = v.records ++ empty_record (count + 1) ∷ [];
  seen = count + 1;
  lone = false;
}

-- another count was found
abbrev pub recounted : View → ℕ → View
recounted v count = record v { seen = count }

pub record TellsNumber (z : Sizes) (count : ℕ) (m : ViewOfSeat) (found : ℕ)
    (m' : ViewOfSeat) : Type 0 where
  pub slots : m'.1 ≡ m.1
  pub taken : found ≡ count → m'.0 ≡ view_after_number m.0 found
  pub not : found ≢ count → m'.0 ≡ recounted m.0 found
  pub rises : m.0.seen ≤ found
  pub few : length m.0.records ≤ found
  pub lawful : IsLawfulCaller z m'.0

-- ---- A seat is split

-- the first numbers stay, with all that is known and held
abbrev pub first_numbers : ℕ → View → View
first_numbers kept v = record v { records = take kept v.records; lone = false; notes = no_notes }

-- the others go to a new seat, with all that is known
abbrev pub other_numbers : ℕ → View → View
other_numbers kept v = record v {
  records = drop kept v.records;
  lone = false;
  holds = nothing_held;
  notes = no_notes;
}

-- the old caller after a split that found this count: it has all that it had
abbrev pub parent : View → ℕ → View
parent v count = record v { seen = count + 1; lone = false; notes = no_notes }

-- the new caller of that split: it knows the same, and has the next number
abbrev pub newcomer : View → ℕ → View
newcomer v count = record (parent v count) {
  records = empty_record (count + 1) ∷ [];
  holds = nothing_held;
}

-- Why a split was refused, and what the caller knows then: there are as many numbers as there may be, or
-- there are fewer and their count grew in the call.
abbrev pub IsRefused : Sizes → View → SplitFault → View → Type 0
IsRefused z v Memory w = w ≡ v
IsRefused z v Numbers w = w ≡ view_after_count v z.callers
IsRefused z v Contended w = (count more : ℕ) × (v.seen ≤ count) × (count < z.callers) × (count < more)
    × (w ≡ recounted (view_after_count v count) more)

-- ---- A seat takes in another's

abbrev pub longer : List Write → List Write → List Write
longer xs ys = cond (nat_le (length ys) (length xs)) xs ys

-- of each bucket the longer list
abbrev pub longer_each : List (List Write) → List (List Write) → List (List Write)
longer_each [] yss = yss
longer_each (xs ∷ xss) [] = xs ∷ xss
longer_each (xs ∷ xss) (ys ∷ yss) = longer xs ys ∷ longer_each xss yss

-- the longer of two beginnings of the log
abbrev pub longer_log : List Entry → List Entry → List Entry
longer_log xs ys = cond (nat_le (length ys) (length xs)) xs ys

-- the caller u, which knows what v or w knew
abbrev pub informed_by : View → View → View → View
informed_by u v w = record u {
  known = record u.known { writes = longer_each v.known.writes w.known.writes };
  log = longer_log v.log w.log;
  seen = max v.seen w.seen;
  lone = false;
  notes = no_notes;
}

-- one caller with the numbers and records of both
abbrev pub view_after_join : View → View → View
view_after_join v w = record (informed_by v v w) { records = v.records ++ w.records }

-- the same, with a note of what both knew and did
abbrev pub joining : View → View → View
joining v w = record (view_after_join v w) {
  notes = record no_notes {
    meeting = Some
        (record { first = v.known; second = w.known; first_log = v.log; second_log = w.log; first_records = v.records; second_records = w.records });
  };
}

-- what is left of the other: it has no number, knows nothing and holds nothing
abbrev pub view_after_spending : Sizes → View
view_after_spending z = record {
  records = [];
  known = nothing_known z;
  log = [];
  seen = 0;
  lone = false;
  holds = nothing_held;
  notes = no_notes;
}

-- a load after it
pub record TellsAgreement (z : Sizes) (m m' : ViewOfSeat) : Type 0 where
  pub seat : m' ≡ (record m.0 { notes = no_notes }, m.1)
  pub few : length m.0.records ≤ z.callers
  pub lawful : IsLawfulCaller z m'.0
  pub agree : (y : Meeting) → m.0.notes.meeting ≡ Some y → IsConsistent y.first y.second
      × KnowsOwn y.first_records y.first y.second × KnowsOwn y.second_records y.second y.first
      × HaveOneLog y.first_records y.first_log y.second_records y.second_log
      × MatchesLog y.first y.second_log × MatchesLog y.second y.first_log
