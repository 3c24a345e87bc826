-- Several captures that come together: the turns that were given, how they end, and how they fail.
use Rattle.std.specs.Prelude.{◌≡◌, ◌-◌, ◌<◌, ◌⊎◌, ◌++◌, ◌^◌, ℕ, List, [], ◌∷◌, None, Option, Some, length}
use Rattle.racl_io.specs.declared.fault.Fault.TheVariants.{Memory, Read}
use Rattle.racl_io.specs.declared.totals_and_truncation.Captured.{Captured}
use Rattle.capture_stream.specs.Arrivals.{AreAllGiven, Gives, HaveAllEnded, IsNamed, Part}
use Rattle.capture_stream.specs.Lives.{with_read}
use Rattle.capture_stream.specs.declared.arrivals.FaultAt.{FaultAt}
use Rattle.filter_run.specs.Batches.{BatchFacts}
use Rattle.filter_run.specs.ComingCaptures.{AreLost, HasLongRecord, HasWrongHeader, IsOfLast}
use Rattle.filter_run.specs.Turns.{AreTurns, AreTurnsToLong, Turn, cuts_of, packets_of, parts_of}
use Rattle.filter_run.specs.declared.coming_captures.ComingCaptures.{ComingCaptures}
use Rattle.filter_run.specs.declared.coming_captures.Lane.{Lane}
use Rattle.filter_run.specs.inner.Lanes.{AreLanes}

-- the batch has the records that a turn made whole behind those before
pub record IsBatch (before : List Turn) (turn : Turn) (batch : BatchFacts) : Type 0 where
  pub others : batch.others ≡ length (packets_of before)
  pub interface : batch.interface ≡ turn.interface
  pub plain : batch.numbers ≡ None
  pub records : batch.records ≡ turn.records

-- these batches are of these turns, one of each
abbrev pub AreBatches : List Turn → List BatchFacts → Type 0
AreBatches [] batches = batches ≡ []
AreBatches (turn ∷ before) batches =
    (earlier : List BatchFacts) × (batch : BatchFacts) × (batches ≡ earlier ++ batch ∷ []) × IsBatch before turn batch × AreBatches before earlier

-- each capture's lane is as these turns left it; or the record behind those of the last one is too long
abbrev pub StandSo : Option FaultAt → List Turn → List Lane → Type 0
StandSo None turns lanes = AreTurns turns × AreLanes turns lanes
StandSo (Some found) turns lanes = AreTurnsToLong turns × IsOfLast turns found.interface × HasLongRecord turns found

-- so captures stand after these turns
pub record AreAfter {A : Type 0} (turns : List Turn) (captures : ComingCaptures A) : Type 0 where
  pub stand : StandSo captures.long turns captures.lanes.items
  pub cuts : captures.cuts.items ≡ cuts_of turns
  pub packets : captures.packets ≡ length (packets_of turns)

-- the parts of these turns came, and these are their batches
pub record HasGivenTurns {A : Type 0} (parts : A → Option (List Part)) (failures : A → ℕ) (begun : ComingCaptures A) (batches : List BatchFacts)
    (now : ComingCaptures A) : Type 0 where
  pub same : now.arrivals.ghost_name ≡ begun.arrivals.ghost_name
  pub turns : List Turn
  pub are : AreBatches turns batches
  pub given : Gives (parts begun.arrivals.now) (parts now.arrivals.now) (parts_of turns)
  pub after : AreAfter turns now
  pub few : failures begun.arrivals.now < 2 ^ 64 - 1
  pub sound : failures now.arrivals.now ≡ failures begun.arrivals.now

-- and all captures have ended
pub record HasGivenAllTurns {A : Type 0} (parts : A → Option (List Part)) (failures : A → ℕ) (left : A → Option ℕ) (begun : ComingCaptures A)
    (batches : List BatchFacts) (captures : List Captured) (now : ComingCaptures A) : Type 0 where
  pub same : now.arrivals.ghost_name ≡ begun.arrivals.ghost_name
  pub turns : List Turn
  pub right : AreTurns turns
  pub are : AreBatches turns batches
  pub given : Gives (parts begun.arrivals.now) (parts now.arrivals.now) (parts_of turns)
  pub ended : AreAllGiven (parts now.arrivals.now)
  pub none_left : HaveAllEnded (left now.arrivals.now)
  pub told : captures ≡ cuts_of turns
  pub sound : failures now.arrivals.now ≡ failures begun.arrivals.now

-- Why no more was given: memory ran out, and a part was lost or none; a capture couldn't be read; the header of a part's capture is
-- wrong; or the record behind those of the last part is too long.
abbrev pub IsWhyNoTurn : List Turn → List Part → FaultAt → Type 0
IsWhyNoTurn turns gone found =
    ((found.fault ≡ Memory) × AreLost gone found.interface × AreTurns turns)
    ⊎ ((found.fault ≡ Read) × IsNamed found.interface × (gone ≡ []) × AreTurns turns)
    ⊎ ((part : Part) × (gone ≡ part ∷ []) × AreTurns turns × HasWrongHeader turns part found)
    ⊎ ((gone ≡ []) × AreTurnsToLong turns × IsOfLast turns found.interface × HasLongRecord turns found)

-- the parts of these turns came, and behind them these
pub record HasFailedBehindTurns {A : Type 0} (parts : A → Option (List Part)) (failures : A → ℕ) (unread : A → Option ℕ) (begun : ComingCaptures A)
    (batches : List BatchFacts) (found : FaultAt) (now : ComingCaptures A) : Type 0 where
  pub same : now.arrivals.ghost_name ≡ begun.arrivals.ghost_name
  pub turns : List Turn
  pub gone : List Part
  pub are : AreBatches turns batches
  pub given : Gives (parts begun.arrivals.now) (parts now.arrivals.now) (parts_of turns ++ gone)
  pub why : IsWhyNoTurn turns gone found
  pub failed : failures now.arrivals.now ≡ with_read (failures begun.arrivals.now) found.fault
  pub whose : found.fault ≡ Read → found.interface ≡ unread now.arrivals.now
