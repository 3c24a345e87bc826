-- One capture between two reads.
use Rattle.std.specs.Prelude.{◌≡◌, ◌+◌, ◌<◌, ◌⊎◌, ℕ, List, None, Option, Some, length, true}
use Rattle.std.specs.Global.{Vec}
use Rattle.std.specs.Io.KnownBytes.{Consumes}
use Rattle.racl_io.specs.declared.fault.Fault.{Fault}
use Rattle.racl_io.specs.declared.fault.Fault.TheVariants.{Read, TooLarge}
use Rattle.racl_io.specs.declared.totals_and_truncation.Captured.{Captured}
use Rattle.capture_stream.specs.inner.Partings.{IsLost, IsUnread}
use Rattle.filter_run.specs.Batches.{BatchFacts}
use Rattle.filter_run.specs.OneCapture.{HasGiven, HasGivenAll}
use Rattle.filter_run.specs.Sources.{IsAllGiven}
use Rattle.filter_run.specs.Starts.{IsInputOut, most_at}
use Rattle.filter_run.specs.declared.one_capture.OneCapture.{OneCapture}

-- behind so many bytes of a capture its input was read to the end, where it is part of one
pub record HasReadOut (input : Option ℕ) (size : ℕ) (before after : Option (List ℕ)) : Type 0 where
  pub gone : List ℕ
  pub consumed : Consumes before after gone
  pub out : IsInputOut input (size + length gone) after

-- or a read failed, or it is too much
pub record IsOutFault (input : Option ℕ) (size : ℕ) (before after : Option (List ℕ)) (fault : Fault) : Type 0 where
  pub gone : List ℕ
  pub consumed : Consumes before after gone
  pub part : (n : ℕ) × (input ≡ Some n)
  pub why : (fault ≡ Read) ⊎ ((fault ≡ TooLarge) × (most_at input < size + length gone))

-- memory ran out or a read failed: nothing was read then, or of an input no more than so many bytes, which are lost
abbrev pub IsMissed : Option ℕ → ℕ → Option (List ℕ) → Option (List ℕ) → Fault → Type 0
IsMissed None most before after fault = IsUnread before after fault
IsMissed (Some n) most before after fault = IsLost most before after fault

-- bytes wait that weren't parted yet, behind whatever was given so far; or that was all
abbrev pub HasReadMore : {R : Type 0} → (R → Option (List ℕ)) → (R → ℕ) → OneCapture R → OneCapture R → Option (Vec Captured) → Type 0
HasReadMore {R} bytes failures old new None =
    (new.waits ≡ true) × ((begun : OneCapture R) (batches : List BatchFacts) → HasGiven bytes failures begun batches old → HasGiven bytes failures begun batches new)
HasReadMore bytes failures old new (Some captures) = IsAllGiven (HasGiven bytes failures) (HasGivenAll bytes failures) old captures.items new
