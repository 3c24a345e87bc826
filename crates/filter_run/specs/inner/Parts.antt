-- A part of one of several captures: what it makes whole, and what then waits.
use Rattle.std.specs.Prelude.{◌≡◌, ◌+◌, ◌<◌, ◌⊎◌, ◌++◌, ℕ, List, [], ◌∷◌, MatchResult, None, Option, Result, Some, length, ⊤}
use Rattle.packet_view.specs.Captures.{AreRecords, IsTooLong, RecordFacts}
use Rattle.packet_view.specs.Fronts.{Stops}
use Rattle.packet_view.specs.declared.capture.Order.{Order}
use Rattle.packet_view.specs.declared.records_at_front.Stop.{Stop}
use Rattle.packet_view.specs.declared.records_at_front.Stop.TheVariants.{TooLong}
use Rattle.racl_io.specs.Buffers.{held_by}
use Rattle.racl_io.specs.declared.fault.Fault.{Fault}
use Rattle.racl_io.specs.declared.fault.Fault.TheVariants.{LongRecord, Memory, Short, TooLarge}
use Rattle.racl_io.specs.declared.totals_and_truncation.Captured.{Captured}
use Rattle.capture_stream.specs.Arrivals.{part_in}
use Rattle.capture_stream.specs.Found.{HaveFound}
use Rattle.capture_stream.specs.declared.arrivals.Arrival.{Arrival}
use Rattle.capture_stream.specs.declared.arrivals.FaultAt.{FaultAt}
use Rattle.filter_run.specs.Batches.{IsWhole, batch_facts}
use Rattle.filter_run.specs.ComingCaptures.{HasWrongHeader}
use Rattle.filter_run.specs.Turns.{HasCaptureEnded, Turn}
use Rattle.filter_run.specs.declared.batch.Batch.{Batch}
use Rattle.filter_run.specs.declared.coming_captures.ComingCaptures.{ComingCaptures}
use Rattle.filter_run.specs.declared.coming_captures.Lane.{Lane}
use Rattle.filter_run.specs.declared.coming_captures.Waiting.{Waiting}
use Rattle.filter_run.specs.inner.GivenTurns.{AreAfter, IsBatch}
use Rattle.filter_run.specs.inner.Lanes.{HasWaiting, IsShort}

-- a batch without packets, behind so many
pub record IsEmptyBatch (interface others : ℕ) (batch : Batch) : Type 0 where
  pub found : HaveFound batch.order (held_by batch.bytes) batch.found
  pub held : held_by batch.bytes ≡ []
  pub at : batch.interface ≡ interface
  pub plain : batch.numbers ≡ None
  pub behind : batch.others ≡ others

-- the whole records that waited are the batch, and the rest waits in the capture's lane
pub record HasPartedLane (waiting : Waiting) (others : ℕ) (lane ready : Lane) (batch : Batch) : Type 0 where
  pub found : HaveFound batch.order (held_by batch.bytes) batch.found
  pub at : batch.interface ≡ waiting.interface
  pub plain : batch.numbers ≡ None
  pub behind : batch.others ≡ others
  pub few : batch.found.count < 4611686018427387904
  pub records : AreRecords waiting.order waiting.bytes.items (batch_facts batch).records (held_by ready.window)
  pub stops : Stops waiting.order (held_by ready.window) batch.found.stop
  pub order : ready.order ≡ Some waiting.order
  pub count : ready.packets ≡ lane.packets + length (batch_facts batch).records

-- where the whole records of a capture stop so, no record of it is whole that waits, or the next one is too long
abbrev pub WaitsSo : Stop → Option Order → List ℕ → Type 0
WaitsSo TooLong order waits = (known : Order) × (order ≡ Some known) × IsTooLong known waits
WaitsSo stop order waits = IsShort order waits

-- some bytes of a capture, of which these came before, made the records of this batch whole
pub record HasTakenBytes (arrival : Arrival) (bytes : List ℕ) (records : List RecordFacts) (others : ℕ) (ready : Lane) (batch : Batch) : Type 0 where
  pub found : HaveFound batch.order (held_by batch.bytes) batch.found
  pub at : batch.interface ≡ arrival.interface
  pub plain : batch.numbers ≡ None
  pub behind : batch.others ≡ others
  pub few : batch.found.count < 4611686018427387904
  pub waiting : HasWaiting ready.order (bytes ++ arrival.bytes.items) (records ++ (batch_facts batch).records) (held_by ready.window)
  pub waits : WaitsSo batch.found.stop ready.order (held_by ready.window)
  pub count : ready.packets ≡ length (records ++ (batch_facts batch).records)

-- the fault of a record that is too long, behind so many whole ones of this interface's capture
abbrev pub long_at : Stop → ℕ → ℕ → Option FaultAt
long_at TooLong interface packets = Some (record { fault = LongRecord (packets + 1); interface = Some interface })
long_at stop interface packets = None

-- a record that is too long is answered before that too much came
abbrev pub or_long_at : Option FaultAt → FaultAt → FaultAt
or_long_at None found = found
or_long_at (Some long) found = or_long_so long found.interface found.fault
  where
    or_long_so : FaultAt → Option ℕ → Fault → FaultAt
    or_long_so long interface TooLarge = long
    or_long_so long interface fault = record { fault = fault; interface = interface }

-- what is told of a capture that ended
abbrev pub cut_in : Option Captured → List Captured
cut_in None = []
cut_in (Some cut) = cut ∷ []

-- the capture of a lane ended, of which these bytes and records came, and what is told of that is noted; or why not
abbrev pub HasTakenEnd : ℕ → List ℕ → List RecordFacts → List Captured → List Captured → Result ⊤ Fault → Type 0
HasTakenEnd interface bytes records old new result =
    MatchResult result (λ _. (cuts : List Captured) × (new ≡ old ++ cuts) × HasCaptureEnded interface bytes records cuts)
    (λ fault. (fault ≡ Memory) ⊎ ((fault ≡ Short) × (length bytes < 24)))

-- the part of an arrival, as a turn that makes these records whole, and tells this of a capture's end
abbrev pub turn_of : Arrival → List RecordFacts → List Captured → Turn
turn_of arrival records cuts = record { interface = arrival.interface; bytes = arrival.bytes.items; records = records; cuts = cuts }

-- the part came after these turns, and this is its batch
pub record HasTakenPart {A : Type 0} (arrival : Arrival) (turns : List Turn) (next : ComingCaptures A) (batch : Batch) : Type 0 where
  pub whole : IsWhole batch
  pub cuts : List Captured
  pub is : IsBatch turns (turn_of arrival (batch_facts batch).records cuts) (batch_facts batch)
  pub after : AreAfter (turn_of arrival (batch_facts batch).records cuts ∷ turns) next

-- why it couldn't be taken
abbrev pub IsPartFault : Arrival → List Turn → Fault → Type 0
IsPartFault arrival turns fault =
    (fault ≡ Memory) ⊎ HasWrongHeader turns (part_in arrival) (record { fault = fault; interface = Some arrival.interface })
