-- One capture behind its header: what was read, which records were given, how it ends, and how it fails.
use Rattle.std.specs.Prelude.{◌≡◌, ◌+◌, ◌-◌, ◌<◌, ◌≤◌, ◌++◌, ◌∷◌, ◌^◌, ℕ, Bool, IfSome, List, [], None, Option, false, length, true, ⊤}
use Rattle.std.specs.List.{flat_map}
use Rattle.std.specs.Io.KnownBytes.{Consumes, IsAtEnd}
use Rattle.packet_view.specs.Captures.{AreRecords, IsEnd, IsTooLong, RecordFacts, end_of}
use Rattle.packet_view.specs.Fronts.{Stops}
use Rattle.packet_view.specs.declared.capture.Order.{Order}
use Rattle.racl_io.specs.Buffers.{held_by}
use Rattle.racl_io.specs.Inputs.{most_bytes}
use Rattle.racl_io.specs.Tellings.{told_alone}
use Rattle.racl_io.specs.Transfers.{GaveAtMost}
use Rattle.racl_io.specs.declared.fault.Fault.{Fault}
use Rattle.racl_io.specs.declared.fault.Fault.TheVariants.{LongRecord, Memory, Read, TooLarge}
use Rattle.racl_io.specs.declared.totals_and_truncation.Captured.{Captured}
use Rattle.capture_stream.specs.Parting.{rest_in}
use Rattle.capture_stream.specs.Found.{HaveFound}
use Rattle.capture_stream.specs.Lives.{with_read}
use Rattle.capture_stream.specs.declared.arrivals.FaultAt.{FaultAt}
use Rattle.filter_run.specs.Batches.{BatchFacts, batch_facts}
use Rattle.filter_run.specs.Starts.{IsReadOut, IsUnreadRest, Start, most_at}
use Rattle.filter_run.specs.declared.batch.Batch.{Batch}
use Rattle.filter_run.specs.declared.one_capture.OneCapture.{OneCapture}

abbrev pub records_of : List BatchFacts → List RecordFacts
records_of batches = flat_map (λ batch. batch.records) batches

abbrev pub bytes_of : List BatchFacts → List ℕ
bytes_of batches = flat_map (λ batch. batch.bytes) batches

-- behind so many packets these are of one capture at the first interface, whose numbers have this order, and follow each other
abbrev pub AreNumbered : ℕ → Order → List BatchFacts → Type 0
AreNumbered n order [] = Unit {0}
AreNumbered n order (batch ∷ batches) =
    (batch.others ≡ n) × (batch.order ≡ order) × (batch.interface ≡ 0) × (batch.numbers ≡ None) × AreNumbered (n + length batch.records) order batches

-- where the records of one begin of which nothing was given
abbrev pub start_of : {R : Type 0} → OneCapture R → Start
start_of begun = record { order = begun.parting.order; front = rest_in begun.parting; input = begun.input }

-- of the bytes that were read before, and that the reader gave, these are whole records, before the rest
pub record HasGivenSome (start : Start) (before after : Option (List ℕ)) (batches : List BatchFacts) (rest : List ℕ) : Type 0 where
  pub read : List ℕ
  pub consumed : Consumes before after read
  pub records : AreRecords start.order (start.front ++ read) (records_of batches) rest
  pub spelt : start.front ++ read ≡ bytes_of batches ++ rest

-- All that was read is records that were given, and what waits: in it no whole record is, unless it was not parted yet.
pub record HasGiven {R : Type 0} (bytes : R → Option (List ℕ)) (failures : R → ℕ) (begun : OneCapture R) (batches : List BatchFacts) (now : OneCapture R) : Type 0 where
  pub same : now.reader.ghost_name ≡ begun.reader.ghost_name
  pub some : HasGivenSome (start_of begun) (bytes begun.reader.now) (bytes now.reader.now) batches (rest_in now.parting)
  pub numbered : AreNumbered 0 begun.parting.order batches
  pub packets : now.parting.packets ≡ length (records_of batches)
  pub order : now.parting.order ≡ begun.parting.order
  pub interface : now.parting.interface ≡ 0
  pub input : now.input ≡ begun.input
  pub within : IfSome begun.input (λ before. before ≤ most_bytes)
  pub size : now.read ≡ length (rest_in begun.parting ++ some.read)
  pub parts : length batches ≤ now.read
  pub more : now.waits ≡ true → length batches < now.read
  pub bound : now.read ≤ most_at begun.input + 1
  pub found : HaveFound now.parting.order (rest_in now.parting) now.parting.found
  pub stops : now.waits ≡ false → Stops now.parting.order (rest_in now.parting) now.stop
  pub few : failures begun.reader.now < 2 ^ 64 - 1
  pub sound : failures now.reader.now ≡ failures begun.reader.now

-- the reader gave all its bytes
pub record HasGivenAll {R : Type 0} (bytes : R → Option (List ℕ)) (failures : R → ℕ) (begun : OneCapture R) (batches : List BatchFacts) (captures : List Captured)
    (now : OneCapture R) : Type 0 where
  pub same : now.reader.ghost_name ≡ begun.reader.ghost_name
  pub rest : List ℕ
  pub some : HasGivenSome (start_of begun) (bytes begun.reader.now) (bytes now.reader.now) batches rest
  pub numbered : AreNumbered 0 begun.parting.order batches
  pub ended : IsAtEnd (bytes now.reader.now)
  pub few : length (rest_in begun.parting ++ some.read) ≤ most_at begun.input
  pub truncated : Bool
  pub end : IsEnd begun.parting.order rest (end_of truncated)
  pub told : captures ≡ told_alone (length (records_of batches)) truncated
  pub sound : failures now.reader.now ≡ failures begun.reader.now

-- why no more came
abbrev pub IsWhy : Start → (read : List ℕ) → (after : Option (List ℕ)) → List BatchFacts → (rest : List ℕ) → Fault → Type 0
IsWhy start read after batches rest Memory = ⊤
IsWhy start read after batches rest Read = IsUnreadRest start.input start.order rest
IsWhy start read after batches rest TooLarge = most_at start.input < length (start.front ++ read)
IsWhy start read after batches rest (LongRecord number) =
    IsTooLong start.order rest × (number ≡ length (records_of batches) + 1) × IsReadOut start read after
IsWhy start read after batches rest fault = ⊥

-- no more came than may come, and one byte more
abbrev pub GaveWithin : {R : Type 0} → (R → Option (List ℕ)) → OneCapture R → OneCapture R → Type 0
GaveWithin bytes begun now = GaveAtMost (bytes begun.reader.now) (bytes now.reader.now) (most_at begun.input + 1 - length (rest_in begun.parting))

pub record HasFailedBehind {R : Type 0} (bytes : R → Option (List ℕ)) (failures : R → ℕ) (begun : OneCapture R) (batches : List BatchFacts) (found : FaultAt)
    (now : OneCapture R) : Type 0 where
  pub same : now.reader.ghost_name ≡ begun.reader.ghost_name
  pub rest : List ℕ
  pub some : HasGivenSome (start_of begun) (bytes begun.reader.now) (bytes now.reader.now) batches rest
  pub numbered : AreNumbered 0 begun.parting.order batches
  pub far : GaveWithin bytes begun now
  pub place : found.interface ≡ None
  pub why : IsWhy (start_of begun) some.read (bytes now.reader.now) batches rest found.fault
  pub failed : failures now.reader.now ≡ with_read (failures begun.reader.now) found.fault

-- the whole records that waited are the batch, and what is behind them waits
pub record HasParted {R : Type 0} (old new : OneCapture R) (batch : Batch) : Type 0 where
  pub whole : HaveFound batch.order (held_by batch.bytes) batch.found
  pub others : batch.others ≡ old.parting.packets
  pub order : batch.order ≡ old.parting.order
  pub interface : batch.interface ≡ old.parting.interface
  pub plain : batch.numbers ≡ None
  pub records : AreRecords old.parting.order (rest_in old.parting) (batch_facts batch).records (rest_in new.parting)
  pub spelt : rest_in old.parting ≡ (batch_facts batch).bytes ++ rest_in new.parting
  pub packets : new.parting.packets ≡ old.parting.packets + length (batch_facts batch).records
  pub same_order : new.parting.order ≡ old.parting.order
  pub same_interface : new.parting.interface ≡ old.parting.interface
  pub same_input : new.input ≡ old.input
  pub found : HaveFound new.parting.order (rest_in new.parting) new.parting.found
  pub stops : Stops new.parting.order (rest_in new.parting) new.stop
  pub reader : new.reader ≡ old.reader
  pub read : new.read ≡ old.read
  pub parted : new.waits ≡ false
