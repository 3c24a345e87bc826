-- One of several captures that come: what came of it, and what waits.
use Rattle.std.specs.Prelude.{◌≡◌, ◌<◌, ◌≤◌, ◌⊎◌, ℕ, List, [], Option, None, Some, get_or, length}
use Rattle.packet_view.specs.Captures.{IsCutRecord, IsHeaderFault, RecordFacts}
use Rattle.packet_view.specs.declared.capture.CaptureFault.{CaptureFault}
use Rattle.packet_view.specs.declared.capture.Order.{Order}
use Rattle.racl_io.specs.Buffers.{held_by}
use Rattle.racl_io.specs.Faults.{capture_fault}
use Rattle.racl_io.specs.declared.fault.Fault.{Fault}
use Rattle.racl_io.specs.declared.fault.Fault.TheVariants.{Memory}
use Rattle.filter_run.specs.Turns.{AreHeaded, Turn, bytes_at, records_at}
use Rattle.filter_run.specs.declared.coming_captures.Lane.{Lane}

-- of a capture these bytes came, and these wait: all of them, or those behind its header and whole records
abbrev pub HasWaiting : Option Order → List ℕ → List RecordFacts → List ℕ → Type 0
HasWaiting None bytes records waits = (waits ≡ bytes) × (records ≡ [])
HasWaiting (Some order) bytes records waits = AreHeaded order bytes records waits

-- no header and no record of them is whole
abbrev pub IsShort : Option Order → List ℕ → Type 0
IsShort None waits = length waits < 24
IsShort (Some order) waits = (waits ≡ []) ⊎ IsCutRecord order waits

pub record IsLane (bytes : List ℕ) (records : List RecordFacts) (lane : Lane) : Type 0 where
  pub waiting : HasWaiting lane.order bytes records (held_by lane.window)
  pub short : IsShort lane.order (held_by lane.window)
  pub count : lane.packets ≡ length records

-- each of these is of its interface's capture
abbrev pub AreLanes : List Turn → List Lane → Type 0
AreLanes turns lanes = (length lanes ≡ 256) × ((i : ℕ) (other : Lane) → i < 256 → IsLane (bytes_at i turns) (records_at i turns) (get_or lanes i other))

-- the header of a capture of which these bytes came is wrong, or memory ran out
abbrev pub IsHeadFault : List ℕ → Fault → Type 0
IsHeadFault bytes fault = (fault ≡ Memory) ⊎ ((24 ≤ length bytes) × (cause : CaptureFault) × IsHeaderFault bytes cause × (fault ≡ capture_fault cause))
