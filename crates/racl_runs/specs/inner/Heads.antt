-- The header of a capture that is told while it comes.
use Rattle.std.specs.Prelude.{◌≡◌, ◌<◌, ◌⊎◌, List, ℕ, Option, length}
use Rattle.std.specs.Io.KnownBytes.{Consumes, IsAtEnd}
use Rattle.packet_view.specs.Captures.{IsHeaderFault}
use Rattle.packet_view.specs.declared.capture.CaptureFault.{CaptureFault}
use Rattle.packet_view.specs.declared.capture.Order.{Order}
use Rattle.racl_io.specs.declared.fault.Fault.{Fault}
use Rattle.racl_io.specs.declared.fault.Fault.TheVariants.{Memory, Read}
use Rattle.racl_io.specs.Faults.{capture_fault}
use Rattle.racl_io.specs.Transfers.{GaveAtMost}
use Rattle.racl_runs.specs.Reads.{IsHeaded}

-- the source's first bytes are a header in this order
pub record HasReadHeader (before after : Option (List ℕ)) (order : Order) : Type 0 where
  pub header : List ℕ
  pub consumed : Consumes before after header
  pub headed : IsHeaded order header
  pub whole : length header ≡ 24

-- the source's first bytes, all that it has or 24, are no header, or couldn't be read
abbrev pub IsHeadless : Option (List ℕ) → Option (List ℕ) → Fault → Type 0
IsHeadless before after fault = GaveAtMost before after 24
    × ((fault ≡ Memory) ⊎ (fault ≡ Read)
    ⊎ ((cause : CaptureFault) × (header : List ℕ) × Consumes before after header × (length header < 24 → IsAtEnd after) × IsHeaderFault header cause
    × (fault ≡ capture_fault cause)))
