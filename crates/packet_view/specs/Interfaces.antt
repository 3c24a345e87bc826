-- Where a frame was seen.
use Rattle.std.specs.Prelude.{ℕ, Option}
use Rattle.packet_view.specs.declared.tuple.Mac.{Mac}

-- an interface: its number, and its own address where that is known
pub record Interface : Type 0 where
  pub number : ℕ
  pub own : Option Mac
