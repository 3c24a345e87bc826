-- A whole record at the front of some bytes.
use Rattle.std.specs.Prelude.{◌≡◌, ◌++◌, ℕ, List}
use Rattle.packet_view.specs.Captures.{IsRecord, PacketFacts, RecordFacts, packet_at}
use Rattle.packet_view.specs.declared.capture.Order.{Order}

-- the bytes begin with a record's, of this packet
pub record HasFrontRecord (order : Order) (bytes piece : List ℕ) (packet : PacketFacts) (rest : List ℕ) : Type 0 where
  pub facts : RecordFacts
  pub one : (header : List ℕ) × (piece ≡ header ++ facts.frame) × IsRecord order header facts
  pub same : packet ≡ packet_at 0 facts
  pub whole : bytes ≡ piece ++ rest
