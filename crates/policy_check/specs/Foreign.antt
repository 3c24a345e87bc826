-- Captures whose first frames have nothing to do with the address of a `mac` line (IEEE 802.3: a frame begins with the address
-- of its destination and that of its source; the first bit of an address that is sent is set where it is that of a group).
use Rattle.std.specs.Prelude.{◌≡◌, ◌⊎◌, ℕ, ◌%◌, List, ◌∷◌, take, drop, All, Any, Some}
use Rattle.packet_view.specs.Captures.{AreRecords, HasFileHeader, PacketFacts, RecordFacts, packets_at}
use Rattle.packet_view.specs.Fronts.{Stops}
use Rattle.packet_view.specs.declared.capture.Order.{Order}
use Rattle.packet_view.specs.declared.records_at_front.Stop.{Stop}
use Rattle.packet_view.specs.declared.tuple.Mac.{Mac}
use Rattle.acl_policy.specs.Policies.{SectionFacts}

-- the frame is to this address, or from it
abbrev pub IsOf : List ℕ → List ℕ → Type 0
IsOf own frame = (take 6 frame ≡ own) ⊎ (take 6 (drop 6 frame) ≡ own)

-- it is for one station
abbrev pub IsForOne : List ℕ → Type 0
IsForOne frame = (byte : ℕ) × (rest : List ℕ) × (frame ≡ byte ∷ rest) × (byte % 2 ≡ 0)

-- some of these packets is for one station, and none has to do with this address
pub record AreForeign (own : List ℕ) (packets : List PacketFacts) : Type 0 where
  pub some : Any (λ packet. IsForOne packet.frame) packets
  pub none : All (λ packet. IsOf own packet.frame → ⊥) packets

-- The section has an own address. Its interface, of this number, has a capture that begins so, and this is so of the packets
-- of all records that stand whole in these bytes.
pub record IsForeignOf (section : SectionFacts) (front : List ℕ) (number : ℕ) : Type 0 where
  pub same : number ≡ section.interface
  pub own : Mac
  pub given : section.own ≡ Some own
  pub order : Order
  pub header : HasFileHeader order front
  pub records : List RecordFacts
  pub rest : List ℕ
  pub are : AreRecords order (drop 24 front) records rest
  pub stop : Stop
  pub ends : Stops order rest stop
  pub foreign : AreForeign own.0 (packets_at number records)
