-- What the steps of a parting do.
use Rattle.std.specs.Prelude.{◌≡◌, ◌⊎◌, ◌+◌, ◌++◌, ◌≤◌, ℕ, Bool, List, Option, length}
use Rattle.std.specs.Io.KnownBytes.{Consumes, IsAtEnd, Keeps}
use Rattle.packet_view.specs.Captures.{IsEnd, end_of}
use Rattle.packet_view.specs.Fronts.{Stops}
use Rattle.packet_view.specs.declared.capture.Order.{Order}
use Rattle.packet_view.specs.declared.records_at_front.Stop.{Stop}
use Rattle.packet_view.specs.declared.records_at_front.Stop.TheVariants.{TooLong}
use Rattle.racl_io.specs.declared.fault.Fault.{Fault}
use Rattle.racl_io.specs.declared.fault.Fault.TheVariants.{LongRecord, Memory, Read}
use Rattle.capture_stream.specs.Found.{HaveFound}
use Rattle.capture_stream.specs.Parting.{rest_in}
use Rattle.capture_stream.specs.declared.record_parting.RecordParting.{RecordParting}

-- these bytes wait, and no record was parted off
pub record IsBegun (order : Order) (interface : ℕ) (front : List ℕ) (parting : RecordParting) : Type 0 where
  pub order_is : parting.order ≡ order
  pub interface_is : parting.interface ≡ interface
  pub waits : rest_in parting ≡ front
  pub found : HaveFound parting.order (rest_in parting) parting.found
  pub packets : parting.packets ≡ 0

-- these bytes wait behind the others, and no record was parted off
pub record IsLonger (old new : RecordParting) (bytes : List ℕ) : Type 0 where
  pub waits : rest_in new ≡ rest_in old ++ bytes
  pub packets : new.packets ≡ old.packets
  pub order : new.order ≡ old.order
  pub interface : new.interface ≡ old.interface
  pub found : HaveFound new.order (rest_in new) new.found

-- so many bytes, which the source gave, wait behind the others, and none only at its end
pub record HasGot (before after : Option (List ℕ)) (old new : RecordParting) (most count : ℕ) : Type 0 where
  pub read : List ℕ
  pub consumed : Consumes before after read
  pub longer : IsLonger old new read
  pub size : count ≡ length read
  pub few : count ≤ most
  pub ended : count ≡ 0 → IsAtEnd after

-- memory ran out or a read failed, and nothing was read
abbrev pub IsUnread : Option (List ℕ) → Option (List ℕ) → Fault → Type 0
IsUnread before after fault = Keeps before after × ((fault ≡ Memory) ⊎ (fault ≡ Read))

-- memory ran out or a read failed, and no more than so many bytes were read before, which are lost
abbrev pub IsLost : ℕ → Option (List ℕ) → Option (List ℕ) → Fault → Type 0
IsLost most before after fault = (gone : List ℕ) × Consumes before after gone × (length gone ≤ most) × ((fault ≡ Memory) ⊎ (fault ≡ Read))

-- where a capture ends here, it ends so
abbrev pub IsCutAt : Stop → Bool → Type 0
IsCutAt stop truncated = (order : Order) (rest : List ℕ) → Stops order rest stop → IsEnd order rest (end_of truncated)

-- after so many packets the record of this number is too long
abbrev pub IsLongAt : Stop → ℕ → Fault → Type 0
IsLongAt stop packets fault = (stop ≡ TooLong) × (fault ≡ LongRecord (packets + 1))
