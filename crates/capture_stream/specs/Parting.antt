-- A capture's records that are parted off while its bytes are read.
use Rattle.std.specs.Prelude.{◌≡◌, ◌+◌, ℕ, List}
use Rattle.packet_view.specs.Fronts.{Stops}
use Rattle.racl_io.specs.Buffers.{held_by}
use Rattle.capture_stream.specs.Found.{HaveFound, behind_of}
use Rattle.capture_stream.specs.declared.found_records.Found.{Found}
use Rattle.capture_stream.specs.declared.record_parting.RecordParting.{RecordParting}

-- the bytes that were read and are behind the last record that was parted off
abbrev pub rest_in : RecordParting → List ℕ
rest_in parting = held_by parting.window

-- all whole records that waited were parted off, and no whole record waits; what waited is at hand
pub record HasSettled (old new : RecordParting) (found : Found) : Type 0 where
  pub at_hand : HaveFound new.order (held_by new.spare) found
  pub held : held_by new.spare ≡ rest_in old
  pub left : rest_in new ≡ behind_of (rest_in old) found
  pub stops : Stops new.order (rest_in new) found.stop
  pub packets : new.packets ≡ old.packets + found.count
  pub order : new.order ≡ old.order
  pub interface : new.interface ≡ old.interface
  pub then : HaveFound new.order (rest_in new) new.found
