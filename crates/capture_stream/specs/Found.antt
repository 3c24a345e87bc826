-- Whole records at the front of some bytes, as numbers.
use Rattle.std.specs.Prelude.{◌≡◌, ◌+◌, ◌-◌, ℕ, All, List, drop, length}
use Rattle.packet_view.specs.Captures.{AreRecords}
use Rattle.packet_view.specs.Fronts.{Stops}
use Rattle.packet_view.specs.Marks.{IsMark}
use Rattle.packet_view.specs.RecordLists.{bytes_of, records_from}
use Rattle.packet_view.specs.declared.capture.Order.{Order}
use Rattle.capture_stream.specs.declared.found_records.Found.{Found}

-- the bytes behind the records
abbrev pub behind_of : List ℕ → Found → List ℕ
behind_of bytes found = drop (length bytes - found.behind) bytes

-- they are the records before these bytes, and no whole record comes next
pub record HaveFound (order : Order) (bytes : List ℕ) (found : Found) : Type 0 where
  pub size : bytes_of order found.count bytes + found.behind ≡ length bytes
  pub records : AreRecords order bytes (records_from order found.count bytes) (behind_of bytes found)
  pub stop : Stops order (behind_of bytes found) found.stop
  pub marks : All (IsMark order bytes) found.marks
