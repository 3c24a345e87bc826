-- What the steps of the code make of records, which `Captures` says whole. The two are proved to agree.
use Rattle.std.specs.Prelude.{◌≡◌, ℕ, ◌+◌, ◌-◌, ◌==◌, nat_lt, if◌then◌else◌, List, length, drop, Result, Ok, Err}
use Rattle.packet_view.specs.declared.capture.Order.{Order}
use Rattle.packet_view.specs.declared.capture.CheckedCapture.{CheckedCapture}
use Rattle.packet_view.specs.declared.capture.CaptureFault.{CaptureFault}
use Rattle.packet_view.specs.declared.capture.CaptureFault.TheVariants.{LongRecord}
use Rattle.packet_view.specs.CheckedCaptures.{records_of}
use Rattle.packet_view.specs.Captures.{AreRecords, IsEnd, IsTooLong, RecordFacts, end_of, PieceFacts, Record, Nothing, Cut, TooLong, kept_length, kept_limit}
use Rattle.packet_view.specs.RecordLists.{front_record, record_length}

abbrev pub part_of : Order → List ℕ → PieceFacts
part_of order bytes =
    if length bytes == 0 then Nothing
    else (if nat_lt (length bytes) 16 then Cut
    else (if nat_lt kept_limit (kept_length order bytes) then TooLong
    else (if nat_lt (length bytes - 16) (kept_length order bytes) then Cut
    else Record (front_record order bytes) (drop (record_length order bytes) bytes))))

-- the bytes after a header are these records and end so, or the first record that is too long is of this number
abbrev pub Checks : Order → List ℕ → Result CheckedCapture CaptureFault → Type 0
Checks order bytes (Ok checked) =
    (rest : List ℕ) × AreRecords order bytes (records_of checked.records) rest × IsEnd order rest (end_of checked.truncated)
Checks order bytes (Err (LongRecord number)) =
    (packets : List RecordFacts) × (rest : List ℕ) × AreRecords order bytes packets rest × IsTooLong order rest × (number ≡ length packets + 1)
Checks order bytes (Err header_fault) = ⊥
