use Rattle.std.proofs.Common.{◌≤◌, ◌+◌, All, length}
use Rattle.packet_view.specs.Captures.{kept_limit}
use Rattle.packet_view.specs.Marks.{IsMark}
use Rattle.packet_view.proofs.RecordListLemmas.{AreBefore}
use Rattle.packet_view.proofs.records_at_front.front_records.Given as goal

-- so many records stand before what is left, a record may keep the likely length, and the places that were noted are such
abbrev pub invariant-records : goal.invariant-records
invariant-records l = record {
  before : AreBefore l.order l.bytes l.rest l.count;
  likely : l.predicted_len ≤ kept_limit;
  enough : 16 + l.predicted_len ≤ l.enough;
  marks : All (IsMark l.order l.bytes) l.notes.marks;
}

abbrev pub decreases-records : goal.decreases-records
decreases-records l = length l.rest
