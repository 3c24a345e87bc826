use Rattle.std.proofs.Common.{◌≤◌}
use Rattle.packet_view.specs.Marks.{IsMark}
use Rattle.packet_view.proofs.record_marks.MarkedRecords.from_last_before.Given as goal

abbrev pub invariant-loop-mark : goal.invariant-loop-mark
invariant-loop-mark l = IsMark l.records.order l.records.bytes.now l.last × (l.last.count ≤ l.fn.count) × (l.last.count ≤ l.records.count)
