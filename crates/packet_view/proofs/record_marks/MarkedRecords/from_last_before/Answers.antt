use Rattle.packet_view.proofs.RecordListLemmas.{left_whole, mark_inside, packets_left}
use Rattle.packet_view.proofs.record_marks.MarkedRecords.from_last_before.Goals as goal

pub slice_bounds-rest-count : goal.slice_bounds-rest-count
slice_bounds-rest-count c =
    let records = c.args.self.now.records in
    let last = c.loop-mark.last in
    let (mark, before, within) = c.loop-mark.invariant in
    mark_inside records.order last.count records.count records.bytes.now last.at within mark records.whole

pub slice_bounds-rest-start : goal.slice_bounds-rest-start
slice_bounds-rest-start c = slice_bounds-rest-count c

pub invariant_of-rest : goal.invariant_of-rest
invariant_of-rest c =
    let records = c.args.self.now.records in
    let last = c.loop-mark.last in
    let (mark, before, within) = c.loop-mark.invariant in
    record { whole = left_whole records.order last.count records.count records.bytes.now last.at within mark records.whole }

pub returns-clause-from : goal.returns-clause-from
returns-clause-from c =
    let records = c.args.self.now.records in
    let last = c.loop-mark.last in
    let (mark, before, within) = c.loop-mark.invariant in
    packets_left records.order last.count records.count records.bytes.now last.at within mark records.whole records.interface
