use Rattle.std.proofs.Common.{◌+◌, ap, arith, subst}
use Rattle.packet_view.specs.CheckedCaptures.{records_of}
use Rattle.packet_view.specs.Fronts.{Stops}
use Rattle.packet_view.proofs.RecordListLemmas.{packets_count, records_within}
use Rattle.packet_view.proofs.capture.check_records.Goals as goal

pub overflow_add-result : goal.overflow_add-result
overflow_add-result c =
    let front = c.front_records-stop.result in
    let count = packets_count front.records.order front.records.count front.records.bytes.now in
    let few = records_within c.args.order c.args.bytes.now (records_of front.records) front.rest.now c.front_records-stop.ensures.records in
    omega arith

pub returns-in-TooLong-clause-checks : goal.returns-in-TooLong-clause-checks
returns-in-TooLong-clause-checks c =
    let front = c.front_records-stop.result in (
      records_of front.records,
      front.rest.now,
      c.front_records-stop.ensures.records,
      subst (Stops c.args.order front.rest.now) c.in-TooLong.is c.front_records-stop.ensures.stop,
      ap (λ n. n + 1) (packets_count front.records.order front.records.count front.records.bytes.now),
    )
