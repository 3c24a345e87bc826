use Rattle.std.proofs.Common.{◌+◌, ◌-◌, ◌≤◌, length}
use Rattle.capture_shards.specs.inner.OwnTests.{own_of}
use Rattle.capture_shards.proofs.OwnRecordLemmas.{HaveFoundSo}
use Rattle.capture_shards.proofs.own_records.records_of_shard.Given as goal

-- those of the records so far
abbrev pub invariant-records : goal.invariant-records
invariant-records l = record {
  after : l.fn.others ≤ l.number;
  few : l.number + length l.rest ≤ l.fn.others + length l.fn.records;
  found : HaveFoundSo (own_of l.fn.shard) l.fn.order (l.fn.others + 1) l.fn.records (l.number + 1) l.rest
      (record { bytes = l.bytes.items; numbers = l.numbers.items; all = l.number - l.fn.others; latest = l.latest });
}

abbrev pub decreases-records : goal.decreases-records
decreases-records l = length l.rest
