use Rattle.std.proofs.Common.{refl, subst, sym}
use Rattle.packet_view.specs.Captures.{RecordFacts}
use Rattle.capture_shards.specs.OwnRecords.{IsWholeRecord}
use Rattle.capture_shards.proofs.OwnRecordLemmas.{front_bytes}
use Rattle.capture_shards.proofs.own_records.front_record.Goals as goal

pub returns-in-Whole-clause-some : goal.returns-in-Whole-clause-some
returns-in-Whole-clause-some c =
    let facts : RecordFacts = record { moment = c.in-Whole.moment; micros = c.in-Whole.micros; frame = c.in-Whole.frame.now } in
    record {
      facts = facts;
      one = subst (λ bytes. IsWholeRecord c.args.order bytes facts) (sym c.split_at.ensures.front)
          (front_bytes c.args.order c.args.bytes.now facts c.in-Whole.rest.now c.in-Whole.ensures.shown);
      same = refl;
      whole = c.split_at.ensures.by_index.0;
    }
