use Rattle.std.proofs.Common.{subst, sym}
use Rattle.packet_view.specs.Captures.{RecordFacts}
use Rattle.racl_views.specs.ChosenRecords.{IsRecordOf}
use Rattle.racl_views.proofs.ChosenLemmas.{front_bytes}
use Rattle.racl_views.proofs.capture_of_chosen.record_to_choose.Goals as goal

pub returns-in-Whole-clause-some : goal.returns-in-Whole-clause-some
returns-in-Whole-clause-some c =
    let facts : RecordFacts = record { moment = c.in-Whole.moment; micros = c.in-Whole.micros; frame = c.in-Whole.frame.now } in (
      facts,
      subst (λ bytes. IsRecordOf c.args.order bytes facts) (sym c.split_at.ensures.front)
          (front_bytes c.args.order c.args.bytes.now facts c.in-Whole.rest.now c.in-Whole.ensures.shown),
      c.split_at.ensures.by_index.0,
    )
