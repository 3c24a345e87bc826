use Rattle.std.proofs.Common.{rules, refl}
use Rattle.filter_run.proofs.TurnReportLemmas.{lent_turns}
use Rattle.filter_run.proofs.turn_report.report_in_turn.Goals as goal

pub returns-in-Ok-clause-told : goal.returns-in-Ok-clause-told
returns-in-Ok-clause-told g c =
    let ran = c.in-Ok.ensures in
    let lines = ran.told.same in
    lent_turns g.J.Judge.became g.J.Judge.judged g.L.Teller.wording g.W.Sink.bytes g.W.Sink.failures _ c.run.new.source c.args.judges _ c.run.new.observer
    c.args.teller.now c.args.writer.now _ c.run.new.judge c.in-Ok.field-0.items
    (record { judges = c.run.new.judge.inner; totals = c.totals-totals.result; latest = c.run.new.source.latest }) c.is_truncated.result ran c.is_truncated.ensures
    c.totals-totals.ensures refl refl (record { words = c.new.ensures.teller; writes = c.new.ensures.writer; wrote_is = search rules })
