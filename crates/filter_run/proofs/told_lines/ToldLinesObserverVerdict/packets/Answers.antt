use Rattle.session_state.specs.declared.verdict.Verdict.{Verdict}
use Rattle.filter_run.specs.Batches.{JudgedBatch, batch_facts}
use Rattle.filter_run.proofs.LineLemmas.{lines_heard}
use Rattle.filter_run.proofs.told_lines.ToldLinesObserverVerdict.packets.Goals as goal

pub returns : goal.returns
returns g c =
    let batch : JudgedBatch Verdict = record { batch = batch_facts c.args.batch.now; said = c.args.said.now } in
    let told = c.tell_counted.ensures in
    lines_heard g.L.Teller.wording g.W.Sink.bytes g.W.Sink.failures c.args.self.now c.tell_counted.new.self batch c.tell_counted.result told.same told.words told.told told.counts
