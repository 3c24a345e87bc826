use Rattle.session_state.specs.declared.verdict.Verdict.{Verdict}
use Rattle.filter_run.specs.Batches.{JudgedBatch, batch_facts}
use Rattle.filter_run.proofs.TurnLineLemmas.{in_turn_heard}
use Rattle.filter_run.proofs.lines_in_turn.LinesInTurnObserverVerdict.packets.Goals as goal

pub returns-in-Ok : goal.returns-in-Ok
returns-in-Ok g c =
    let batch : JudgedBatch Verdict = record { batch = batch_facts c.args.batch.now; said = c.args.said.now } in
    let first = c.in-Ok.ensures in
    let last = c.tell_next_end.ensures in
    in_turn_heard g.L.Teller.wording g.W.Sink.bytes g.W.Sink.failures c.args.self.now c.tell_counted.new.self batch first.same first.words first.told.0 first.told.1 first.counts
    c.tell_next_end.new.self c.tell_next_end.result last.same last.words last.told last.counts last.captures last.given
