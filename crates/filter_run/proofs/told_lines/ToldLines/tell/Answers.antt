use Rattle.std.proofs.Common.{◌∙◌, ◌+◌, List, ap, length, subst, sym, ℕ}
use Rattle.packet_view.specs.Captures.{PacketFacts}
use Rattle.session_state.specs.declared.verdict.Verdict.{Verdict}
use Rattle.racl_io.specs.Tellings.{HasToldText, lines_in}
use Rattle.filter_run.specs.Batches.{AreNumbers, JudgedBatch, batch_facts, listed}
use Rattle.filter_run.proofs.NumberLemmas.{numbers_given, text_plain}
use Rattle.filter_run.proofs.RunLemmas.{batch_count}
use Rattle.filter_run.proofs.told_lines.ToldLines.tell.Goals as goal

pub tell_numbered-requires-clause-numbers : goal.tell_numbered-requires-clause-numbers
tell_numbered-requires-clause-numbers g c =
    subst (AreNumbers (length c.args.said.now)) (sym c.deref.ensures.value)
    (subst (λ n. AreNumbers n c.in-Some.numbers.items) (sym (c.requires.each ∙ batch_count c.args.batch.now)) (numbers_given c.args.batch.now c.in-Some.numbers c.in-Some.is c.requires.whole.numbers))

pub returns-in-None-clause-told : goal.returns-in-None-clause-told
returns-in-None-clause-told g c =
    let old = c.args.self.now in
    let one : JudgedBatch Verdict = record { batch = batch_facts c.args.batch.now; said = c.args.said.now } in
    let text = ap (λ (ps : List PacketFacts). lines_in (g.L.Teller.wording old.teller.now) (c.args.batch.now.others + 1) ps c.args.said.now) c.packets-packets.ensures
    ∙ sym (text_plain (g.L.Teller.wording old.teller.now) one (ap listed c.in-None.is)) in
    subst (λ (t : List ℕ). HasToldText g.W.Sink.bytes g.W.Sink.failures old.writer.now c.tell.new.writer t c.tell.result) text c.tell.ensures.told
