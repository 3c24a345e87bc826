use Rattle.std.proofs.Common.{◌≡◌, ◌∙◌, ◌+◌, List, ap, arith, length, subst, sym, vec_len}
use Rattle.packet_view.specs.Captures.{PacketFacts}
use Rattle.capture_stream.specs.declared.arrivals.FaultAt.{FaultAt}
use Rattle.filter_run.specs.Batches.{batch_facts}
use Rattle.filter_run.specs.Judges.{Follows}
use Rattle.filter_run.specs.Observers.{IsCutAt, TellsMore}
use Rattle.filter_run.specs.Ran.{IsRunFault, words_of}
use Rattle.filter_run.specs.Sources.{HasStepped}
use Rattle.filter_run.specs.inner.Steps.{IsGoing}
use Rattle.filter_run.proofs.RunLemmas.{batch_count, batch_whole, going_cut, going_give, going_may, going_more}
use Rattle.filter_run.proofs.running.run.Goals as goal

pub next-requires : goal.next-requires
next-requires g c =
    let words = words_of g.S.CaptureSource.gave g.S.CaptureSource.over g.S.CaptureSource.failed g.J.Judge.became g.O.Observer.told g.O.Observer.cut in
    going_give words c.args.source.now c.args.judge.now c.args.observer.now c.batches.source c.batches.judge c.batches.observer c.batches.batches c.batches.packets
    c.batches.invariant c.if-packets-lt-MOST.true

pub judge-requires : goal.judge-requires
judge-requires g c =
    let words = words_of g.S.CaptureSource.gave g.S.CaptureSource.over g.S.CaptureSource.failed g.J.Judge.became g.O.Observer.told g.O.Observer.cut in
    let step = subst (HasStepped g.S.CaptureSource.gave g.S.CaptureSource.over c.batches.source c.next.new.self) c.in-Ok-Batch.field-0-is c.in-Ok-Batch.ensures in
    let count = ap length c.packets.ensures ∙ batch_count c.in-Ok-Batch.batch in
    let few = step.0.few in
    going_may words c.args.source.now c.args.judge.now c.args.observer.now c.batches.source c.batches.judge c.batches.observer c.batches.batches c.batches.packets
    c.batches.invariant _ c.if-packets-lt-MOST.true (omega arith)

pub returns-in-Err-packets : goal.returns-in-Err-packets
returns-in-Err-packets g c =
    let words = words_of g.S.CaptureSource.gave g.S.CaptureSource.over g.S.CaptureSource.failed g.J.Judge.became g.O.Observer.told g.O.Observer.cut in
    let step = subst (HasStepped g.S.CaptureSource.gave g.S.CaptureSource.over c.batches.source c.next.new.self) c.in-Ok-Batch.field-0-is c.in-Ok-Batch.ensures in
    let batch = c.in-Ok-Batch.batch in
    let follows = subst (λ (ps : List PacketFacts). Follows g.J.Judge.became c.batches.judge ps c.in-Ok.said.items c.judge.new.self) c.packets.ensures c.in-Ok.ensures.follows in
    subst (λ (f : FaultAt). IsRunFault words c.args.source.now c.args.judge.now c.args.observer.now c.next.new.self c.packets-in-batches.new.self f) (sym c.at-in-Err-packets.ensures)
    (going_cut words c.args.source.now c.args.judge.now c.args.observer.now c.batches.source c.batches.judge c.batches.observer c.batches.batches c.batches.packets
    c.batches.invariant c.next.new.self c.judge.new.self (batch_facts batch) c.in-Ok.said.items step.1 follows (c.in-Ok.ensures.each ∙ ap length c.packets.ensures) (batch_whole batch step.0)
    c.packets-in-batches.new.self c.in-Err-packets.fault
    (subst (λ (vs : List _). IsCutAt g.O.Observer.told g.O.Observer.cut c.batches.observer (record { batch = batch_facts batch; said = vs }) c.in-Err-packets.fault
    c.packets-in-batches.new.self) c.deref.ensures.value c.in-Err-packets.ensures))

pub batches-preserved : goal.batches-preserved
batches-preserved g c =
    let words = words_of g.S.CaptureSource.gave g.S.CaptureSource.over g.S.CaptureSource.failed g.J.Judge.became g.O.Observer.told g.O.Observer.cut in
    let step = subst (HasStepped g.S.CaptureSource.gave g.S.CaptureSource.over c.batches.source c.next.new.self) c.in-Ok-Batch.field-0-is c.in-Ok-Batch.ensures in
    let batch = c.in-Ok-Batch.batch in
    let same : vec_len c.in-Ok.said ≡ length c.in-Ok.said.items = omega (arith, c.in-Ok.said.ok.0) in
    let follows = subst (λ (ps : List PacketFacts). Follows g.J.Judge.became c.batches.judge ps c.in-Ok.said.items c.judge.new.self) c.packets.ensures c.in-Ok.ensures.follows in
    subst (λ n. IsGoing words c.args.source.now c.args.judge.now c.args.observer.now c.next.new.self c.judge.new.self c.packets-in-batches.new.self (c.batches.batches + 1)
    (c.batches.packets + n)) (sym (c.len-packets.ensures ∙ same))
    (going_more words c.args.source.now c.args.judge.now c.args.observer.now c.batches.source c.batches.judge c.batches.observer c.batches.batches c.batches.packets
    c.batches.invariant c.next.new.self c.judge.new.self (batch_facts batch) c.in-Ok.said.items step.1 follows (c.in-Ok.ensures.each ∙ ap length c.packets.ensures) (batch_whole batch step.0)
    c.packets-in-batches.new.self
    (subst (λ (vs : List _). TellsMore g.O.Observer.told c.batches.observer (record { batch = batch_facts batch; said = vs }) c.packets-in-batches.new.self) c.deref.ensures.value
    c.in-Ok-packets.ensures))
