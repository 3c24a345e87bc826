use Rattle.std.proofs.Common.{refl}
use Rattle.session_state.specs.declared.verdict.Verdict.{Verdict}
use Rattle.filter_run.specs.Batches.{JudgedBatch, batch_facts}
use Rattle.filter_run.proofs.SaveLemmas.{saves_may, saves_other, saves_saved}
use Rattle.filter_run.proofs.saved_records.SavedRecordsObserverVerdict.packets.Goals as goal

pub returns-then-not-are_same : goal.returns-then-not-are_same
returns-then-not-are_same g c =
    let batch : JudgedBatch Verdict = record { batch = batch_facts c.args.batch.now; said = c.args.said.now } in
    saves_other g.K.Saver.saved g.K.Saver.failures c.args.self.now batch (c.if-not-are_same.ensures.differ refl)

pub save-requires : goal.save-requires
save-requires g c =
    saves_may g.K.Saver.saved g.K.Saver.failures c.args.self.now c.args.batch.now c.records.result.now c.args.said.now _ c.requires.may c.requires.whole
    (c.if-not-are_same.ensures.same refl) c.records.ensures c.requires.each

pub returns : goal.returns
returns g c =
    let batch : JudgedBatch Verdict = record { batch = batch_facts c.args.batch.now; said = c.args.said.now } in
    saves_saved g.K.Saver.saved g.K.Saver.failures c.args.self.now _ batch c.records.result.now c.save.result refl refl (c.if-not-are_same.ensures.same refl) c.records.ensures
    c.save.ensures.saved c.save.ensures.fault c.save.ensures.steady c.save.ensures.failed
