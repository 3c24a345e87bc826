use Rattle.std.proofs.Common.{◌≡◌, ◌∙◌, ◌+◌, List, ap, length, map, refl, subst, sym}
use Rattle.std.specs.Io.KnownBytes.{Appends}
use Rattle.session_state.specs.declared.verdict.Verdict.{Verdict}
use Rattle.racl_io.specs.Sinks.{GotFront}
use Rattle.racl_io.specs.Tellings.{IsTellingFault, with_write}
use Rattle.filter_run.specs.Batches.{JudgedBatch, batch_facts}
use Rattle.compared_verdicts.specs.Changes.{change_facts, pair_facts}
use Rattle.compared_verdicts.specs.ChangeReports.{with_changes}
use Rattle.compared_verdicts.specs.declared.change_lines.Change.{Change}
use Rattle.compared_verdicts.specs.declared.change_totals.ChangeTotals.{ChangeTotals}
use Rattle.compared_verdicts.specs.inner.ChangeLines.{lines_told}
use Rattle.compared_verdicts.specs.inner.Totals.{HasRoom}
use Rattle.compared_verdicts.proofs.ChangesToldLemmas.{changes_are, changes_more, changes_room, changes_unwritten}
use Rattle.compared_verdicts.proofs.changes_told.ChangeLinesObserverTuple2VerdictVerdict.packets.Goals as goal

pub count_changes-requires : goal.count_changes-requires
count_changes-requires g c =
    let old = c.args.self.now in
    let said = c.args.said.now in
    let one : JudgedBatch (Verdict × Verdict) = record { batch = batch_facts c.args.batch.now; said = said } in
    let changes = c.in-Ok.changes.items in
    let are = changes_are (pair_facts old.policies) one _ changes c.in-Ok.ensures c.packets.ensures in
    subst (λ (cs : List Change). HasRoom old.totals (length cs)) (sym c.deref-2.ensures.value)
    (changes_room g.W.Sink.bytes g.W.Sink.failures old one changes are c.requires.may)

pub returns-in-Err-write_changes : goal.returns-in-Err-write_changes
returns-in-Err-write_changes g c =
    let old = c.args.self.now in
    let said = c.args.said.now in
    let one : JudgedBatch (Verdict × Verdict) = record { batch = batch_facts c.args.batch.now; said = said } in
    let changes = c.in-Ok.changes.items in
    let are = changes_are (pair_facts old.policies) one _ changes c.in-Ok.ensures c.packets.ensures in
    let put = c.in-Err-write_changes.ensures in
    let before = g.W.Sink.bytes old.writer.now in
    let after = g.W.Sink.bytes c.write_changes.new.writer in
    let policy = (pair_facts old.policies).after in
    changes_unwritten g.W.Sink.bytes g.W.Sink.failures old _ one changes are (record { policies = refl; writer = refl }) c.in-Err-write_changes.fault
    (subst (IsTellingFault before after (lines_told policy changes)) (sym put.3)
    (subst (λ (cs : List Change). GotFront before after (lines_told policy cs)) c.deref.ensures.value put.4))
    (subst (λ f. g.W.Sink.failures c.write_changes.new.writer ≡ with_write (g.W.Sink.failures old.writer.now) f) (sym put.3) put.2)

pub returns : goal.returns
returns g c =
    let old = c.args.self.now in
    let said = c.args.said.now in
    let one : JudgedBatch (Verdict × Verdict) = record { batch = batch_facts c.args.batch.now; said = said } in
    let changes = c.in-Ok.changes.items in
    let are = changes_are (pair_facts old.policies) one _ changes c.in-Ok.ensures c.packets.ensures in
    let before = g.W.Sink.bytes old.writer.now in
    let after = g.W.Sink.bytes c.write_changes.new.writer in
    let policy = (pair_facts old.policies).after in
    changes_more g.W.Sink.bytes g.W.Sink.failures old _ one changes are (record { policies = refl; writer = refl })
    (subst (λ (cs : List Change). Appends before after (lines_told policy cs)) c.deref.ensures.value c.in-Ok-write_changes.ensures.0)
    c.in-Ok-write_changes.ensures.1
    (ap (λ (t : ChangeTotals). record t { packets = t.packets + length said })
    (c.count_changes.ensures ∙ ap (λ (cs : List Change). with_changes old.totals (map change_facts cs)) c.deref-2.ensures.value))
