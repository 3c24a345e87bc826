use Rattle.std.proofs.Common.{◌∙◌, ◌+◌, ◌++◌, Err, List, ap, map, subst, sym, ℕ}
use Rattle.std.specs.Io.KnownBytes.{Appends}
use Rattle.packet_view.specs.CheckedCaptures.{remaining}
use Rattle.acl_policy.specs.Policies.{policy_facts}
use Rattle.racl_io.proofs.TellingLemmas.{told_put_as}
use Rattle.racl_views.specs.Objects.{object_lines}
use Rattle.racl_views.specs.PacketObjects.{packet_objects}
use Rattle.racl_views.specs.RuleTexts.{shown_of}
use Rattle.racl_views.specs.RunEntries.{told_from}
use Rattle.racl_views.specs.inner.EntryLists.{entries_on}
use Rattle.racl_views.proofs.PartLemmas.{lines_of_entries}
use Rattle.racl_views.proofs.json_report.ObjectLinesTeller.tell.Goals as goal

pub returns-in-Ok-write_all-clause-told : goal.returns-in-Ok-write_all-clause-told
returns-in-Ok-write_all-clause-told g c =
    let teller = c.args.self.now in
    let policy = policy_facts teller.policy.now in
    let rules = teller.table.rules.items in
    let packets = remaining c.args.packets in
    let n = c.args.others + 1 in
    let told = told_from (λ m entry. object_lines (packet_objects teller.shown (map shown_of teller.table.texts.items) m entry)) n (entries_on policy rules packets c.args.verdicts.now) in
    let same = lines_of_entries policy rules (λ m entry. object_lines (packet_objects teller.shown (map shown_of teller.table.texts.items) m entry)) n packets c.args.verdicts.now
    ∙ sym (c.deref.ensures.value ∙ c.in-Ok.ensures.told ∙ ap (λ (t : List ℕ). t ++ told) c.new-text.ensures.items) in (
      subst (λ (t : List ℕ). Appends (g.W.Sink.bytes c.args.writer.now) (g.W.Sink.bytes c.write_all.new.writer) t) (sym same) c.in-Ok-write_all.ensures.whole,
      c.in-Ok-write_all.ensures.ok,
    )

pub returns-clause-told : goal.returns-clause-told
returns-clause-told g c =
    let teller = c.args.self.now in
    let policy = policy_facts teller.policy.now in
    let rules = teller.table.rules.items in
    let packets = remaining c.args.packets in
    let n = c.args.others + 1 in
    let told = told_from (λ m entry. object_lines (packet_objects teller.shown (map shown_of teller.table.texts.items) m entry)) n (entries_on policy rules packets c.args.verdicts.now) in
    let same = lines_of_entries policy rules (λ m entry. object_lines (packet_objects teller.shown (map shown_of teller.table.texts.items) m entry)) n packets c.args.verdicts.now
    ∙ sym (c.deref.ensures.value ∙ c.in-Ok.ensures.told ∙ ap (λ (t : List ℕ). t ++ told) c.new-text.ensures.items) in
    let wrote = c.in-Err-write_all.ensures in
    told_put_as {A = ℕ} g.W.Sink.bytes g.W.Sink.failures c.args.writer.now c.write_all.new.writer _ _ (Err c.in-Err-write_all.fault) same tt tt wrote.failed wrote.fault wrote.front
