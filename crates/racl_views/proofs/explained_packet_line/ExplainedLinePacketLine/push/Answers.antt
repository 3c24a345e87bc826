use Rattle.std.proofs.Common.{◌≡◌, ◌∙◌, ◌++◌, Bool, List, [], Option, ap, cond, map, rules, subst, sym, true, ℕ}
use Rattle.packet_view.specs.Captures.{packet_facts}
use Rattle.session_state.specs.Passes.{is_shown}
use Rattle.racl_views.specs.declared.rule_table.RuleText.{RuleText}
use Rattle.racl_views.specs.Entries.{EntryFacts, entry_facts}
use Rattle.racl_views.specs.ExplainedLines.{explained_line}
use Rattle.racl_views.specs.RuleTexts.{shown_of}
use Rattle.racl_views.specs.inner.EntryLists.{AreAtPlaces}
use Rattle.racl_views.specs.inner.Tellings.{entry_by, name_for, texts_by}
use Rattle.racl_views.proofs.explained_packet_line.ExplainedLinePacketLine.push.Goals as goal

pub returns : goal.returns
returns c =
    let told = c.args.self.now in
    let telling = told.telling in
    let table = telling.table.now in
    let n = c.args.number in
    let line = λ (entry : EntryFacts). explained_line (texts_by telling) (name_for told.names entry) n entry in
    let there = entry_by telling (packet_facts c.args.packet) c.args.verdict in
    let here = entry_facts c.entry_of-entry.result in
    let placed = subst (λ (lines : List ℕ). AreAtPlaces lines table.rules.items) (sym c.deref.ensures.value) table.placed in
    let entry : here ≡ there = c.entry_of-entry.ensures table.rules.items placed in
    let shown : is_shown telling.shown c.args.verdict ≡ true = search rules in
    let text = ap (λ (b : Bool). cond b (line there) []) shown ∙ ap line (sym entry) in
    let made = ap (λ (ts : List RuleText). explained_line (map shown_of ts) c.name_for.result n here) c.deref-2.ensures.value
    ∙ ap (λ (named : Option ℕ). explained_line (texts_by telling) named n here) c.name_for.ensures in
    c.push_explained.ensures.text ∙ ap (λ (t : List ℕ). c.args.piece.now ++ t) (made ∙ sym text)
