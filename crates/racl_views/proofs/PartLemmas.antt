-- Packets that are told one part after the other are told as in the report.
use Rattle.std.proofs.Common.{◌≡◌, ◌∙◌, ◌++◌, ◌+◌, ℕ, true, false, List, [], ◌∷◌, None, Option, Some, append-nil, ap, ap₂, drop, refl, sym, take}
use Rattle.std.specs.List.{AllByRecursion}
use Rattle.json.specs.Json.{Json}
use Rattle.packet_view.specs.Captures.{PacketFacts}
use Rattle.acl_policy.specs.Policies.{PolicyFacts}
use Rattle.session_state.specs.declared.verdict.Verdict.{Verdict}
use Rattle.racl_io.specs.declared.totals_and_truncation.Captured.{Captured}
use Rattle.racl_io.specs.declared.totals_and_truncation.Totals.{Totals}
use Rattle.racl_io.specs.Reports.{totals_line, totals_of}
use Rattle.racl_io.specs.Tellings.{AreNamedBy, lines_by, no_name, own_name, report_in, truncation_of, turns_in}
use Rattle.racl_views.specs.declared.rule_numbering.RuleLine.{RuleLine}
use Rattle.racl_views.specs.Entries.{EntryFacts}
use Rattle.racl_views.specs.ExplainedLines.{IsExplained, shown_line}
use Rattle.racl_views.specs.Objects.{object_line, object_lines}
use Rattle.racl_views.specs.PacketObjects.{IsToldInObjects, packet_objects, totals_object, truncation_objects}
use Rattle.racl_views.specs.PartTellings.{AreExplainedLines, AreNamedLines, AreObjectLines, TellsRun, ToldBy, run_by}
use Rattle.racl_views.specs.RuleLines.{AreRules}
use Rattle.racl_views.specs.RuleTexts.{rule_texts}
use Rattle.racl_views.specs.RunEntries.{captures_told, told_from}
use Rattle.racl_views.specs.inner.EntryLists.{entries_on, entry_on}
use Rattle.racl_views.specs.inner.PartWordings.{explained_wording, objects_wording}
use Rattle.racl_views.specs.inner.Tellings.{truncation_by}
use Rattle.racl_views.proofs.EntryLemmas.{entries-drop, entries-take, entries_by_rules}
use Rattle.racl_views.proofs.ObjectLemmas.{lines_from, lines_of_captures, object_lines-append}

-- what is told of packets is told of their entries
pub lines_of_entries : (policy : PolicyFacts) (rules : List RuleLine) (tell : ℕ → EntryFacts → List ℕ) (n : ℕ) (packets : List PacketFacts)
    (verdicts : List Verdict)
    → lines_by (λ m packet verdict. tell m (entry_on policy rules packet verdict)) n packets verdicts ≡ told_from tell n (entries_on policy rules packets verdicts)
lines_of_entries policy rules tell n [] verdicts = refl
lines_of_entries policy rules tell n (packet ∷ packets) [] = refl
lines_of_entries policy rules tell n (packet ∷ packets) (verdict ∷ verdicts) =
    ap (λ (t : List ℕ). tell n (entry_on policy rules packet verdict) ++ t) (lines_of_entries policy rules tell (n + 1) packets verdicts)

-- and of packets that are named so
lines_of_named : (policy : PolicyFacts) (rules : List RuleLine) (name : PacketFacts → Option ℕ) (tell : Option ℕ → ℕ → EntryFacts → List ℕ) (named : Option ℕ) (n : ℕ)
    (packets : List PacketFacts) (verdicts : List Verdict) → AllByRecursion (λ packet. name packet ≡ named) packets
    → lines_by (λ m packet verdict. tell (name packet) m (entry_on policy rules packet verdict)) n packets verdicts
    ≡ told_from (tell named) n (entries_on policy rules packets verdicts)
lines_of_named policy rules name tell named n [] verdicts are = refl
lines_of_named policy rules name tell named n (packet ∷ packets) [] are = refl
lines_of_named policy rules name tell named n (packet ∷ packets) (verdict ∷ verdicts) are =
    ap₂ (λ (a : Option ℕ) (t : List ℕ). tell a n (entry_on policy rules packet verdict) ++ t) are.0
    (lines_of_named policy rules name tell named (n + 1) packets verdicts are.1)

-- captures in turn are told by their entries, as their packets are named
turns_told : (policy : PolicyFacts) (rules : List RuleLine) (name : PacketFacts → Option ℕ) (tell : Option ℕ → ℕ → EntryFacts → List ℕ) (cut : Captured → List ℕ)
    (all : Totals → List ℕ) (n : ℕ) (packets : List PacketFacts) (verdicts : List Verdict) (captures : List Captured) → AreNamedBy name packets captures
    → turns_in (record { line = λ m packet verdict. tell (name packet) m (entry_on policy rules packet verdict); cut = cut; all = all }) n packets verdicts captures
    ≡ captures_told (λ captured. tell captured.named) cut n (entries_on policy rules packets verdicts) captures
turns_told policy rules name tell cut all n packets verdicts [] named = refl
turns_told policy rules name tell cut all n packets verdicts (captured ∷ captures) named =
    let k = captured.packets in
    ap₂ (λ (a b : List ℕ). a ++ (cut captured ++ b))
    (lines_of_named policy rules name tell captured.named n (take k packets) (take k verdicts) named.0
    ∙ ap (told_from (tell captured.named) n) (sym (entries-take policy rules k packets verdicts)))
    (turns_told policy rules name tell cut all (n + k) (drop k packets) (drop k verdicts) captures named.1
    ∙ ap (λ (es : List EntryFacts). captures_told (λ c. tell c.named) cut (n + k) es captures) (sym (entries-drop policy rules k packets verdicts)))

-- explained lines, by the rules of the text
pub explained_tells : (by : ToldBy) (rules : List RuleLine) → AreRules by.text rules
    → TellsRun no_name AreExplainedLines IsExplained by (explained_wording by.shown false by.policy rules (rule_texts by.text))
explained_tells by rules are = record {
  lines = λ packets verdicts each. (
    entries_on by.policy rules packets verdicts,
    entries_by_rules (run_by by packets verdicts []) rules are,
    lines_of_entries by.policy rules (shown_line by.shown (rule_texts by.text) None) 1 packets verdicts,
  );
  report = λ packets verdicts captures each named. (
    entries_on by.policy rules packets verdicts,
    entries_by_rules (run_by by packets verdicts captures) rules are,
    ap (λ (t : List ℕ). t ++ totals_line (totals_of verdicts captures))
        (turns_told by.policy rules no_name (shown_line by.shown (rule_texts by.text)) truncation_of totals_line 1 packets verdicts captures named),
  );
}

-- those that name interfaces
pub explained_names_tell : (by : ToldBy) (rules : List RuleLine) → AreRules by.text rules
    → TellsRun own_name AreNamedLines IsExplained by (explained_wording by.shown true by.policy rules (rule_texts by.text))
explained_names_tell by rules are = record {
  lines = λ packets verdicts each. (
    entries_on by.policy rules packets verdicts,
    entries_by_rules (run_by by packets verdicts []) rules are,
    lines_of_entries by.policy rules (λ n entry. shown_line by.shown (rule_texts by.text) (Some entry.interface) n entry) 1 packets verdicts,
  );
  report = λ packets verdicts captures each named. (
    entries_on by.policy rules packets verdicts,
    entries_by_rules (run_by by packets verdicts captures) rules are,
    ap (λ (t : List ℕ). t ++ totals_line (totals_of verdicts captures))
        (turns_told by.policy rules own_name (shown_line by.shown (rule_texts by.text)) truncation_of totals_line 1 packets verdicts captures named),
  );
}

-- objects, which are the same however packets are named
pub objects_tell : (by : ToldBy) (rules : List RuleLine) → AreRules by.text rules → (name : PacketFacts → Option ℕ)
    → TellsRun name AreObjectLines IsToldInObjects by (objects_wording by.shown by.policy rules (rule_texts by.text))
objects_tell by rules are name = record {
  lines = λ packets verdicts each. (
    entries_on by.policy rules packets verdicts,
    entries_by_rules (run_by by packets verdicts []) rules are,
    lines_of_entries by.policy rules (λ n entry. object_lines (objects n entry)) 1 packets verdicts ∙ sym (lines_from objects 1 (entries_on by.policy rules packets verdicts)),
  );
  report = λ packets verdicts captures each named. (
    entries_on by.policy rules packets verdicts,
    entries_by_rules (run_by by packets verdicts captures) rules are,
    whole packets verdicts captures named,
  );
}
  where
    objects : ℕ → EntryFacts → List Json
    objects = packet_objects by.shown (rule_texts by.text)

    whole : (packets : List PacketFacts) (verdicts : List Verdict) (captures : List Captured) → AreNamedBy name packets captures
        → report_in (objects_wording by.shown by.policy rules (rule_texts by.text)) packets verdicts captures
        ≡ object_lines (captures_told (λ captured. packet_objects by.shown (rule_texts by.text)) truncation_objects 1 (entries_on by.policy rules packets verdicts) captures
        ++ totals_object (totals_of verdicts captures) ∷ [])
    whole packets verdicts captures named =
        let entries = entries_on by.policy rules packets verdicts in
        let told = captures_told (λ captured. packet_objects by.shown (rule_texts by.text)) truncation_objects 1 entries captures in
        let totals = totals_object (totals_of verdicts captures) in
        ap₂ (λ (a b : List ℕ). a ++ b)
        (turns_told by.policy rules name (λ named n entry. object_lines (packet_objects by.shown (rule_texts by.text) n entry)) truncation_by
        (λ t. object_line (totals_object t)) 1 packets verdicts captures named
        ∙ sym (lines_of_captures (λ captured. packet_objects by.shown (rule_texts by.text)) truncation_objects 1 entries captures))
        (sym (append-nil (object_line totals)))
        ∙ sym (object_lines-append told (totals ∷ []))
