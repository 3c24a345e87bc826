-- What is told while packets are told.
use Rattle.std.specs.Prelude.{◌≡◌, ℕ, Bool, if◌then◌else◌, List, None, Option, Some, map}
use Rattle.packet_view.specs.Captures.{PacketFacts}
use Rattle.acl_policy.specs.Policies.{IsPolicyText, PolicyFacts, policy_facts}
use Rattle.session_state.specs.declared.verdict.Verdict.{Verdict}
use Rattle.racl_io.specs.declared.totals_and_truncation.Captured.{Captured}
use Rattle.racl_views.specs.declared.rule_table.RuleTable.{RuleTable}
use Rattle.racl_views.specs.declared.run_and_verdicts.Telling.{Telling}
use Rattle.racl_views.specs.Entries.{EntryFacts}
use Rattle.racl_views.specs.ExplainedLines.{shown_line}
use Rattle.racl_views.specs.Objects.{object_lines}
use Rattle.racl_views.specs.PacketObjects.{packet_objects, truncation_objects}
use Rattle.racl_views.specs.RuleLines.{AreRules}
use Rattle.racl_views.specs.RuleTexts.{rule_texts, shown_of}
use Rattle.racl_views.specs.inner.EntryLists.{entries_on, entry_on}

-- what is shown of each line of the policy
abbrev pub texts_by : Telling → List (List ℕ)
texts_by t = map shown_of t.table.now.texts.items

-- the interface that a packet's line names, where it names one
abbrev pub name_for : Bool → EntryFacts → Option ℕ
name_for names entry = if names then Some entry.interface else None

-- the explained line of a packet, where it is shown
abbrev pub line_named : Telling → Bool → ℕ → EntryFacts → List ℕ
line_named t names n entry = shown_line t.shown (texts_by t) (name_for names entry) n entry

-- the line of its object, where it is shown
abbrev pub object_by : Telling → ℕ → EntryFacts → List ℕ
object_by t n entry = object_lines (packet_objects t.shown (texts_by t) n entry)

-- that of the object of a capture that is truncated
abbrev pub truncation_by : Captured → List ℕ
truncation_by captured = object_lines (truncation_objects captured)

-- the entries of packets with these verdicts
abbrev pub entries_by : Telling → List PacketFacts → List Verdict → List EntryFacts
entries_by t packets verdicts = entries_on (policy_facts t.policy.now) t.table.now.rules.items packets verdicts

-- the entry of a packet
abbrev pub entry_by : Telling → PacketFacts → Verdict → EntryFacts
entry_by t packet verdict = entry_on (policy_facts t.policy.now) t.table.now.rules.items packet verdict

-- the table has the rules of a policy's text, and what is shown of its lines
abbrev pub IsTableOf : List ℕ → RuleTable → Type 0
IsTableOf text table =
    (policy : PolicyFacts) → IsPolicyText text policy → AreRules text table.rules.items × (map shown_of table.texts.items ≡ rule_texts text)
