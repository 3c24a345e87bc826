-- How packets are told one part after the other.
use Rattle.std.specs.Prelude.{ℕ, Bool, List}
use Rattle.session_state.specs.declared.shown_verdicts.Shown.{Shown}
use Rattle.acl_policy.specs.Policies.{PolicyFacts}
use Rattle.racl_io.specs.declared.totals_and_truncation.Captured.{Captured}
use Rattle.racl_io.specs.declared.totals_and_truncation.Totals.{Totals}
use Rattle.racl_io.specs.Reports.{totals_line}
use Rattle.racl_io.specs.Tellings.{Wording, truncation_of}
use Rattle.racl_views.specs.declared.rule_numbering.RuleLine.{RuleLine}
use Rattle.racl_views.specs.Entries.{EntryFacts}
use Rattle.racl_views.specs.ExplainedLines.{shown_line}
use Rattle.racl_views.specs.Objects.{object_line, object_lines}
use Rattle.racl_views.specs.PacketObjects.{packet_objects, totals_object}
use Rattle.racl_views.specs.inner.EntryLists.{entry_on}
use Rattle.racl_views.specs.inner.Tellings.{name_for, truncation_by}

-- each packet by its entry, what is told of a capture that ended, and of all packets
abbrev pub wording_by : PolicyFacts → List RuleLine → (ℕ → EntryFacts → List ℕ) → (Captured → List ℕ) → (Totals → List ℕ) → Wording
wording_by policy rules tell cut all = record { line = λ n packet verdict. tell n (entry_on policy rules packet verdict); cut = cut; all = all }

-- in explained lines, each of which names its packet's interface, or none does
abbrev pub explained_wording : Shown → Bool → PolicyFacts → List RuleLine → List (List ℕ) → Wording
explained_wording shown names policy rules texts =
    wording_by policy rules (λ n entry. shown_line shown texts (name_for names entry) n entry) truncation_of totals_line

-- in objects
abbrev pub objects_wording : Shown → PolicyFacts → List RuleLine → List (List ℕ) → Wording
objects_wording shown policy rules texts =
    wording_by policy rules (λ n entry. object_lines (packet_objects shown texts n entry)) truncation_by (λ totals. object_line (totals_object totals))
