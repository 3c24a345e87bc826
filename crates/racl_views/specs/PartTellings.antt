-- Packets of a run that are told one part after the other, while its captures come (this project's profile).
use Rattle.std.specs.Prelude.{◌≡◌, ℕ, List, [], None, Option, Some, length}
use Rattle.packet_view.specs.Captures.{PacketFacts}
use Rattle.acl_policy.specs.Policies.{PolicyFacts}
use Rattle.session_state.specs.declared.shown_verdicts.Shown.{Shown}
use Rattle.session_state.specs.declared.verdict.Verdict.{Verdict}
use Rattle.racl_io.specs.declared.totals_and_truncation.Captured.{Captured}
use Rattle.racl_io.specs.Tellings.{AreNamedBy, Wording, lines_in, report_in}
use Rattle.racl_views.specs.Entries.{EntryFacts}
use Rattle.racl_views.specs.ExplainedLines.{shown_line}
use Rattle.racl_views.specs.Objects.{object_lines}
use Rattle.racl_views.specs.PacketObjects.{packet_objects}
use Rattle.racl_views.specs.RuleTexts.{rule_texts}
use Rattle.racl_views.specs.RunEntries.{HasEntries, RunFacts, told_from}

-- the explained lines of a run's packets alone, whose interface isn't named
abbrev pub AreExplainedLines : RunFacts → List ℕ → Type 0
AreExplainedLines run told =
    (entries : List EntryFacts) × HasEntries run entries × (told ≡ told_from (shown_line run.shown (rule_texts run.text) None) 1 entries)

-- those that name each packet's own interface
abbrev pub AreNamedLines : RunFacts → List ℕ → Type 0
AreNamedLines run told = (entries : List EntryFacts) × HasEntries run entries
    × (told ≡ told_from (λ n entry. shown_line run.shown (rule_texts run.text) (Some entry.interface) n entry) 1 entries)

-- the objects of its packets alone
abbrev pub AreObjectLines : RunFacts → List ℕ → Type 0
AreObjectLines run told =
    (entries : List EntryFacts) × HasEntries run entries × (told ≡ object_lines (told_from (packet_objects run.shown (rule_texts run.text)) 1 entries))

-- a policy, with its text, and which packets are shown
pub record ToldBy : Type 0 where
  pub policy : PolicyFacts
  pub text : List ℕ
  pub shown : Shown

abbrev pub run_by : ToldBy → List PacketFacts → List Verdict → List Captured → RunFacts
run_by by packets verdicts captures =
    record { policy = by.policy; text = by.text; packets = packets; verdicts = verdicts; captures = captures; shown = by.shown }

-- What is told of the first packets of captures is their lines; and all that is told of captures in turn, whose packets are named
-- so, is the report on them.
pub record TellsRun (name : PacketFacts → Option ℕ) (Lines Report : RunFacts → List ℕ → Type 0) (by : ToldBy) (wording : Wording) : Type 0 where
  pub lines : (packets : List PacketFacts) (verdicts : List Verdict) → length verdicts ≡ length packets
      → Lines (run_by by packets verdicts []) (lines_in wording 1 packets verdicts)
  pub report : (packets : List PacketFacts) (verdicts : List Verdict) (captures : List Captured) → length verdicts ≡ length packets
      → AreNamedBy name packets captures
      → Report (run_by by packets verdicts captures) (report_in wording packets verdicts captures)
