-- A line of the report that says of its packet what it is, and which rule decided it (this project's profile).
use Rattle.std.specs.Prelude.{◌≡◌, ℕ, ◌==◌, ◌-◌, List, [], ◌++◌, Option, codes, decimal, get_or, if◌then◌else◌}
use Rattle.session_state.specs.declared.verdict.Verdict.{Verdict}
use Rattle.session_state.specs.declared.shown_verdicts.Shown.{Shown}
use Rattle.racl_io.specs.Reports.{name_of, text_of, totals_line, totals_of, truncation_line}
use Rattle.session_state.specs.Passes.{is_shown}
use Rattle.packet_words.specs.PacketTexts.{packet_told}
use Rattle.packet_words.specs.PacketWords.{numbered}
use Rattle.racl_views.specs.Entries.{EntryFacts}
use Rattle.racl_views.specs.RuleTexts.{rule_texts}
use Rattle.racl_views.specs.RunEntries.{HasEntries, RunFacts, captures_told}

-- the deciding rule's line and its text, which is one of these
abbrev pub decided_text : List (List ℕ) → ℕ → List ℕ
decided_text texts line =
    if line == 0 then [] else numbered (codes " | line ") line ++ (codes " " ++ get_or texts (line - 1) [])

-- the report's line of the packet with this number, without its line feed
abbrev pub head_of : Option ℕ → ℕ → Verdict → List ℕ
head_of named n verdict = decimal n ++ (codes " " ++ (name_of named ++ text_of verdict))

-- the whole line
abbrev pub explained_line : List (List ℕ) → Option ℕ → ℕ → EntryFacts → List ℕ
explained_line texts named n entry =
    head_of named n entry.verdict
    ++ (packet_told entry.interface entry.moment entry.view ++ (decided_text texts entry.line ++ codes "\n"))

-- where it is shown
abbrev pub shown_line : Shown → List (List ℕ) → Option ℕ → ℕ → EntryFacts → List ℕ
shown_line shown texts named n entry = if is_shown shown entry.verdict then explained_line texts named n entry else []

-- what is told of a run in explained lines: those of all packets that are shown, of truncations and of the totals
abbrev pub IsExplained : RunFacts → List ℕ → Type 0
IsExplained run told = (entries : List EntryFacts) × HasEntries run entries
    × (told ≡ captures_told (λ captured. shown_line run.shown (rule_texts run.text) captured.named)
    (λ captured. truncation_line captured.named captured.truncated captured.packets) 1 entries run.captures
    ++ totals_line (totals_of run.verdicts run.captures))
