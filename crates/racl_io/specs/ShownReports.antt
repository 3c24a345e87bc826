-- The report: for one capture after the other the lines of the packets that are shown, what is told of a truncation, and the
-- totals; their numbers and the totals are those of all packets (this project's profile).
use Rattle.std.specs.Prelude.{ℕ, ◌+◌, List, [], ◌∷◌, ◌++◌, Option, take, drop, if◌then◌else◌}
use Rattle.session_state.specs.Passes.{is_shown}
use Rattle.session_state.specs.declared.verdict.Verdict.{Verdict}
use Rattle.racl_io.specs.declared.totals_and_truncation.Captured.{Captured}
use Rattle.session_state.specs.declared.shown_verdicts.Shown.{Shown}
use Rattle.racl_io.specs.Reports.{line_of, totals_line, totals_of, truncation_line}

-- the line of the packet with this number, where it has one
abbrev pub line_shown : Shown → Option ℕ → ℕ → Verdict → List ℕ
line_shown shown named n verdict = if is_shown shown verdict then line_of named n verdict else []

-- the lines among packets whose numbers begin with n
abbrev pub lines_shown : Shown → Option ℕ → ℕ → List Verdict → List ℕ
lines_shown shown named n [] = []
lines_shown shown named n (verdict ∷ verdicts) = line_shown shown named n verdict ++ lines_shown shown named (n + 1) verdicts

-- What is told of captures, one after the other, of whose packets the first has the number n. Each has its packets' verdicts
-- from the front of the list.
abbrev pub captures_shown : Shown → ℕ → List Verdict → List Captured → List ℕ
captures_shown shown n verdicts [] = []
captures_shown shown n verdicts (captured ∷ captures) =
    lines_shown shown captured.named n (take captured.packets verdicts)
    ++ (truncation_line captured.named captured.truncated captured.packets
    ++ captures_shown shown (n + captured.packets) (drop captured.packets verdicts) captures)

abbrev pub report_shown : Shown → List Verdict → List Captured → List ℕ
report_shown shown verdicts captures = captures_shown shown 1 verdicts captures ++ totals_line (totals_of verdicts captures)
