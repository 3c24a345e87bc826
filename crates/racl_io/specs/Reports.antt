-- The report's lines: of packets, of a truncation, and the totals over all captures (this project's profile).
use Rattle.std.specs.Prelude.{ℕ, ◌+◌, Bool, true, false, not, List, [], ◌∷◌, ◌++◌, Option, None, Some, length, codes, decimal, count_by}
use Rattle.std.specs.List.{list_any}
use Rattle.session_state.specs.Passes.{passes}
use Rattle.session_state.specs.declared.verdict.Verdict.{Verdict}
use Rattle.session_state.specs.declared.verdict.Verdict.TheVariants.{Session, Reflect, Permit, Deny, ByDefault, Worn, Full, NoPages, NotIp, Malformed, Short}
use Rattle.racl_io.specs.declared.totals_and_truncation.Captured.{Captured}
use Rattle.racl_io.specs.declared.totals_and_truncation.Totals.{Totals}

abbrev pub text_of : Verdict → List ℕ
text_of Session = codes "pass session"
text_of (Reflect n) = codes "pass rule " ++ (decimal n ++ codes " reflect")
text_of (Permit n) = codes "pass rule " ++ decimal n
text_of (Deny n) = codes "drop rule " ++ decimal n
text_of ByDefault = codes "drop default"
text_of Worn = codes "drop worn"
text_of Full = codes "drop full"
text_of NoPages = codes "drop no-pages"
text_of NotIp = codes "pass not-ip"
text_of Malformed = codes "drop malformed"
text_of Short = codes "drop short"

-- what names the interface with this number, or nothing
abbrev pub name_of : Option ℕ → List ℕ
name_of None = []
name_of (Some number) = codes "if " ++ (decimal number ++ codes " ")

-- the line of the packet with this number
abbrev pub line_of : Option ℕ → ℕ → Verdict → List ℕ
line_of named n verdict = decimal n ++ (codes " " ++ (name_of named ++ (text_of verdict ++ codes "\n")))

-- the lines of packets whose numbers begin with n
abbrev pub lines_from : Option ℕ → ℕ → List Verdict → List ℕ
lines_from named n [] = []
lines_from named n (verdict ∷ verdicts) = line_of named n verdict ++ lines_from named (n + 1) verdicts

-- where a capture was truncated, after how many packets
abbrev pub truncation_line : Option ℕ → Bool → ℕ → List ℕ
truncation_line named false n = []
truncation_line named true n = name_of named ++ (codes "truncated after " ++ (decimal n ++ codes "\n"))

-- how many packets the captures have
abbrev pub packets_in : List Captured → ℕ
packets_in [] = 0
packets_in (captured ∷ captures) = captured.packets + packets_in captures

abbrev pub passed : List Verdict → ℕ
passed verdicts = count_by passes verdicts

abbrev pub dropped : List Verdict → ℕ
dropped verdicts = count_by (λ v. not (passes v)) verdicts

abbrev pub lacks_pages : Verdict → Bool
lacks_pages NoPages = true
lacks_pages _ = false

-- how many verdicts say no-pages
abbrev pub without_pages : List Verdict → ℕ
without_pages verdicts = count_by lacks_pages verdicts

-- whether a capture of these was truncated
abbrev pub is_truncated : List Captured → Bool
is_truncated captures = list_any (λ c. c.truncated) captures

abbrev pub totals_of : List Verdict → List Captured → Totals
totals_of verdicts captures =
    record {
      packets = length verdicts;
      passed = passed verdicts;
      dropped = dropped verdicts;
      without_pages = without_pages verdicts;
      truncated = is_truncated captures;
    }

abbrev pub totals_line : Totals → List ℕ
totals_line t = codes "packets " ++ (decimal t.packets ++ (codes " pass " ++ (decimal t.passed ++ (codes " drop " ++ (decimal t.dropped ++ codes "\n")))))
