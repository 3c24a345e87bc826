-- Which verdicts are as expected, and what is told of those that aren't (this project's profile).
use Rattle.std.specs.Prelude.{ℕ, ◌+◌, ◌==◌, ◌&&◌, ◌||◌, Bool, true, false, not, nat_le, nat_lt, List, [], ◌∷◌, ◌++◌, codes, decimal, if◌then◌else◌, length}
use Rattle.std.specs.List.{list_any}
use Rattle.session_state.specs.Passes.{passes}
use Rattle.session_state.specs.declared.verdict.Verdict.{Verdict}
use Rattle.session_state.specs.declared.verdict.Verdict.TheVariants.{Session, Reflect, Permit, Deny, ByDefault, Worn, Full, NoPages, NotIp, Malformed, Short}
use Rattle.racl_io.specs.Reports.{text_of, totals_of}
use Rattle.racl_io.specs.Tellings.{Wording, end_alone, told_alone, truncation_of}
use Rattle.racl_io.specs.declared.totals_and_truncation.Totals.{Totals}
use Rattle.packet_words.specs.VerdictKinds.{kind_of}
use Rattle.compared_verdicts.specs.declared.expectation.Expectation.{Expectation}
use Rattle.compared_verdicts.specs.declared.expectation.Expected.{Expected}
use Rattle.compared_verdicts.specs.declared.expectation.Expected.TheVariants.{Verdicts, InAll}
use Rattle.compared_verdicts.specs.declared.expectation.Total.{Total}
use Rattle.compared_verdicts.specs.declared.expectation.Total.TheVariants.{Packets, Passed, Dropped}
use Rattle.compared_verdicts.specs.declared.expectation.Wanted.{Wanted}
use Rattle.compared_verdicts.specs.declared.expectation.Wanted.TheVariants.{Pass, Drop, PassByRule, DropByRule, Exactly}

-- ---- which verdicts are wanted

-- the number of the rule that decided, and 0 where none did
abbrev pub number_in : Verdict → ℕ
number_in (Reflect number) = number
number_in (Permit number) = number
number_in (Deny number) = number
number_in Session = 0
number_in ByDefault = 0
number_in Worn = 0
number_in Full = 0
number_in NoPages = 0
number_in NotIp = 0
number_in Malformed = 0
number_in Short = 0

abbrev pub is_same : Verdict → Verdict → Bool
is_same one other = (kind_of one == kind_of other) && (number_in one == number_in other)

-- a rule decided
abbrev pub is_by_rule : Verdict → Bool
is_by_rule verdict = nat_le 1 (kind_of verdict) && nat_le (kind_of verdict) 3

-- The words `pass rule 3 reflect` begin with those of `pass rule 3`.
abbrev pub is_permitted_in : Verdict → Verdict → Bool
is_permitted_in (Permit number) (Reflect other) = number == other
is_permitted_in wanted verdict = false

-- the report's words for the verdict begin with the wanted ones
abbrev pub meets : Wanted → Verdict → Bool
meets Pass verdict = passes verdict
meets Drop verdict = not (passes verdict)
meets PassByRule verdict = is_by_rule verdict && passes verdict
meets DropByRule verdict = is_by_rule verdict && not (passes verdict)
meets (Exactly wanted) verdict = is_same wanted verdict || is_permitted_in wanted verdict

-- ---- what isn't as expected

-- of the packet with this number
abbrev pub is_unmet : Expected → ℕ → Verdict → Bool
is_unmet (Verdicts first last wanted) n verdict = nat_le first n && (nat_le n last && not (meets wanted verdict))
is_unmet (InAll total count) n verdict = false

abbrev pub unmet_at : List Expectation → ℕ → Verdict → Bool
unmet_at expectations n verdict = list_any (λ e. is_unmet e.expected n verdict) expectations

-- among packets whose numbers begin with n
abbrev pub unmet_from : List Expectation → ℕ → List Verdict → Bool
unmet_from expectations n [] = false
unmet_from expectations n (verdict ∷ verdicts) = unmet_at expectations n verdict || unmet_from expectations (n + 1) verdicts

abbrev pub total_of : Total → Totals → ℕ
total_of Packets totals = totals.packets
total_of Passed totals = totals.passed
total_of Dropped totals = totals.dropped

-- a packet isn't there, or a total is another
abbrev pub is_open : Expected → Totals → Bool
is_open (Verdicts first last wanted) totals = nat_lt totals.packets last
is_open (InAll total count) totals = not (total_of total totals == count)

abbrev pub open_in : List Expectation → Totals → Bool
open_in expectations totals = list_any (λ e. is_open e.expected totals) expectations

-- all is as expected where these are the verdicts on all packets, and the totals over them
abbrev pub are_met : List Expectation → List Verdict → Totals → Bool
are_met expectations verdicts totals = not (unmet_from expectations 1 verdicts || open_in expectations totals)

-- ---- what is told of it

abbrev pub wanted_text : Wanted → List ℕ
wanted_text Pass = codes "pass"
wanted_text Drop = codes "drop"
wanted_text PassByRule = codes "pass rule"
wanted_text DropByRule = codes "drop rule"
wanted_text (Exactly verdict) = text_of verdict

abbrev pub total_text : Total → List ℕ
total_text Packets = codes "packets"
total_text Passed = codes "pass"
total_text Dropped = codes "drop"

-- `line 3`, and what stands behind it
abbrev pub line_head : ℕ → List ℕ → List ℕ
line_head line behind = codes "line " ++ (decimal line ++ behind)

-- `line 3: packet 7: expected drop, was `
abbrev pub packet_head : ℕ → ℕ → Wanted → List ℕ
packet_head line n wanted = line_head line (codes ": packet ") ++ (decimal n ++ (codes ": expected " ++ (wanted_text wanted ++ codes ", was ")))

abbrev pub unmet_line : ℕ → ℕ → Wanted → Verdict → List ℕ
unmet_line line n wanted verdict = packet_head line n wanted ++ (text_of verdict ++ codes "\n")

abbrev pub missing_line : ℕ → ℕ → Wanted → List ℕ
missing_line line n wanted = packet_head line n wanted ++ codes "not in the capture\n"

abbrev pub was_text : ℕ → List ℕ
was_text is = codes ", was " ++ (decimal is ++ codes "\n")

abbrev pub total_line : ℕ → Total → ℕ → ℕ → List ℕ
total_line line total count is =
    line_head line (codes ": ") ++ (total_text total ++ (codes ": expected " ++ (decimal count ++ was_text is)))

-- of a packet
abbrev pub told_as : ℕ → Expected → ℕ → Verdict → List ℕ
told_as line (Verdicts first last wanted) n verdict = if is_unmet (Verdicts first last wanted) n verdict then unmet_line line n wanted verdict else []
told_as line (InAll total count) n verdict = []

abbrev pub told_at : List Expectation → ℕ → Verdict → List ℕ
told_at [] n verdict = []
told_at (e ∷ expectations) n verdict = told_as e.line e.expected n verdict ++ told_at expectations n verdict

-- of packets whose numbers begin with n
abbrev pub told_from : List Expectation → ℕ → List Verdict → List ℕ
told_from expectations n [] = []
told_from expectations n (verdict ∷ verdicts) = told_at expectations n verdict ++ told_from expectations (n + 1) verdicts

-- behind all packets
abbrev pub told_open : ℕ → Expected → Totals → List ℕ
told_open line (Verdicts first last wanted) totals = if nat_lt totals.packets last then missing_line line last wanted else []
told_open line (InAll total count) totals =
    if total_of total totals == count then [] else total_line line total count (total_of total totals)

abbrev pub told_in : List Expectation → Totals → List ℕ
told_in [] totals = []
told_in (e ∷ expectations) totals = told_open e.line e.expected totals ++ told_in expectations totals

-- how packets are told
abbrev pub unmet_wording : List Expectation → Wording
unmet_wording expectations = record { line = λ n packet verdict. told_at expectations n verdict; cut = truncation_of; all = told_in expectations }

abbrev pub end_of : List Expectation → Totals → List ℕ
end_of expectations totals = end_alone (unmet_wording expectations) totals

-- the last line, where all is met, of so many expectations
abbrev pub met_line : ℕ → List ℕ
met_line count = codes "met " ++ (decimal count ++ codes "\n")

abbrev pub met_told : Bool → ℕ → List ℕ
met_told true count = met_line count
met_told false count = []

-- the totals over verdicts on packets of no capture, which none is cut off from
abbrev pub totals_alone : List Verdict → Totals
totals_alone verdicts = totals_of verdicts (told_alone (length verdicts) false)

-- all that is told
abbrev pub told_of : List Expectation → List Verdict → Totals → List ℕ
told_of expectations verdicts totals =
    told_from expectations 1 verdicts ++ (end_of expectations totals ++ met_told (are_met expectations verdicts totals) (length expectations))

-- the exit status: 5 where an expectation isn't met, else 3 where the capture was truncated, else 0
abbrev pub status_of_expected : Bool → Bool → ℕ
status_of_expected met truncated = if met then (if truncated then 3 else 0) else 5
