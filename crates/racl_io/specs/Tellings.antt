-- How packets are told one part after the other, and what stands behind them (this project's profile).
use Rattle.std.specs.Prelude.{◌≡◌, ◌+◌, ◌++◌, ℕ, Bool, false, true, List, [], ◌∷◌, None, Some, Option, Result, MatchResult, drop, take, ⊤}
use Rattle.std.specs.List.{AllByRecursion, flat_map}
use Rattle.std.specs.Io.KnownBytes.{Appends}
use Rattle.packet_view.specs.Captures.{PacketFacts}
use Rattle.session_state.specs.declared.shown_verdicts.Shown.{Shown}
use Rattle.session_state.specs.declared.verdict.Verdict.{Verdict}
use Rattle.racl_io.specs.declared.fault.Fault.{Fault}
use Rattle.racl_io.specs.declared.fault.Fault.TheVariants.{Memory, Write}
use Rattle.racl_io.specs.declared.totals_and_truncation.Captured.{Captured}
use Rattle.racl_io.specs.declared.totals_and_truncation.Totals.{Totals}
use Rattle.racl_io.specs.Reports.{totals_line, totals_of, truncation_line}
use Rattle.racl_io.specs.ShownReports.{line_shown}
use Rattle.racl_io.specs.Sinks.{GotFront}

-- what is told of the packet with this number, of a capture that ended, and of all packets at their end
pub record Wording : Type 0 where
  pub line : ℕ → PacketFacts → Verdict → List ℕ
  pub cut : Captured → List ℕ
  pub all : Totals → List ℕ

-- what a line for each tells of packets whose numbers begin with n
abbrev pub lines_by : (ℕ → PacketFacts → Verdict → List ℕ) → ℕ → List PacketFacts → List Verdict → List ℕ
lines_by line n [] verdicts = []
lines_by line n (packet ∷ packets) [] = []
lines_by line n (packet ∷ packets) (verdict ∷ verdicts) = line n packet verdict ++ lines_by line (n + 1) packets verdicts

-- what is told of packets whose numbers begin with n
abbrev pub lines_in : Wording → ℕ → List PacketFacts → List Verdict → List ℕ
lines_in wording n packets verdicts = lines_by wording.line n packets verdicts

-- what stands behind the lines of the packets of captures
abbrev pub end_in : Wording → List Captured → Totals → List ℕ
end_in wording captures totals = flat_map wording.cut captures ++ wording.all totals

-- What is told of captures in turn, of whose packets the first has the number n: of each its packets, which stand at the front of
-- the list, and then its end.
abbrev pub turns_in : Wording → ℕ → List PacketFacts → List Verdict → List Captured → List ℕ
turns_in wording n packets verdicts [] = []
turns_in wording n packets verdicts (captured ∷ captures) =
    lines_in wording n (take captured.packets packets) (take captured.packets verdicts)
    ++ (wording.cut captured ++ turns_in wording (n + captured.packets) (drop captured.packets packets) (drop captured.packets verdicts) captures)

-- all that is told of captures in turn
abbrev pub report_in : Wording → List PacketFacts → List Verdict → List Captured → List ℕ
report_in wording packets verdicts captures = turns_in wording 1 packets verdicts captures ++ wording.all (totals_of verdicts captures)

-- what a report tells of a capture of so many packets, whose interface it doesn't name
abbrev pub told_alone : ℕ → Bool → List Captured
told_alone packets truncated = record { named = None; packets = packets; truncated = truncated } ∷ []

-- what stands behind the lines of its packets
abbrev pub end_alone : Wording → Totals → List ℕ
end_alone wording totals = end_in wording (told_alone totals.packets totals.truncated) totals

-- the line of a capture that is truncated, and of another none
abbrev pub truncation_of : Captured → List ℕ
truncation_of captured = truncation_line captured.named captured.truncated captured.packets

-- the report's lines, which name an interface or none
abbrev pub lines_naming : (PacketFacts → Option ℕ) → Shown → Wording
lines_naming name shown = record { line = λ n packet verdict. line_shown shown (name packet) n verdict; cut = truncation_of; all = totals_line }

abbrev pub no_name : PacketFacts → Option ℕ
no_name packet = None

-- each names its packet's
abbrev pub own_name : PacketFacts → Option ℕ
own_name packet = Some packet.interface

-- they name interfaces, or don't
abbrev pub name_where : Bool → PacketFacts → Option ℕ
name_where true = own_name
name_where false = no_name

abbrev pub plain_wording : Shown → Wording
plain_wording shown = lines_naming no_name shown

abbrev pub named_wording : Shown → Wording
named_wording shown = lines_naming own_name shown

-- the packets of captures in turn are named as their captures are
abbrev pub AreNamedBy : (PacketFacts → Option ℕ) → List PacketFacts → List Captured → Type 0
AreNamedBy name packets [] = ⊤
AreNamedBy name packets (captured ∷ captures) =
    AllByRecursion (λ packet. name packet ≡ captured.named) (take captured.packets packets) × AreNamedBy name (drop captured.packets packets) captures

-- how often a sink failed, where this is answered: a write that failed counts
abbrev pub with_write : ℕ → Fault → ℕ
with_write failures Write = failures + 1
with_write failures fault = failures

-- memory ran out before any of this text was written, or a write failed behind a front of it
abbrev pub IsTellingFault : Option (List ℕ) → Option (List ℕ) → List ℕ → Fault → Type 0
IsTellingFault old new text Memory = new ≡ old
IsTellingFault old new text Write = GotFront old new text
IsTellingFault old new text fault = ⊥

-- a sink got this text, or it couldn't be told
abbrev pub HasToldText : {A W : Type 0} → (W → Option (List ℕ)) → (W → ℕ) → W → W → List ℕ → Result A Fault → Type 0
HasToldText bytes failures old new text result =
    MatchResult result (λ _. Appends (bytes old) (bytes new) text) (IsTellingFault (bytes old) (bytes new) text)
    × MatchResult result (λ _. failures new ≡ failures old) (λ fault. failures new ≡ with_write (failures old) fault)
