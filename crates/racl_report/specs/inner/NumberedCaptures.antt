-- Captures as digits, of interfaces with numbers, that are taken one after the other.
use Rattle.std.specs.Prelude.{◌≡◌, ◌+◌, ℕ, List, [], Option, None, Some, length}
use Rattle.packet_view.specs.Captures.{PacketFacts}
use Rattle.racl_io.specs.declared.fault.Fault.{Fault}
use Rattle.racl_io.specs.declared.marker_line.Numbered as mark
use Rattle.racl_io.specs.declared.totals_and_truncation.Captured.{Captured}
use Rattle.racl_io.specs.Faults.{IsFaultOfCaptures}
use Rattle.racl_io.specs.Inputs.{AreCaptures, DigitsFacts, NumberedFacts}
use Rattle.racl_report.specs.ReadInputs.{AreTaken}

-- a capture's number, and what follows its marker line
abbrev pub facts_of : mark.Numbered → NumberedFacts
facts_of capture = record { interface = capture.interface; content = capture.content.now }

-- what stands from the next capture on, after captures of the interfaces that were seen
abbrev pub AreTakenFrom : List ℕ → Option NumberedFacts → List PacketFacts → List Captured → Type 0
AreTakenFrom seen None packets captures = (packets ≡ []) × (captures ≡ [])
AreTakenFrom seen (Some next) packets captures =
    (all : List DigitsFacts) × AreCaptures next.interface next.content all × AreTaken seen all packets captures

-- and the fault that it has
abbrev pub IsFaultFrom : List ℕ → Option NumberedFacts → Fault → Type 0
IsFaultFrom seen None fault = ⊥
IsFaultFrom seen (Some next) fault =
    (all : List DigitsFacts) × AreCaptures next.interface next.content all × IsFaultOfCaptures seen all fault

-- how many bytes stand there at most, where the marker line counts as one
abbrev pub left_at : Option NumberedFacts → ℕ
left_at None = 0
left_at (Some next) = length next.content + 1
