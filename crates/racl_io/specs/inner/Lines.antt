-- Lines of a report that are made and written.
use Rattle.std.specs.Prelude.{◌≡◌, ◌+◌, ℕ, List, Option, Result, IfErr, IfOk, OnErr, OnOk}
use Rattle.std.specs.Io.KnownBytes.{Appends}
use Rattle.session_state.specs.declared.verdict.Verdict.{Verdict}
use Rattle.racl_io.specs.declared.fault.Fault.{Fault}
use Rattle.racl_io.specs.declared.fault.Fault.TheVariants.{Write}
use Rattle.racl_io.specs.declared.whole_lines.ReportPlace.{ReportPlace}
use Rattle.racl_io.specs.Reports.{lines_from, passed}

-- the lines of packets that stand at this place
abbrev pub lines_at : ReportPlace → List Verdict → List ℕ
lines_at place verdicts = lines_from place.named (place.others + 1) verdicts

-- a sink got this text, which tells packets of which so many pass, or it failed once more
abbrev pub HasTold : {W : Type 0} → (W → Option (List ℕ)) → (W → ℕ) → W → W → List ℕ → ℕ → Result ℕ Fault → Type 0
HasTold bytes failures old new text passing result =
    OnOk result (Appends (bytes old) (bytes new) text)
    × IfOk result (λ n. n ≡ passing)
    × OnOk result (failures new ≡ failures old)
    × OnErr result (failures new ≡ failures old + 1)
    × IfErr result (λ e. e ≡ Write)

-- a sink got the lines of all these packets, or it failed once more
abbrev pub HasWritten : {W : Type 0} → (W → Option (List ℕ)) → (W → ℕ) → W → W → ReportPlace → List Verdict → Result ℕ Fault → Type 0
HasWritten bytes failures old new place verdicts result = HasTold bytes failures old new (lines_at place verdicts) (passed verdicts) result
