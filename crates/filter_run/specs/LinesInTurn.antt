-- Captures in turn, each a batch, that are told in lines: what was written so far (this project's profile).
use Rattle.std.specs.Prelude.{◌≡◌, ◌⊎◌, ◌-◌, ◌<◌, ◌++◌, ◌∷◌, ◌^◌, ℕ, List, [], Option, drop, length, min}
use Rattle.std.specs.Io.KnownBytes.{Appends}
use Rattle.session_state.specs.declared.verdict.Verdict.{Verdict}
use Rattle.racl_io.specs.Tellings.{Wording}
use Rattle.racl_io.specs.declared.fault.Fault.{Fault}
use Rattle.racl_io.specs.declared.fault.Fault.TheVariants.{Memory, Write}
use Rattle.racl_io.specs.declared.totals_and_truncation.Captured.{Captured}
use Rattle.filter_run.specs.Batches.{JudgedBatch, said_of}
use Rattle.filter_run.specs.Lines.{AreSame, HasCounts, batch_text}
use Rattle.filter_run.specs.declared.lines_in_turn.LinesInTurn.{LinesInTurn}

-- what is told of the end of the first of these captures, where there is one
abbrev pub first_end : Wording → List Captured → List ℕ
first_end wording [] = []
first_end wording (captured ∷ captures) = wording.cut captured

-- of each its packets, and behind them its end
abbrev pub turns_text : Wording → List (JudgedBatch Verdict) → List Captured → List ℕ
turns_text wording [] captures = []
turns_text wording (one ∷ judged) captures = batch_text wording one ++ (first_end wording captures ++ turns_text wording judged (drop 1 captures))

-- this was written of batches, each a capture, and what was said is counted
pub record HasToldLinesInTurn {L W : Type 0} (wording : L → Wording) (bytes : W → Option (List ℕ)) (failures : W → ℕ) (begun : LinesInTurn L W)
    (judged : List (JudgedBatch Verdict)) (now : LinesInTurn L W) : Type 0 where
  pub same : AreSame begun.lines now.lines
  pub words : wording now.lines.teller.now ≡ wording begun.lines.teller.now
  pub text : Appends (bytes begun.lines.writer.now) (bytes now.lines.writer.now) (turns_text (wording begun.lines.teller.now) judged begun.told.now)
  pub few : failures begun.lines.writer.now < 2 ^ 64 - 1
  pub sound : failures now.lines.writer.now ≡ failures begun.lines.writer.now
  pub counts : HasCounts now.lines (said_of judged)
  pub captures : now.told ≡ begun.told
  pub given : now.given ≡ min (length judged) (length begun.told.now)

-- memory ran out, or a write failed
pub record HasCutLinesInTurn {L W : Type 0} (begun : LinesInTurn L W) (fault : Fault) (now : LinesInTurn L W) : Type 0 where
  pub same : AreSame begun.lines now.lines
  pub why : (fault ≡ Memory) ⊎ (fault ≡ Write)
