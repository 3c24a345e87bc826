-- What a run on captures that come apart has filtered, from a policy's text and each capture's bytes.
use Rattle.std.specs.Prelude.{◌≡◌, ◌⊎◌, ℕ, List, Option, Result, MatchResult}
use Rattle.std.specs.Io.KnownBytes.{Appends}
use Rattle.packet_view.specs.Captures.{PacketFacts}
use Rattle.acl_policy.specs.Policies.{PolicyFacts}
use Rattle.session_state.specs.declared.timeouts.Timeouts.{Timeouts}
use Rattle.flow_dealing.specs.WorkerRecords.{HavePages}
use Rattle.racl_options.specs.declared.settings.Options.{Options}
use Rattle.racl_options.specs.declared.settings.TableSize.{TableSize}
use Rattle.racl_io.specs.declared.fault.Fault.TheVariants.{Memory, Write}
use Rattle.racl_io.specs.declared.totals_and_truncation.Totals.{Totals}
use Rattle.racl_io.specs.Reports.{totals_of}
use Rattle.racl_io.specs.declared.capture_bytes.CaptureBytes.{CaptureBytes}
use Rattle.racl_report.specs.InterfaceInputs.{IsFaultApart, IsReadApart, placeless}
use Rattle.racl_report.specs.RunReports.{IsReportOn, JudgedFacts, Outcome}
use Rattle.racl_report.specs.declared.interface_captures.PlacedFault.{PlacedFault}
use Rattle.racl_runs.specs.Reads.{IsReached}
use Rattle.racl_runs.specs.Runs.{AgeInTime, ByOneThread}

-- the text and the captures are an input on which the one-thread filter comes to this outcome over tables of this size
pub record HasOutcomeApart (size : TableSize) (times : Timeouts) (text : List ℕ) (captures : List CaptureBytes) (outcome : Outcome) : Type 0 where
  pub policy : PolicyFacts
  pub packets : List PacketFacts
  pub read : IsReadApart text captures policy packets outcome.captures
  pub verdicts : ByOneThread size times policy packets outcome.verdicts

-- Workers reached this on the packets of the captures, and after what was written before stands the report on it: as `HasRun`
-- says it of one input.
pub record HasRunApart (options : Options) (text : List ℕ) (captures : List CaptureBytes) (old new : Option (List ℕ)) (totals : Totals) : Type 0 where
  pub policy : PolicyFacts
  pub packets : List PacketFacts
  pub judged : JudgedFacts
  pub read : IsReadApart text captures policy packets judged.outcome.captures
  pub reached : IsReached options policy packets judged.outcome.captures judged
  pub report : List ℕ
  pub told : IsReportOn options text policy packets judged report
  pub written : Appends old new report
  pub counted : totals ≡ totals_of judged.outcome.verdicts judged.outcome.captures

-- no fault of the text or the captures: memory ran out, or the report's writer failed
abbrev pub IsSystemApart : PlacedFault → Type 0
IsSystemApart found = (found ≡ placeless Memory) ⊎ (found ≡ placeless Write)

-- What is an input gets the report on it: the outcome of the one-thread filter, or one of workers that says no-pages or whose
-- ageing isn't in time. Or memory ran out or the writer failed.
abbrev pub AnswersRightApart : Options → List ℕ → List CaptureBytes → Option (List ℕ) → Option (List ℕ) → Result Totals PlacedFault → Type 0
AnswersRightApart options text captures old new result = (outcome : Outcome) → HasOutcomeApart options.tables options.times text captures outcome
    → MatchResult result (λ totals. (run : HasRunApart options text captures old new totals)
    × (HavePages run.judged.outcome.verdicts → AgeInTime run.reached.by_workers → outcome ≡ run.judged.outcome)) IsSystemApart

-- a fault gets that fault, or memory ran out
abbrev pub RefusesApart : List ℕ → List CaptureBytes → Result Totals PlacedFault → Type 0
RefusesApart text captures result = (cause : PlacedFault) → IsFaultApart text captures cause
    → MatchResult result (λ _. ⊥) (λ found. (found ≡ cause) ⊎ (found ≡ placeless Memory))
