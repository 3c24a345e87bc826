-- A live run on several interfaces: captures come together, and their packets are told as their records become whole.
use Rattle.std.specs.Prelude.{◌≡◌, ◌≢◌, ◌⊎◌, ◌++◌, true, ℕ, List, [], Option, None, MatchResult, Result, length}
use Rattle.std.specs.Io.KnownBytes.{Appends}
use Rattle.acl_policy.specs.Policies.{IsPolicyFault, IsPolicyText, PolicyFacts}
use Rattle.acl_policy.specs.declared.policy.PolicyFault.{PolicyFault}
use Rattle.session_state.specs.declared.verdict.Verdict.{Verdict}
use Rattle.racl_options.specs.declared.settings.Options.{Options}
use Rattle.racl_io.specs.declared.fault.Fault.TheVariants.{Memory, Write}
use Rattle.racl_io.specs.declared.totals_and_truncation.Totals.{Totals}
use Rattle.racl_io.specs.Faults.{policy_fault}
use Rattle.racl_io.specs.Reports.{totals_of}
use Rattle.racl_io.specs.Sinks.{GotFront}
use Rattle.racl_io.specs.Tellings.{Wording, end_in, lines_in}
use Rattle.capture_stream.specs.Arrivals.{AreAllGiven, Gives, IsWhole, Part}
use Rattle.filter_run.specs.ComingCaptures.{IsFaultOfComing}
use Rattle.filter_run.specs.Turns.{AreTurns, Turn, cuts_of, packets_of, parts_of}
use Rattle.capture_stream.specs.declared.arrivals.FaultAt.{FaultAt}
use Rattle.racl_views.specs.Hits.{latest_second}
use Rattle.racl_runs.specs.LiveRuns.{AreFirstVerdicts, IsToldBehind, TellsBy}

-- packets are told by a policy with this text, each with the name of its interface
abbrev pub TellsNamed : Options → List ℕ → PolicyFacts → Wording → Type 0
TellsNamed = TellsBy true

-- Workers judged the packets of these turns, in their order, and this is the report on them: their lines, what is told of captures
-- that were cut, the totals over all of them, and what stands behind the totals.
pub record IsReportOfTurns (options : Options) (text : List ℕ) (wording : Wording) (policy : PolicyFacts) (turns : List Turn) (totals : Totals)
    (report : List ℕ) : Type 0 where
  pub verdicts : List Verdict
  pub count : length verdicts ≡ length (packets_of turns)
  pub behind : List ℕ
  pub told : IsToldBehind options text policy (packets_of turns) verdicts (latest_second (packets_of turns)) behind
  pub counted : totals ≡ totals_of verdicts (cuts_of turns)
  pub all : report ≡ lines_in wording 1 (packets_of turns) verdicts ++ (end_in wording (cuts_of turns) totals ++ behind)

-- all parts of all captures came to their ends, in these turns, and the report on them was written
pub record HasToldComing (options : Options) (text : List ℕ) (wording : Wording) (policy : PolicyFacts) (before after : Option (List Part))
    (old new : Option (List ℕ)) (totals : Totals) : Type 0 where
  pub turns : List Turn
  pub are : AreTurns turns
  pub given : Gives before after (parts_of turns)
  pub ended : AreAllGiven after
  pub whole : before ≢ None → (interface : ℕ) → IsWhole interface (parts_of turns)
  pub report : List ℕ
  pub is : IsReportOfTurns options text wording policy turns totals report
  pub written : Appends old new report

-- or a write failed behind a front of it
pub record HasCutComing (options : Options) (text : List ℕ) (wording : Wording) (policy : PolicyFacts) (before after : Option (List Part))
    (old new : Option (List ℕ)) (found : FaultAt) : Type 0 where
  pub failed : found.fault ≡ Write
  pub placeless : found.interface ≡ None
  pub turns : List Turn
  pub are : AreTurns turns
  pub given : Gives before after (parts_of turns)
  pub ended : AreAllGiven after
  pub whole : before ≢ None → (interface : ℕ) → IsWhole interface (parts_of turns)
  pub totals : Totals
  pub report : List ℕ
  pub is : IsReportOfTurns options text wording policy turns totals report
  pub front : GotFront old new report

-- so, or why it wasn't: what was written is the lines of the packets that had come, or a front of them
abbrev pub TellsComing : Type 0 → Options → List ℕ → Wording → PolicyFacts → Option (List Part) → Option (List Part) → Option (List ℕ) → Option (List ℕ)
    → Result Totals FaultAt → Type 0
TellsComing T options text wording policy before after old new result =
    MatchResult result (HasToldComing options text wording policy before after old new)
    (λ found. IsFaultOfComing (AreFirstVerdicts T options) wording policy before after old new found
    ⊎ HasCutComing options text wording policy before after old new found)

-- a policy with this text was read, packets are told by it, and so it was told
pub record HasRunComing (options : Options) (text : List ℕ) (before after : Option (List Part)) (old new : Option (List ℕ)) (totals : Totals) : Type 0 where
  pub policy : PolicyFacts
  pub says : IsPolicyText text policy
  pub wording : Wording
  pub tells : TellsNamed options text policy wording
  pub told : HasToldComing options text wording policy before after old new totals

-- Nothing came and nothing was written: memory ran out, or the policy has the fault. Or why not all was told.
abbrev pub IsComingRunFault : Type 0 → Options → List ℕ → Option (List Part) → Option (List Part) → Option (List ℕ) → Option (List ℕ) → FaultAt → Type 0
IsComingRunFault T options text before after old new found =
    (Gives before after [] × (new ≡ old) × (found.interface ≡ None) × ((found.fault ≡ Memory) ⊎ ((cause : PolicyFault) × IsPolicyFault text cause × (found.fault ≡ policy_fault cause))))
    ⊎ ((policy : PolicyFacts) × IsPolicyText text policy × (wording : Wording) × TellsNamed options text policy wording
    × (IsFaultOfComing (AreFirstVerdicts T options) wording policy before after old new found
    ⊎ HasCutComing options text wording policy before after old new found))
