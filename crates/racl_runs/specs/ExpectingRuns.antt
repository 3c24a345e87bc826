-- A run over a capture whose verdicts are compared with expected ones while it comes.
use Rattle.std.specs.Prelude.{◌≡◌, ◌⊎◌, ℕ, Bool, List, Option, IfSome, MatchResult, Result, length, ⊤}
use Rattle.std.specs.Io.KnownBytes.{Appends, IsAtEnd}
use Rattle.packet_view.specs.Captures.{IsCaptureAt, PacketFacts, end_of, packets_at}
use Rattle.packet_view.specs.declared.capture.Order.{Order}
use Rattle.acl_policy.specs.Policies.{IsPolicyText, PolicyFacts}
use Rattle.session_state.specs.declared.verdict.Verdict.{Verdict}
use Rattle.racl_options.specs.declared.settings.Options.{Options}
use Rattle.racl_io.specs.declared.fault.Fault.{Fault}
use Rattle.racl_io.specs.declared.fault.Fault.TheVariants.{Write}
use Rattle.racl_io.specs.declared.totals_and_truncation.Totals.{Totals}
use Rattle.racl_io.specs.Reports.{totals_of}
use Rattle.racl_io.specs.Sinks.{GotFront}
use Rattle.racl_io.specs.Tellings.{told_alone}
use Rattle.filter_run.specs.CaptureReports.{HasJudgedAll, IsLiveFault}
use Rattle.filter_run.specs.Starts.{behind_header}
use Rattle.capture_stream.specs.Savings.{Manner, Outputs, manner_of, outputs}
use Rattle.compared_verdicts.specs.Meeting.{are_met, told_of, unmet_wording}
use Rattle.compared_verdicts.specs.declared.expectation.Expectation.{Expectation}
use Rattle.racl_runs.specs.LiveRuns.{ByLoneWorker, HasHead, IsEarlyFault}
use Rattle.racl_runs.specs.declared.expecting_run.Compared.{Compared}

-- what isn't as expected is told of each packet, and nothing is saved
abbrev pub manner_by : List Expectation → Manner ⊤
manner_by expectations = manner_of (unmet_wording expectations) (λ begun order records verdicts now. ⊤)

abbrev pub output : Option (List ℕ) → Outputs ⊤
output bytes = outputs bytes tt

-- all of a capture behind its header was judged, compared and told
pub record HasComparedAll (options : Options) (expectations : List Expectation) (policy : PolicyFacts) (order : Order) (before after old new : Option (List ℕ))
    (compared : Compared) : Type 0 where
  pub totals : Totals
  pub judged : HasJudgedAll (ByLoneWorker options) policy (behind_header order) before after totals
  pub by : ByLoneWorker options policy (packets_at 0 judged.packets) judged.verdicts
  pub written : Appends old new (told_of expectations judged.verdicts totals)
  pub met : compared.met ≡ are_met expectations judged.verdicts totals
  pub cut : compared.truncated ≡ totals.truncated

-- a write failed behind a front of what is told of all
pub record HasCutEnd (options : Options) (expectations : List Expectation) (policy : PolicyFacts) (order : Order) (before after old new : Option (List ℕ))
    (fault : Fault) : Type 0 where
  pub failed : fault ≡ Write
  pub totals : Totals
  pub judged : HasJudgedAll (ByLoneWorker options) policy (behind_header order) before after totals
  pub by : ByLoneWorker options policy (packets_at 0 judged.packets) judged.verdicts
  pub front : GotFront old new (told_of expectations judged.verdicts totals)

-- so, or why it wasn't
abbrev pub ComparesAll : Options → List Expectation → PolicyFacts → Order → Option (List ℕ) → Option (List ℕ) → Option (List ℕ) → Option (List ℕ)
    → Result Compared Fault → Type 0
ComparesAll options expectations policy order before after old new result =
    MatchResult result (HasComparedAll options expectations policy order before after old new)
    (λ fault. IsLiveFault (ByLoneWorker options) (manner_by expectations) policy (behind_header order) before after (output old) (output new) fault
    ⊎ HasCutEnd options expectations policy order before after old new fault)

-- The source's bytes are a capture, and one worker gave these verdicts on its packets.
pub record HasJudgedCapture (options : Options) (text : List ℕ) (given : Option (List ℕ)) : Type 0 where
  pub policy : PolicyFacts
  pub says : IsPolicyText text policy
  pub bytes : List ℕ
  pub known : IfSome given (λ known. bytes ≡ known)
  pub packets : List PacketFacts
  pub truncated : Bool
  pub records : IsCaptureAt 0 bytes packets (end_of truncated)
  pub verdicts : List Verdict
  pub by : ByLoneWorker options policy packets verdicts

abbrev pub totals_in : {options : Options} {text : List ℕ} {given : Option (List ℕ)} → HasJudgedCapture options text given → Totals
totals_in judged = totals_of judged.verdicts (told_alone (length judged.packets) judged.truncated)

-- what is told of these by the expectations was written, and no more, and whether they are all met is answered
pub record HasRunExpecting (options : Options) (text : List ℕ) (expectations : List Expectation) (given old new : Option (List ℕ)) (compared : Compared) : Type 0 where
  pub judged : HasJudgedCapture options text given
  pub written : Appends old new (told_of expectations judged.verdicts (totals_in judged))
  pub met : compared.met ≡ are_met expectations judged.verdicts (totals_in judged)
  pub cut : compared.truncated ≡ judged.truncated

-- or a write failed behind a front of it, when all was read
pub record HasCutExpecting (options : Options) (text : List ℕ) (expectations : List Expectation) (given after old new : Option (List ℕ)) (fault : Fault) : Type 0 where
  pub failed : fault ≡ Write
  pub ended : IsAtEnd after
  pub judged : HasJudgedCapture options text given
  pub front : GotFront old new (told_of expectations judged.verdicts (totals_in judged))

-- why not all was told: nothing was written, or what is told of the first packets, or a front of all
abbrev pub IsExpectingFault : Options → List ℕ → List Expectation → Option (List ℕ) → Option (List ℕ) → Option (List ℕ) → Option (List ℕ) → Fault → Type 0
IsExpectingFault options text expectations before after old new fault =
    (IsEarlyFault text before after fault × (new ≡ old))
    ⊎ ((head : HasHead text before)
    × IsLiveFault (ByLoneWorker options) (manner_by expectations) head.policy (behind_header head.order) head.left after (output old) (output new) fault)
    ⊎ HasCutExpecting options text expectations before after old new fault

-- how a run ends
abbrev pub EndsExpecting : Options → List ℕ → List Expectation → Option (List ℕ) → Option (List ℕ) → Option (List ℕ) → Option (List ℕ)
    → Result Compared Fault → Type 0
EndsExpecting options text expectations before after old new result =
    MatchResult result (HasRunExpecting options text expectations before old new) (IsExpectingFault options text expectations before after old new)
