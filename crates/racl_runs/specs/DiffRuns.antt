-- A run over a capture whose packets are judged by two policies while it comes: a policy, and the one that is to take its place.
use Rattle.std.specs.Prelude.{◌≡◌, ◌<◌, ◌⊎◌, ◌++◌, ℕ, Bool, List, Option, IfSome, MatchResult, Result, length}
use Rattle.std.specs.Io.KnownBytes.{Appends, Consumes, IsAtEnd}
use Rattle.packet_view.specs.Captures.{HasFileHeader, IsCaptureAt, IsHeaderFault, PacketFacts, end_of}
use Rattle.packet_view.specs.declared.capture.CaptureFault.{CaptureFault}
use Rattle.packet_view.specs.declared.capture.Order.{Order}
use Rattle.acl_policy.specs.Policies.{IsPolicyFault, IsPolicyText, PolicyFacts, policy_facts}
use Rattle.acl_policy.specs.declared.policy.PolicyFault.{PolicyFault}
use Rattle.acl_policy.specs.declared.policy.PolicyFault.TheVariants as policy
use Rattle.racl_options.specs.declared.settings.Options.{Options}
use Rattle.racl_io.specs.declared.fault.Fault.{Fault}
use Rattle.racl_io.specs.declared.fault.Fault.TheVariants as fault
use Rattle.racl_io.specs.Faults.{capture_fault}
use Rattle.racl_io.specs.Tellings.{with_write}
use Rattle.racl_io.specs.Transfers.{GaveAtMost}
use Rattle.capture_stream.specs.Lives.{with_read}
use Rattle.compared_verdicts.specs.Changes.{PairFacts, changes_from}
use Rattle.compared_verdicts.specs.ChangeReports.{AreLines, end_of_report, totals_of}
use Rattle.compared_verdicts.specs.Comparing.{BothVerdicts, HasToldAll, IsComparingFault}
use Rattle.compared_verdicts.specs.declared.change_totals.ChangeTotals.{ChangeTotals}
use Rattle.racl_runs.specs.LiveRuns.{ByLoneWorker}
use Rattle.racl_runs.specs.declared.diff_run.DiffFault.{DiffFault}
use Rattle.racl_runs.specs.declared.diff_run.DiffFault.TheVariants.{Before, After, Run}
use Rattle.racl_runs.specs.declared.diff_run.PolicyTexts.{PolicyTexts}
use Rattle.racl_runs.specs.declared.diff_run.DiffHead.{DiffHead}

-- the texts say these policies
pub record SayPolicies (texts : PolicyTexts) (policies : PairFacts) : Type 0 where
  pub before : IsPolicyText texts.before.now policies.before
  pub after : IsPolicyText texts.after.now policies.after

-- all of a capture behind its header was compared, or why it wasn't
abbrev pub ComparesWith : Options → PairFacts → Order → Option (List ℕ) → Option (List ℕ) → Option (List ℕ) → Option (List ℕ)
    → Result ChangeTotals Fault → Type 0
ComparesWith options policies order before after old new result =
    MatchResult result (HasToldAll policies (ByLoneWorker options policies.before) (ByLoneWorker options policies.after) order before after old new)
    (IsComparingFault policies (ByLoneWorker options policies.before) (ByLoneWorker options policies.after) order before after old new)

-- a device's fault is answered where it failed, and it failed once
abbrev pub HaveFailed : ℕ → ℕ → ℕ → ℕ → Result ChangeTotals Fault → Type 0
HaveFailed reads then_reads writes then_writes result =
    MatchResult result (λ _. then_reads ≡ reads) (λ found. then_reads ≡ with_read reads found)
    × MatchResult result (λ _. then_writes ≡ writes) (λ found. then_writes ≡ with_write writes found)

-- the policies whose rules are ready
abbrev pub policies_in : DiffHead → PairFacts
policies_in head = record { before = policy_facts head.before.now.policy.now; after = policy_facts head.after.now.policy.now }

-- by both sessions live as long as the options say
abbrev pub AreTimesOf : DiffHead → Type 0
AreTimesOf head = (head.before.now.times ≡ head.options.now.times) × (head.after.now.times ≡ head.options.now.times)

-- The source's bytes are a capture. One worker for each policy, who ages where that is asked for, judged its packets, and the report on
-- those was written on which the two policies say different things.
pub record HasRunDiff (options : Options) (texts : PolicyTexts) (given old new : Option (List ℕ)) (totals : ChangeTotals) : Type 0 where
  pub policies : PairFacts
  pub say : SayPolicies texts policies
  pub bytes : List ℕ
  pub known : IfSome given (λ known. bytes ≡ known)
  pub packets : List PacketFacts
  pub truncated : Bool
  pub records : IsCaptureAt 0 bytes packets (end_of truncated)
  pub verdicts : BothVerdicts (ByLoneWorker options policies.before) (ByLoneWorker options policies.after) packets
  pub counted : totals ≡ totals_of (changes_from policies 1 verdicts.befores verdicts.afters packets) (length packets) truncated
  pub lines : List ℕ
  pub are : AreLines policies.after (changes_from policies 1 verdicts.befores verdicts.afters packets) lines
  pub written : Appends old new (lines ++ end_of_report totals)

-- a policy and a header of the capture were read, behind which the source has its records
pub record HaveHead (texts : PolicyTexts) (before : Option (List ℕ)) : Type 0 where
  pub policies : PairFacts
  pub say : SayPolicies texts policies
  pub header : List ℕ
  pub order : Order
  pub right : HasFileHeader order header
  pub whole : length header ≡ 24
  pub left : Option (List ℕ)
  pub consumed : Consumes before left header

-- memory ran out, or the text has this fault
abbrev pub IsFaultOfText : List ℕ → PolicyFault → Type 0
IsFaultOfText text cause = (cause ≡ policy.Memory) ⊎ IsPolicyFault text cause

-- A policy or the capture's header has the fault, memory ran out, or a read failed. No more than the header was read.
abbrev pub IsEarlyDiffFault : PolicyTexts → Option (List ℕ) → Option (List ℕ) → DiffFault → Type 0
IsEarlyDiffFault texts before after (Before cause) = (after ≡ before) × IsFaultOfText texts.before.now cause
IsEarlyDiffFault texts before after (After cause) =
    (after ≡ before) × (first : PolicyFacts) × IsPolicyText texts.before.now first × IsFaultOfText texts.after.now cause
IsEarlyDiffFault texts before after (Run found) =
    (policies : PairFacts) × SayPolicies texts policies × GaveAtMost before after 24
    × ((found ≡ fault.Memory) ⊎ (found ≡ fault.Read)
    ⊎ ((cause : CaptureFault) × (header : List ℕ) × Consumes before after header × (length header < 24 → IsAtEnd after)
    × IsHeaderFault header cause × (found ≡ capture_fault cause)))

-- why the report isn't whole: nothing was written, or the first lines were, or a front of the report
abbrev pub IsDiffFault : Options → PolicyTexts → Option (List ℕ) → Option (List ℕ) → Option (List ℕ) → Option (List ℕ) → DiffFault → Type 0
IsDiffFault options texts before after old new which =
    (IsEarlyDiffFault texts before after which × (new ≡ old))
    ⊎ ((found : Fault) × (which ≡ Run found) × (head : HaveHead texts before)
    × IsComparingFault head.policies (ByLoneWorker options head.policies.before) (ByLoneWorker options head.policies.after) head.order head.left after old new found)

-- how a run ends
abbrev pub EndsDiff : Options → PolicyTexts → Option (List ℕ) → Option (List ℕ) → Option (List ℕ) → Option (List ℕ)
    → Result ChangeTotals DiffFault → Type 0
EndsDiff options texts before after old new result =
    MatchResult result (HasRunDiff options texts before old new) (IsDiffFault options texts before after old new)

-- how often a source failed, where this is answered
abbrev pub with_diff_read : ℕ → DiffFault → ℕ
with_diff_read failures (Run found) = with_read failures found
with_diff_read failures (Before cause) = failures
with_diff_read failures (After cause) = failures

-- the same of a sink
abbrev pub with_diff_write : ℕ → DiffFault → ℕ
with_diff_write failures (Run found) = with_write failures found
with_diff_write failures (Before cause) = failures
with_diff_write failures (After cause) = failures
