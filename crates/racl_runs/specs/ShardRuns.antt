-- A run over the packets of one shard of a capture, which is told while it is read (this project's profile).
use Rattle.std.specs.Prelude.{◌≡◌, ◌≢◌, ◌⊎◌, ◌++◌, ℕ, Bool, List, [], Option, Result, IfSome, MatchResult, length}
use Rattle.std.specs.Io.KnownBytes.{Appends, IsAtEnd}
use Rattle.packet_view.specs.Captures.{IsCaptureAt, PacketFacts, RecordFacts, end_of}
use Rattle.acl_policy.specs.Policies.{IsPolicyText, PolicyFacts}
use Rattle.session_state.specs.declared.verdict.Verdict.{Verdict}
use Rattle.racl_options.specs.ShardWords.{ShardFacts}
use Rattle.racl_options.specs.declared.settings.Options.{Options}
use Rattle.racl_io.specs.declared.fault.Fault.{Fault}
use Rattle.racl_io.specs.declared.fault.Fault.TheVariants.{Write}
use Rattle.racl_io.specs.declared.totals_and_truncation.Totals.{Totals}
use Rattle.racl_io.specs.Reports.{totals_of}
use Rattle.racl_io.specs.Sinks.{GotFront}
use Rattle.racl_io.specs.Tellings.{Wording, end_alone, told_alone}
use Rattle.capture_stream.specs.Lives.{HaveFailed}
use Rattle.filter_run.specs.OwnReports as share
use Rattle.filter_run.specs.OwnReports.{own_lines}
use Rattle.filter_run.specs.Starts.{Start, behind_header}
use Rattle.capture_stream.specs.Savings.{Manner, Outputs}
use Rattle.capture_shards.specs.Shards.{IsOwnOf, Own, own_packets}
use Rattle.racl_runs.specs.LiveRuns.{AreFirstVerdicts, HasHead, IsEarlyFault, IsToldBehind, TellsAsAsked}
use Rattle.racl_runs.specs.Runs.{layout_for}
use Rattle.racl_runs.specs.LiveSaves.{HaveSaved}
use Rattle.racl_runs.specs.ShardSaves.{HaveSavedOwn}
use Rattle.racl_report.specs.RunReports.{view_behind}
use Rattle.racl_report.specs.declared.saved_packets.Saves.{Saves}
use Rattle.racl_views.specs.Hits.{latest_second}
use Rattle.racl_views.specs.ShardLines.{shard_told}

-- these packets are the shard's, over tables of the size that the words ask for
abbrev pub AreOwn : Options → ShardFacts → Own → Type 0
AreOwn options shard own = IsOwnOf (layout_for options.tables) shard.count shard.number own

-- what is said right behind the totals of a capture with so many packets, the latest of this second
abbrev pub Note : Type 0
Note = ℕ → ℕ → List ℕ

-- nothing, where all packets are one's own
abbrev pub no_note : Note
no_note packets latest = []

-- of which shard of how many the report is
abbrev pub shard_note : Options → ShardFacts → Note
shard_note options shard packets latest =
    shard_told (view_behind options.lines) (record { number = shard.number; count = shard.count; packets = packets; latest = latest })

-- The workers gave these verdicts on one's own packets, as in a run on a capture of these alone; this stands behind their totals,
-- with sessions as they are at the latest second of the whole capture. All that is told are the lines of these packets, the totals, a
-- note, and what stands behind.
pub record IsOwnReport (options : Options) (text : List ℕ) (note : Note) (wording : Wording) (policy : PolicyFacts) (own : Own) (packets : List PacketFacts) (truncated : Bool)
    (totals : Totals) (report : List ℕ) : Type 0 where
  pub verdicts : List Verdict
  pub behind : List ℕ
  pub told : IsToldBehind options text policy (own_packets own 1 packets) verdicts (latest_second packets) behind
  pub counted : totals ≡ totals_of verdicts (told_alone (length (own_packets own 1 packets)) truncated)
  pub all : report ≡ own_lines wording own packets verdicts ++ (end_alone wording totals ++ (note (length packets) (latest_second packets) ++ behind))

-- Why not all of them were told, before the totals: workers who go on handed over verdicts on one's own packets.
abbrev pub IsOwnFault : {K : Type 0} → Type 0 → Options → Manner K → PolicyFacts → Own → Start → Option (List ℕ) → Option (List ℕ) → Outputs K → Outputs K
    → Fault → Type 0
IsOwnFault T options manner policy own start before after old new fault = share.IsOwnFault (AreFirstVerdicts T options) manner policy own start before after old new fault

-- The source's bytes are a capture, and this is the report on its packets of the shard.
pub record IsShardReport (options : Options) (shard : ShardFacts) (text : List ℕ) (given : Option (List ℕ)) (totals : Totals) (report : List ℕ) : Type 0 where
  pub policy : PolicyFacts
  pub says : IsPolicyText text policy
  pub bytes : List ℕ
  pub known : IfSome given (λ known. bytes ≡ known)
  pub packets : List PacketFacts
  pub truncated : Bool
  pub records : IsCaptureAt 0 bytes packets (end_of truncated)
  pub own : Own
  pub mine : AreOwn options shard own
  pub wording : Wording
  pub tells : TellsAsAsked options text policy wording
  pub is : IsOwnReport options text (shard_note options shard) wording policy own packets truncated totals report

-- and it was written, and the shard's packets were saved that it says are dropped, and that pass
pub record HasRunShard {S : Type 0} (sink : S → Option (List ℕ)) (options : Options) (shard : ShardFacts) (text : List ℕ) (given : Option (List ℕ))
    (old new : Outputs (Saves S)) (totals : Totals) : Type 0 where
  pub report : List ℕ
  pub is : IsShardReport options shard text given totals report
  pub written : Appends old.report new.report report
  pub records : List RecordFacts
  pub saved : HaveSavedOwn sink is.own is.bytes records is.is.verdicts old.saver new.saver

-- or a write failed behind a front of it, when all was read
pub record HasCutShard (options : Options) (shard : ShardFacts) (text : List ℕ) (given after old new : Option (List ℕ)) (fault : Fault) : Type 0 where
  pub failed : fault ≡ Write
  pub ended : IsAtEnd after
  pub totals : Totals
  pub report : List ℕ
  pub is : IsShardReport options shard text given totals report
  pub front : GotFront old new report

-- Why the report isn't whole: nothing was written, nor saved unless a write failed; or the first lines were, and so were the
-- packets of the shard that they tell, as a capture that ends there; or a front of the report.
abbrev pub IsShardFault : {S : Type 0} → Type 0 → (S → Option (List ℕ)) → Options → ShardFacts → List ℕ → Option (List ℕ) → Option (List ℕ) → Outputs (Saves S)
    → Outputs (Saves S) → Fault → Type 0
IsShardFault T sink options shard text before after old new fault =
    (IsEarlyFault text before after fault × (new.report ≡ old.report) × (fault ≢ Write → new.saver ≡ old.saver))
    ⊎ ((head : HasHead text before) × (wording : Wording) × TellsAsAsked options text head.policy wording × (own : Own) × AreOwn options shard own
    × IsOwnFault T options (record { wording = wording; saved = λ before order mine said after. HaveSaved sink (head.header ++ mine) said before after }) head.policy own (behind_header head.order) head.left after old new fault)
    ⊎ HasCutShard options shard text before after old.report new.report fault

-- where a write's fault is answered a report's device or what saves packets failed once, and else neither did
abbrev pub HasFailedOnce : Result Totals Fault → ℕ → ℕ → ℕ → ℕ → Type 0
HasFailedOnce result written writing saved saving =
    MatchResult result (λ totals. (writing ≡ written) × (saving ≡ saved)) (HaveFailed written writing saved saving)
