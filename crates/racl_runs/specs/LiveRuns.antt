-- A run over a capture that is told while it comes: its policy is text of its own, and sessions that have ended are removed.
use Rattle.std.specs.Prelude.{◌≡◌, ◌≢◌, ◌<◌, ◌⊎◌, ◌++◌, ℕ, Bool, false, true, List, ◌∷◌, [], None, Option, Some, IfSome, length}
use Rattle.std.specs.Io.KnownBytes.{Appends, Consumes, IsAtEnd}
use Rattle.packet_view.specs.Captures.{HasFileHeader, IsCaptureAt, IsHeaderFault, PacketFacts, end_of}
use Rattle.packet_view.specs.declared.capture.CaptureFault.{CaptureFault}
use Rattle.packet_view.specs.declared.capture.Order.{Order}
use Rattle.acl_policy.specs.Policies.{IsPolicyFault, IsPolicyText, PolicyFacts}
use Rattle.acl_policy.specs.declared.policy.PolicyFault.{PolicyFault}
use Rattle.session_state.specs.declared.verdict.Verdict.{Verdict}
use Rattle.flow_dealing.specs.WorkerRecords.{HavePages}
use Rattle.racl_options.specs.declared.settings.Lines.{Lines}
use Rattle.racl_options.specs.declared.settings.Lines.TheVariants.{Plain, Explained, Json}
use Rattle.racl_options.specs.declared.settings.Options.{Options}
use Rattle.racl_io.specs.declared.fault.Fault.{Fault}
use Rattle.racl_io.specs.declared.fault.Fault.TheVariants.{Memory, Read, Write}
use Rattle.racl_io.specs.declared.totals_and_truncation.Totals.{Totals}
use Rattle.racl_io.specs.Faults.{capture_fault, policy_fault}
use Rattle.racl_io.specs.Reports.{totals_of}
use Rattle.racl_io.specs.ShownReports.{line_shown, lines_shown}
use Rattle.racl_io.specs.declared.totals_and_truncation.Captured.{Captured}
use Rattle.racl_io.specs.Sinks.{GotFront}
use Rattle.racl_io.specs.Tellings.{Wording, lines_by, name_where}
use Rattle.racl_io.specs.Transfers.{GaveAtMost}
use Rattle.racl_views.specs.Hits.{AreHits, latest_second}
use Rattle.racl_views.specs.Stored.{StoredFacts}
use Rattle.racl_views.specs.PartTellings.{AreExplainedLines, AreNamedLines, AreObjectLines, TellsRun}
use Rattle.racl_views.specs.RunEntries.{RunFacts}
use Rattle.filter_run.specs.CaptureReports.{IsLiveFault}
use Rattle.filter_run.specs.Starts.{behind_header}
use Rattle.capture_stream.specs.Savings.{Outputs}
use Rattle.racl_runs.specs.Crews.{AreRestingWith, Orders, orders_of}
use Rattle.racl_runs.specs.declared.sized_tables_and_workers.SizedWorkers.{SizedWorkers}
use Rattle.racl_runs.specs.LiveSaves.{HaveSaved}
use Rattle.racl_runs.specs.Runs.{AgeInTime, AreToldOf, ByOneThread, ByWorkers, ages_in, bucket_deal, keeps_stored, layout_for}
use Rattle.racl_report.specs.ReadInputs.{told_of}
use Rattle.racl_report.specs.RunReports.{AreLines, IsReportOn, sessions_behind, told_facts, view_behind}
use Rattle.racl_report.specs.declared.saved_packets.Saves.{Saves}

-- Workers gave these verdicts, who age where sessions are removed, and no more of them than the words ask for. They are those of
-- the one-thread filter, which forgets nothing, where none of them says no-pages, and ageing is in time.
pub record ByLiveWorkers (options : Options) (policy : PolicyFacts) (packets : List PacketFacts) (verdicts : List Verdict) : Type 0 where
  pub by_workers : ByWorkers options (ages_in options) policy packets verdicts
  pub by_one_thread : HavePages verdicts → AgeInTime by_workers → ByOneThread options.tables options.times policy packets verdicts

-- as many workers as the words ask for judge so: over tables of the size, with the timeouts, and by this policy; and they age where
-- sessions are removed
pub record IsOrderFor (options : Options) (policy : PolicyFacts) (orders : Orders) : Type 0 where
  pub deal : orders.deal ≡ bucket_deal options.tables options.workers
  pub times : orders.times ≡ options.times
  pub ages : orders.ages ≡ ages_in options
  pub policy_is : orders.policy ≡ policy

-- What such workers handed over, as many as the words ask for, who go on: a verdict on each of these packets. Of one worker these
-- are its verdicts; of several they are known to be that when these have ended.
pub record AreFirstVerdicts (T : Type 0) (options : Options) (policy : PolicyFacts) (packets : List PacketFacts) (verdicts : List Verdict) : Type 0 where
  pub workers : SizedWorkers T
  pub by : IsOrderFor options policy (orders_of workers)
  pub rest : AreRestingWith packets verdicts workers
  pub count : length verdicts ≡ length packets
  pub one : options.workers ≡ 1 → ByLiveWorkers options policy packets verdicts

-- One worker gave these verdicts, who ages where that is asked for. They are those of the one-thread filter, which forgets
-- nothing, where none of them says no-pages, and ageing is in time.
pub record ByLoneWorker (options : Options) (policy : PolicyFacts) (packets : List PacketFacts) (verdicts : List Verdict) : Type 0 where
  pub by_workers : ByWorkers options options.ages policy packets verdicts
  pub one : by_workers.workers ≡ 1
  pub by_one_thread : HavePages verdicts → AgeInTime by_workers → ByOneThread options.tables options.times policy packets verdicts

-- a policy was read, and the header of the capture behind which the source has its records
pub record HasHead (text : List ℕ) (before : Option (List ℕ)) : Type 0 where
  pub policy : PolicyFacts
  pub says : IsPolicyText text policy
  pub header : List ℕ
  pub order : Order
  pub right : HasFileHeader order header
  pub whole : length header ≡ 24
  pub left : Option (List ℕ)
  pub consumed : Consumes before left header

-- what is told of a run's packets alone, in the form that is asked for: the report's lines, without those of truncations and the totals
abbrev pub AreFirstLines : Lines → RunFacts → List ℕ → Type 0
AreFirstLines Plain run told = told ≡ lines_shown run.shown None 1 run.verdicts
AreFirstLines Explained run told = AreExplainedLines run told
AreFirstLines Json run told = AreObjectLines run told

-- the same, where each line names its packet's interface
abbrev pub AreNamed : Lines → RunFacts → List ℕ → Type 0
AreNamed Plain run told = told ≡ lines_by (λ n packet verdict. line_shown run.shown (Some packet.interface) n verdict) 1 run.packets run.verdicts
AreNamed Explained run told = AreNamedLines run told
AreNamed Json run told = AreObjectLines run told

-- the second where interfaces are named, else the first
abbrev pub AreLinesBy : Bool → Lines → RunFacts → List ℕ → Type 0
AreLinesBy false = AreFirstLines
AreLinesBy true = AreNamed

-- The wording tells packets by a policy with this text in the form that is asked for, with the names of interfaces or without them:
-- the lines of packets that come are the report's, and what it tells of captures in turn is the report on them. So the text behind a
-- capture and that of the totals are the report's, too: of captures without packets nothing else is told.
abbrev pub TellsBy : Bool → Options → List ℕ → PolicyFacts → Wording → Type 0
TellsBy names options text policy wording =
    TellsRun (name_where names) (AreLinesBy names options.lines) (AreLines options.lines) (record { policy = policy; text = text; shown = options.shown }) wording

-- without them
abbrev pub TellsAsAsked : Options → List ℕ → PolicyFacts → Wording → Type 0
TellsAsAsked = TellsBy false

-- What stands behind the totals of packets with these verdicts: hits, and the sessions that stood in the tables then. Sessions are
-- counted at this second; where they may be removed, those are told that are live then.
pub record IsToldBehind (options : Options) (text : List ℕ) (policy : PolicyFacts) (packets : List PacketFacts) (verdicts : List Verdict) (latest : ℕ) (behind : List ℕ)
    : Type 0 where
  pub by_live : ByLiveWorkers options policy packets verdicts
  pub stored : StoredFacts
  pub kept : keeps_stored options ≡ true → AreToldOf (layout_for options.tables) options.times (ages_in options) latest by_live.by_workers.views stored
  pub hits : List ℕ
  pub told : (captures : List Captured)
      → AreHits options.hits (view_behind options.lines) options.times latest (told_facts policy text packets (record { verdicts = verdicts; captures = captures }) options.shown) stored hits
  pub all : behind ≡ hits ++ sessions_behind options stored

-- The source's bytes are a capture, and this is the report on it.
pub record IsLiveReport (options : Options) (text : List ℕ) (given : Option (List ℕ)) (totals : Totals) (report : List ℕ) : Type 0 where
  pub policy : PolicyFacts
  pub says : IsPolicyText text policy
  pub bytes : List ℕ
  pub known : IfSome given (λ known. bytes ≡ known)
  pub packets : List PacketFacts
  pub truncated : Bool
  pub records : IsCaptureAt 0 bytes packets (end_of truncated)
  pub verdicts : List Verdict
  pub by_live : ByLiveWorkers options policy packets verdicts
  pub stored : StoredFacts
  pub kept : keeps_stored options ≡ true
      → AreToldOf (layout_for options.tables) options.times (ages_in options) (latest_second packets) by_live.by_workers.views stored
  pub told : IsReportOn options text policy packets
      (record { outcome = record { verdicts = verdicts; captures = told_of None packets truncated ∷ [] }; stored = stored }) report
  pub counted : totals ≡ totals_of verdicts (told_of None packets truncated ∷ [])

-- and it was written, and the packets of the capture were saved that it says are dropped, and that pass
pub record HasRunLive {S : Type 0} (sink : S → Option (List ℕ)) (options : Options) (text : List ℕ) (given : Option (List ℕ)) (old new : Outputs (Saves S))
    (totals : Totals) : Type 0 where
  pub report : List ℕ
  pub is : IsLiveReport options text given totals report
  pub written : Appends old.report new.report report
  pub saved : HaveSaved sink is.bytes is.verdicts old.saver new.saver

-- or a write failed behind a front of it, when all was read
pub record HasCutLive (options : Options) (text : List ℕ) (given after old new : Option (List ℕ)) (fault : Fault) : Type 0 where
  pub failed : fault ≡ Write
  pub ended : IsAtEnd after
  pub totals : Totals
  pub report : List ℕ
  pub is : IsLiveReport options text given totals report
  pub front : GotFront old new report

-- Memory ran out, a read or a write failed, or the policy or the header has the fault, which is all that the source has or 24
-- bytes. No more was read.
abbrev pub IsEarlyFault : List ℕ → Option (List ℕ) → Option (List ℕ) → Fault → Type 0
IsEarlyFault text before after fault = GaveAtMost before after 24
    × ((fault ≡ Memory) ⊎ (fault ≡ Read) ⊎ (fault ≡ Write) ⊎ ((cause : PolicyFault) × IsPolicyFault text cause × (fault ≡ policy_fault cause))
    ⊎ ((policy : PolicyFacts) × IsPolicyText text policy × (cause : CaptureFault) × (header : List ℕ) × Consumes before after header
    × (length header < 24 → IsAtEnd after) × IsHeaderFault header cause × (fault ≡ capture_fault cause)))

-- Why the report isn't whole: nothing was written, nor saved unless a write failed; or the first lines were, and so were the
-- packets that they tell, as a capture that ends there; or a front of the report. What is written after each read is a front of
-- the report on what was read.
abbrev pub IsLiveRunFault : {S : Type 0} → Type 0 → (S → Option (List ℕ)) → Options → List ℕ → Option (List ℕ) → Option (List ℕ) → Outputs (Saves S) → Outputs (Saves S)
    → Fault → Type 0
IsLiveRunFault T sink options text before after old new fault =
    (IsEarlyFault text before after fault × (new.report ≡ old.report) × (fault ≢ Write → new.saver ≡ old.saver))
    ⊎ ((head : HasHead text before) × (wording : Wording) × TellsAsAsked options text head.policy wording
    × IsLiveFault (AreFirstVerdicts T options)
    (record { wording = wording; saved = λ before order records verdicts after. HaveSaved sink (head.header ++ records) verdicts before after }) head.policy (behind_header head.order) head.left after old new fault)
    ⊎ HasCutLive options text before after old.report new.report fault
