-- A run on one capture whose packets are one's own, or a shard's: what it tells behind the capture's header.
use Rattle.std.specs.Prelude.{◌≡◌, ◌≤◌, ◌⊎◌, ◌++◌, ℕ, Bool, List, Option, None, Some, Result, MatchResult, length}
use Rattle.std.specs.List.{AllZip, concat}
use Rattle.std.specs.Io.KnownBytes.{Appends, Consumes, IsAtEnd}
use Rattle.packet_view.specs.Captures.{AreRecords, IsEnd, RecordFacts, end_of, packets_at}
use Rattle.acl_policy.specs.Policies.{PolicyFacts}
use Rattle.racl_io.specs.declared.fault.Fault.{Fault}
use Rattle.racl_io.specs.declared.fault.Fault.TheVariants.{Write}
use Rattle.racl_io.specs.declared.totals_and_truncation.Totals.{Totals}
use Rattle.racl_io.specs.Sinks.{GotFront}
use Rattle.racl_io.specs.Tellings.{Wording}
use Rattle.racl_options.specs.declared.settings.Options.{Options}
use Rattle.racl_options.specs.declared.settings.ShardAsked.{ShardAsked}
use Rattle.racl_options.specs.declared.settings.TableSize.{TableSize}
use Rattle.capture_stream.specs.Savings.{Manner, Outputs}
use Rattle.filter_run.specs.Starts.{Start, most_at}
use Rattle.capture_shards.specs.OwnRecords.{IsWholeRecord}
use Rattle.capture_shards.specs.Shards.{IsOver, Own, own_in, own_packets}
use Rattle.capture_shards.specs.declared.shard.Shard.{Shard}
use Rattle.racl_runs.specs.Runs.{layout_for}
use Rattle.racl_runs.specs.ShardRuns.{IsOwnFault, IsOwnReport, Note, no_note}
use Rattle.racl_report.specs.RunReports.{view_behind}
use Rattle.racl_views.specs.ShardLines.{shard_told}

-- the shard that is asked for, over tables of this size
pub record IsShardOver (size : TableSize) (asked : ShardAsked) (shard : Shard) : Type 0 where
  pub over : IsOver (layout_for size) shard
  pub number : shard.number ≡ asked.number
  pub count : shard.count ≡ asked.count

-- what is said right behind the totals: of a shard, where there is one
abbrev pub note_for : Options → Option Shard → Note
note_for options None = no_note
note_for options (Some shard) = λ packets latest. shard_told (view_behind options.lines)
    (record { number = shard.number; count = shard.count; packets = packets; latest = latest })

-- all of a capture behind its header was read, and this is the report on one's own packets
pub record IsOwnReportBehind (options : Options) (text : List ℕ) (note : Note) (wording : Wording) (policy : PolicyFacts) (own : Own) (start : Start)
    (before after : Option (List ℕ)) (totals : Totals) (report : List ℕ) : Type 0 where
  pub read : List ℕ
  pub consumed : Consumes before after read
  pub ended : IsAtEnd after
  pub packets : List RecordFacts
  pub rest : List ℕ
  pub records : AreRecords start.order (start.front ++ read) packets rest
  pub few : length (start.front ++ read) ≤ most_at start.input
  pub truncated : Bool
  pub end : IsEnd start.order rest (end_of truncated)
  pub is : IsOwnReport options text note wording policy own (packets_at 0 packets) truncated totals report
  pub count : length is.verdicts ≡ length (own_packets own 1 (packets_at 0 packets))

-- a write failed behind a front of it
pub record HasCutOwn (options : Options) (text : List ℕ) (note : Note) (wording : Wording) (policy : PolicyFacts) (own : Own) (start : Start)
    (before after old new : Option (List ℕ)) (fault : Fault) : Type 0 where
  pub failed : fault ≡ Write
  pub totals : Totals
  pub report : List ℕ
  pub is : IsOwnReportBehind options text note wording policy own start before after totals report
  pub front : GotFront old new report

-- or it was written, and what saves packets was given the records of these, as they stand there
pub record HasToldOwn {K : Type 0} (options : Options) (text : List ℕ) (note : Note) (manner : Manner K) (policy : PolicyFacts) (own : Own) (start : Start)
    (before after : Option (List ℕ)) (old new : Outputs K) (totals : Totals) : Type 0 where
  pub report : List ℕ
  pub is : IsOwnReportBehind options text note manner.wording policy own start before after totals report
  pub written : Appends old.report new.report report
  pub pieces : List (List ℕ)
  pub each : AllZip (IsWholeRecord start.order) pieces is.packets
  pub spelt : start.front ++ is.read ≡ concat pieces ++ is.rest
  pub saved : manner.saved old.saver start.order (concat (own_in own 1 (packets_at 0 is.packets) pieces)) is.is.verdicts new.saver

-- so, or why it wasn't
abbrev pub TellsOwn : {K : Type 0} → Type 0 → Options → List ℕ → Note → Manner K → PolicyFacts → Own → Start → Option (List ℕ) → Option (List ℕ) → Outputs K → Outputs K
    → Result Totals Fault → Type 0
TellsOwn T options text note manner policy own start before after old new result =
    MatchResult result (HasToldOwn options text note manner policy own start before after old new)
    (λ fault. IsOwnFault T options manner policy own start before after old new fault
    ⊎ HasCutOwn options text note manner.wording policy own start before after old.report new.report fault)
