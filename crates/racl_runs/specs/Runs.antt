-- What a run has filtered, from the bytes of its input.
use Rattle.std.specs.Prelude.{◌≡◌, ◌≤◌, ◌||◌, ℕ, Bool, true, false, List, Option, Some, IfSome, All, MatchResult, Result}
use Rattle.std.specs.Io.KnownBytes.{Appends}
use Rattle.packet_view.specs.Captures.{PacketFacts}
use Rattle.packet_view.specs.declared.tuple.Family.{Family}
use Rattle.acl_policy.specs.Policies.{PolicyFacts}
use Rattle.bihash_words.specs.Hash.{hash_of}
use Rattle.session_state.specs.declared.timeouts.Timeouts.{Timeouts}
use Rattle.session_state.specs.declared.verdict.Verdict.{Verdict}
use Rattle.flow_filter.specs.OneThread.{AreVerdicts, Layout}
use Rattle.flow_dealing.specs.declared.worker_of_flow.Dealing.TheVariants.{Bucket}
use Rattle.flow_dealing.specs.Dealings.{Deal}
use Rattle.flow_dealing.specs.Places.{PassByRecords}
use Rattle.flow_dealing.specs.Views.{Views}
use Rattle.flow_dealing.specs.WorkerRecords.{AreFewBetween, AreInTimeOrder, AreJudgedAgeing, AreWithinLimit, HasPagesIn, HavePages}
use Rattle.flow_workers.specs.Stored.{AreStored}
use Rattle.racl_options.specs.declared.settings.Options.{Options}
use Rattle.racl_options.specs.declared.settings.TableSize.{TableSize}
use Rattle.racl_options.specs.declared.settings.TableSize.TheVariants.{Standard, Large}
use Rattle.racl_io.specs.declared.fault.Fault.{Fault}
use Rattle.racl_io.specs.Faults.{IsSystemFault}
use Rattle.racl_io.specs.declared.totals_and_truncation.Totals.{Totals}
use Rattle.racl_io.specs.Reports.{totals_of}
use Rattle.racl_views.specs.Hits.{latest_second}
use Rattle.racl_views.specs.Stored.{StoredFacts, live_at}
use Rattle.racl_report.specs.ReadInputs.{IsRead}
use Rattle.racl_report.specs.RunReports.{IsReport, Outcome}

-- ---- verdicts

-- whether sessions that have ended are removed: in a live run, which may never end, and where that is asked for
abbrev pub ages_in : Options → Bool
ages_in options = options.live || options.ages

-- The tables that the words ask for. Standard ones have 4096 buckets and 16384 pages for IPv4, 1024 buckets and 4096 pages for
-- IPv6; large ones 65536 buckets and 262144 pages for each family. A bucket holds at most 256 pairs and changes at most
-- 8589934591 times.
abbrev pub layout_for : TableSize → Layout
layout_for Standard = record {
  four = record { key_words = 2; log2_buckets = 12; pages = 16384; max_log2 = 6; limit = 8589934591; callers = 65535; hash = hash_of };
  six = record { key_words = 5; log2_buckets = 10; pages = 4096; max_log2 = 6; limit = 8589934591; callers = 65535; hash = hash_of };
}
layout_for Large = record {
  four = record { key_words = 2; log2_buckets = 16; pages = 262144; max_log2 = 6; limit = 8589934591; callers = 65535; hash = hash_of };
  six = record { key_words = 5; log2_buckets = 16; pages = 262144; max_log2 = 6; limit = 8589934591; callers = 65535; hash = hash_of };
}

-- packets are dealt by bucket to so many workers
abbrev pub bucket_deal : TableSize → ℕ → Deal
bucket_deal size workers = record { layout = layout_for size; dealing = Bucket; workers = workers }

-- those of the one-thread filter
abbrev pub ByOneThread : TableSize → Timeouts → PolicyFacts → List PacketFacts → List Verdict → Type 0
ByOneThread size times policy packets verdicts = AreVerdicts (layout_for size) times policy packets verdicts

-- Those that some workers gave who age or don't, and no more workers than the words ask for; and what they know then. No packet
-- of a family's flows is refused for want of pages where the family has at most 256 such packets, and removals of sessions, for
-- IPv4, 64 for IPv6; over large tables 4096 for each. Each packet of a flow passes by what stands at the place of its own call.
pub record ByWorkers (options : Options) (ages : Bool) (policy : PolicyFacts) (packets : List PacketFacts) (verdicts : List Verdict) : Type 0 where
  pub workers : ℕ
  pub some : 1 ≤ workers
  pub few : workers ≤ options.workers
  pub views : Views
  pub said : AreJudgedAgeing (bucket_deal options.tables workers) options.times ages policy packets verdicts views
  pub paged : (family : Family) → AreFewBetween (layout_for options.tables) family said.removals said.judged.judged
      → All (HasPagesIn family) said.judged.judged
  pub places : PassByRecords said.judged

-- where they age, the packets' moments never fall, and packets and removals are no more than the writes that a bucket may have
abbrev pub AgeInTime : {options : Options} {ages : Bool} {policy : PolicyFacts} {packets : List PacketFacts} {verdicts : List Verdict}
    → ByWorkers options ages policy packets verdicts → Type 0
AgeInTime {options = options} {ages = ages} {packets = packets} by =
    ages ≡ true → AreInTimeOrder packets × AreWithinLimit (bucket_deal options.tables by.workers) packets by.said.removals

-- ---- sessions that stand in tables at the end

-- whether what is told needs them
abbrev pub keeps_stored : Options → Bool
keeps_stored options = options.hits || options.sessions

-- the pairs of both families' tables, where this is what all callers know together
pub record AreStoredOf (layout : Layout) (views : Views) (stored : StoredFacts) : Type 0 where
  pub four : AreStored layout.four views.four.known stored.four
  pub six : AreStored layout.six views.six.known stored.six

-- what is told of them: all, or those that are live at a second, where sessions that have ended may be removed
abbrev pub told_at : Timeouts → Bool → ℕ → StoredFacts → StoredFacts
told_at times false latest stored = stored
told_at times true latest stored = live_at times latest stored

-- so much is told of the pairs of both families' tables
pub record AreToldOf (layout : Layout) (times : Timeouts) (ages : Bool) (latest : ℕ) (views : Views) (told : StoredFacts) : Type 0 where
  pub stored : StoredFacts
  pub are : AreStoredOf layout views stored
  pub told_is : told ≡ told_at times ages latest stored

-- ---- outcomes

-- the bytes are an input on which the one-thread filter comes to this outcome over tables of this size
pub record HasOutcome (size : TableSize) (times : Timeouts) (bytes : List ℕ) (outcome : Outcome) : Type 0 where
  pub policy : PolicyFacts
  pub packets : List PacketFacts
  pub read : IsRead bytes policy packets outcome.captures
  pub verdicts : ByOneThread size times policy packets outcome.verdicts

-- ---- runs

-- An input was read, workers gave these verdicts on its packets, and after what was written before stands the report on it.
-- The verdicts are those of the one-thread filter, which forgets nothing, where none of them says no-pages, and ageing is in
-- time. The sessions that are told stood in the tables when these workers had ended; where workers age, these are the ones that are
-- live at the latest second of any packet. Where it is known which bytes the reader gives, these are the input.
pub record HasRun (options : Options) (given old new : Option (List ℕ)) (totals : Totals) : Type 0 where
  pub bytes : List ℕ
  pub known : IfSome given (λ known. bytes ≡ known)
  pub policy : PolicyFacts
  pub packets : List PacketFacts
  pub outcome : Outcome
  pub read : IsRead bytes policy packets outcome.captures
  pub by_workers : ByWorkers options (ages_in options) policy packets outcome.verdicts
  pub stored : StoredFacts
  pub kept : keeps_stored options ≡ true → AreToldOf (layout_for options.tables) options.times (ages_in options) (latest_second packets) by_workers.views stored
  pub by_one_thread : HavePages outcome.verdicts → AgeInTime by_workers → ByOneThread options.tables options.times policy packets outcome.verdicts
  pub report : List ℕ
  pub told : IsReport options bytes policy packets (record { outcome = outcome; stored = stored }) report
  pub text : Appends old new report
  pub counted : totals ≡ totals_of outcome.verdicts outcome.captures

-- Bytes that are an input get the report on them: the outcome of the one-thread filter, or one of workers that says no-pages or
-- whose ageing isn't in time. Or memory ran out or a device failed.
abbrev pub AnswersRight : Options → List ℕ → Option (List ℕ) → Option (List ℕ) → Result Totals Fault → Type 0
AnswersRight options bytes old new result = (outcome : Outcome) → HasOutcome options.tables options.times bytes outcome
    → MatchResult result (λ totals. (run : HasRun options (Some bytes) old new totals)
    × (HavePages run.outcome.verdicts → AgeInTime run.by_workers → outcome ≡ run.outcome)) IsSystemFault
