-- A run over the packets of one shard of a capture.
use Rattle.std.proofs.Common.{◌≡◌, ◌++◌, ℕ, List, Option, Some, Result, Ok, Err, MatchResult, inl, inr, subst}
use Rattle.packet_view.specs.Captures.{end_of, packets_at}
use Rattle.packet_view.specs.declared.capture.Order.{Order}
use Rattle.acl_policy.specs.Policies.{IsPolicyText, PolicyFacts}
use Rattle.racl_io.specs.declared.fault.Fault.{Fault}
use Rattle.racl_io.specs.declared.totals_and_truncation.Totals.{Totals}
use Rattle.racl_io.specs.Tellings.{Wording}
use Rattle.racl_options.specs.ShardWords.{shard_facts}
use Rattle.racl_options.specs.declared.settings.Options.{Options}
use Rattle.racl_options.specs.declared.settings.ShardAsked.{ShardAsked}
use Rattle.filter_run.specs.Starts.{Start, behind_header}
use Rattle.capture_stream.specs.Savings.{manner_of, outputs}
use Rattle.filter_run.proofs.OwnTellLemmas.{own_fault_as}
use Rattle.racl_report.specs.declared.saved_packets.Saves.{Saves}
use Rattle.capture_shards.specs.Shards.{IsOwnOf, Own}
use Rattle.capture_shards.specs.declared.shard.Shard.{Shard}
use Rattle.capture_shards.specs.inner.OwnTests.{own_of}
use Rattle.capture_shards.proofs.OwnTestLemmas.{own_is}
use Rattle.racl_runs.specs.LiveRuns.{AreFirstVerdicts, TellsAsAsked}
use Rattle.racl_runs.specs.Runs.{layout_for}
use Rattle.racl_runs.specs.ShardRuns.{AreOwn, HasRunShard, IsShardFault, IsShardReport, Note, shard_note}
use Rattle.racl_report.specs.RunReports.{view_behind}
use Rattle.racl_views.specs.ShardLines.{shard_told}
use Rattle.racl_runs.specs.declared.live_saves.LiveSaves.{LiveSaves}
use Rattle.racl_runs.specs.inner.Heads.{HasReadHeader}
use Rattle.racl_runs.specs.inner.Kept.{HaveGot}
use Rattle.racl_runs.specs.inner.OwnRuns.{IsOwnReportBehind, IsShardOver, TellsOwn, note_for}
use Rattle.racl_runs.proofs.LiveLemmas.{head_in, whole_capture}
use Rattle.racl_runs.proofs.LiveSaveLemmas.{Keeps, SavesBehind, first_saved}
use Rattle.racl_runs.proofs.ShardSaveLemmas.{own_saved}

-- the shard's packets are those that it is asked for
pub own_asked : (options : Options) (asked : ShardAsked) (shard : Shard) → IsShardOver options.tables asked shard → AreOwn options (shard_facts asked) (own_of shard)
own_asked options asked shard is =
    subst (λ c. IsOwnOf (layout_for options.tables) c asked.number (own_of shard)) is.count
    (subst (λ n. IsOwnOf (layout_for options.tables) shard.count n (own_of shard)) is.number (own_is (layout_for options.tables) shard is.over))

-- what is said of it is said of the one that is asked for
note_is : (options : Options) (asked : ShardAsked) (shard : Shard) → IsShardOver options.tables asked shard → note_for options (Some shard) ≡ shard_note options (shard_facts asked)
note_is options asked shard over = λ i packets latest.
    shard_told (view_behind options.lines) (record { number = over.number i; count = over.count i; packets = packets; latest = latest })

-- all bytes were read, and this is the report on them
pub shard_report : (options : Options) (asked : ShardAsked) (text : List ℕ) (before left after : Option (List ℕ)) (policy : PolicyFacts) (order : Order) (wording : Wording) (own : Own)
    (totals : Totals) (report : List ℕ) → IsPolicyText text policy → TellsAsAsked options text policy wording → AreOwn options (shard_facts asked) own → HasReadHeader before left order
    → IsOwnReportBehind options text (shard_note options (shard_facts asked)) wording policy own (behind_header order) left after totals report → IsShardReport options (shard_facts asked) text before totals report
shard_report options asked text before left after policy order wording own totals report says tells mine head is =
    let (known, records) = whole_capture before left after order head is.read is.rest is.packets is.truncated is.consumed is.ended is.records is.end in
    record {
      policy = policy;
      says = says;
      bytes = head.header ++ is.read;
      known = known;
      packets = packets_at 0 is.packets;
      truncated = is.truncated;
      records = records;
      own = own;
      mine = mine;
      wording = wording;
      tells = tells;
      is = is.is;
    }

-- the report was written and packets saved, or why they weren't
module _ {S : Type 0} (T : Type 0) (sink : S → Option (List ℕ)) (failures : S → ℕ) (options : Options) (asked : ShardAsked) (text : List ℕ) (before left after old new : Option (List ℕ))
    (policy : PolicyFacts) (says : IsPolicyText text policy) (order : Order) (header : HasReadHeader before left order) (first : Saves S) (mid last : LiveSaves S)
    (got : HaveGot sink header.header first mid.files) (shard : Shard) (over : IsShardOver options.tables asked shard) where
  abbrev own : Own
  own = own_of shard

  mine : AreOwn options (shard_facts asked) own
  mine = own_asked options asked shard over

  shard_ends_behind : (wording : Wording) (result : Result Totals Fault) → TellsAsAsked options text policy wording
      → TellsOwn T options text (shard_note options (shard_facts asked)) (manner_of wording (Keeps sink failures)) policy own (behind_header order) left after (outputs old mid) (outputs new last)
      result
      → MatchResult result (HasRunShard sink options (shard_facts asked) text before (outputs old first) (outputs new last.files))
      (IsShardFault T sink options (shard_facts asked) text before after (outputs old first) (outputs new last.files))
  unfolding shard_report mine
  shard_ends_behind wording (Ok totals) tells told = record {
    report = told.report;
    is = shard_report options asked text before left after policy order wording own totals told.report says tells mine header told.is;
    written = told.written;
    records = told.is.packets;
    saved = own_saved sink failures own order header.header told.is.read told.is.rest (end_of told.is.truncated) told.is.packets told.pieces told.is.is.verdicts first mid last
        header.headed header.whole told.is.records told.each told.spelt told.is.end got told.saved;
  }
  shard_ends_behind wording (Err fault) tells (inl why) = inr (inl (
    head_in policy says order header,
    wording,
    tells,
    own,
    mine,
    own_fault_as (AreFirstVerdicts T options) (AreFirstVerdicts T options) wording (Keeps sink failures) (SavesBehind sink header.header) policy policy (λ packets verdicts by. by) own
        (behind_header order) left after old new mid last first last.files
        (λ bytes verdicts saved. first_saved sink failures order header.header bytes verdicts first mid.files last.files header.headed header.whole got saved) fault why,
  ))
  shard_ends_behind wording (Err fault) tells (inr cut) = inr (inr (record {
    failed = cut.failed;
    ended = cut.is.ended;
    totals = cut.totals;
    report = cut.report;
    is = shard_report options asked text before left after policy order wording own cut.totals cut.report says tells mine header cut.is;
    front = cut.front;
  }))

  pub shard_ends : (start : Start) (wording : Wording) (result : Result Totals Fault) → start ≡ behind_header order → TellsAsAsked options text policy wording
      → TellsOwn T options text (note_for options (Some shard)) (manner_of wording (Keeps sink failures)) policy own start left after (outputs old mid) (outputs new last) result
      → MatchResult result (HasRunShard sink options (shard_facts asked) text before (outputs old first) (outputs new last.files))
      (IsShardFault T sink options (shard_facts asked) text before after (outputs old first) (outputs new last.files))
  unfolding shard_ends_behind
  shard_ends start wording result same tells told =
      shard_ends_behind wording result tells
      (subst (λ (n : Note). TellsOwn T options text n (manner_of wording (Keeps sink failures)) policy own (behind_header order) left after (outputs old mid) (outputs new last) result)
      (note_is options asked shard over)
      (subst (λ (s : Start). TellsOwn T options text (note_for options (Some shard)) (manner_of wording (Keeps sink failures)) policy own s left after (outputs old mid) (outputs new last) result)
      same told))
