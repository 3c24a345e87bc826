-- The end of a run on a capture whose packets are one's own, or a shard's.
use Rattle.std.proofs.Common.{◌≡◌, ◌∙◌, ◌++◌, ℕ, Bool, true, List, [], ◌∷◌, None, Option, Some, ap, ap₂, inl, inr, max, refl, subst, sym, length}
use Rattle.std.proofs.KnownBytes.{Appends-trans}
use Rattle.std.proofs.lemmas.List.{length-map}
use Rattle.std.specs.Io.KnownBytes.{Appends}
use Rattle.std.specs.Prelude.{◌⊎◌, IfSome}
use Rattle.packet_view.specs.Captures.{PacketFacts, packet_at, packets_at}
use Rattle.packet_view.specs.declared.capture.Order.{Order}
use Rattle.acl_policy.specs.Policies.{PolicyFacts, policy_facts}
use Rattle.session_state.specs.declared.verdict.Verdict.{Verdict}
use Rattle.racl_io.specs.declared.fault.Fault.{Fault}
use Rattle.racl_io.specs.declared.fault.Fault.TheVariants as fault
use Rattle.racl_io.specs.Tellings.{IsTellingFault, Wording, end_alone, end_in, told_alone}
use Rattle.racl_io.specs.declared.totals_and_truncation.Captured.{Captured}
use Rattle.racl_io.proofs.TellingLemmas.{front_on}
use Rattle.racl_options.specs.declared.settings.Options.{Options}
use Rattle.capture_stream.specs.Lives.{AreCounted}
use Rattle.capture_stream.specs.Savings.{Outputs, manner_of, outputs}
use Rattle.filter_run.specs.OwnReports as share
use Rattle.filter_run.specs.OwnReports.{HasToldAllOwn, HasToldOwnSome, own_lines}
use Rattle.filter_run.specs.Starts.{Start}
use Rattle.filter_run.specs.declared.own_report.ReportedShare.{ReportedShare}
use Rattle.filter_run.proofs.OwnTellLemmas.{judged_as, own_fault_as}
use Rattle.capture_shards.specs.OwnRecords.{latest_of}
use Rattle.capture_shards.specs.Shards.{Own, own_packets}
use Rattle.capture_shards.specs.declared.shard.Shard.{Shard}
use Rattle.racl_runs.specs.Crews.{AreAsAsked}
use Rattle.racl_runs.specs.LiveRuns.{AreFirstVerdicts, IsToldBehind}
use Rattle.racl_runs.specs.ShardRuns.{IsOwnFault, Note}
use Rattle.racl_views.specs.Hits.{latest_second}
use Rattle.racl_runs.specs.declared.counted_judging.Counted.{Counted}
use Rattle.racl_runs.specs.declared.live_run.LiveWay.{LiveWay}
use Rattle.racl_runs.specs.declared.sized_tables_and_workers.SizedTables.{SizedTables}
use Rattle.racl_runs.specs.inner.LiveEnds.{AreBegun}
use Rattle.racl_runs.specs.inner.OwnRuns.{HasCutOwn, HasToldOwn, IsOwnReportBehind, note_for}
use Rattle.racl_runs.proofs.LiveLemmas.{CountedSaid, first_verdicts}
use Rattle.racl_runs.specs.Runs.{ages_in}

pub said_counts : {T : Type 0} → AreCounted (CountedSaid {T = T})
said_counts begun packets said are = are.count

-- what is said of a shard of as many packets with the same latest second is the same
pub note_same : (options : Options) (shard : Option Shard) (n m k l : ℕ) → n ≡ m → IfSome shard (λ _. k ≡ l) → note_for options shard n k ≡ note_for options shard m l
note_same options None n m k l same at = refl
note_same options (Some shard) n m k l same at = ap₂ (note_for options (Some shard)) same at

-- the latest second
pub latest_same : (packets : List PacketFacts) → latest_of packets ≡ latest_second packets
latest_same [] = refl
latest_same (p ∷ packets) = ap (max p.moment) (latest_same packets)

module _ {T K : Type 0} (way : LiveWay) (tables : SizedTables) (counted : Counted T) (is : AreBegun way tables counted)
    (asked : AreAsAsked way.options.now.tables (ages_in way.options.now) tables) (times : way.filter.now.times ≡ way.options.now.times) (wording : Wording)
    (Saved : K → Order → List ℕ → List Verdict → K → Type 0) (own : Own) (start : Start) (before after : Option (List ℕ)) (old mid : Outputs K) where
  abbrev options : Options
  options = way.options.now

  abbrev policy : PolicyFacts
  policy = policy_facts way.filter.now.policy.now

  abbrev Judged : PolicyFacts → List PacketFacts → List Verdict → Type 0
  Judged = AreFirstVerdicts T options

  tells : (packets : List PacketFacts) (verdicts : List Verdict) → CountedSaid counted packets verdicts → AreFirstVerdicts T options policy packets verdicts
  tells packets verdicts said = first_verdicts way tables counted packets verdicts is asked times said

  -- not all was told
  pub own_fault : (found : Fault) → share.IsOwnFault CountedSaid (manner_of wording Saved) counted own start before after old mid found
      → IsOwnFault T options (manner_of wording Saved) policy own start before after old mid found
  unfolding tells
  own_fault found why =
      own_fault_as CountedSaid Judged wording Saved Saved counted policy tells own start before after old.report mid.report old.saver mid.saver old.saver mid.saver
      (λ mine verdicts saved. saved) found why

  module _ {Became : Counted T → List PacketFacts → List Verdict → Counted T → Type 0} (noted : Bool) (told : ReportedShare (Counted T))
      (all : HasToldAllOwn Became CountedSaid (manner_of wording Saved) counted noted own start before after old mid told) where
    abbrev packets : List PacketFacts
    packets = packets_at 0 all.all.by.packets

    abbrev said : List Verdict
    said = all.all.by.verdicts

    -- of one's own packets their lines were written, and no more
    some_told : (new : Option (List ℕ)) → new ≡ mid.report → HasToldOwnSome Judged (manner_of wording Saved) policy own start before after old (outputs new mid.saver) all.rest
    unfolding tells
    some_told new same = record {
      by = judged_as CountedSaid Judged wording Saved Saved counted policy tells own start before after old.report mid.report old.saver mid.saver old.saver mid.saver
          (λ mine verdicts saved. saved) all.rest all.all.by;
      text = subst (λ b. Appends old.report b (own_lines wording own packets said)) (sym same) all.all.text;
      saved = all.all.saved;
    }

    -- memory ran out
    pub own_unwritten : IsOwnFault T options (manner_of wording Saved) policy own start before after old mid fault.Memory
    unfolding some_told
    own_unwritten = (all.rest, some_told mid.report refl)

    -- the latest second is that of all packets, where it is noted
    pub latest_of_all : noted ≡ true → told.latest ≡ latest_second packets
    latest_of_all asked_for = all.latest asked_for ∙ latest_same packets

    -- all packets were seen
    pub seen_all : told.seen ≡ length packets
    seen_all = all.seen ∙ sym (length-map all.all.by.packets (packet_at 0))

    module _ (note : Note) (behind text : List ℕ) (is_behind : IsToldBehind options way.text.now policy (own_packets own 1 packets) said (latest_second packets) behind)
        (text_is : text ≡ note (length packets) (latest_second packets) ++ behind) (new : Option (List ℕ)) where
      abbrev end : List ℕ
      end = end_alone wording told.totals ++ text

      abbrev report : List ℕ
      report = own_lines wording own packets said ++ end

      is_report : IsOwnReportBehind options way.text.now note wording policy own start before after told.totals report
      is_report = record {
        read = all.all.by.read;
        consumed = all.all.by.consumed;
        ended = all.ended;
        packets = all.all.by.packets;
        rest = all.rest;
        few = all.few;
        records = all.all.by.records;
        truncated = all.truncated;
        end = all.end;
        is = record {
          verdicts = said;
          behind = behind;
          told = is_behind;
          counted = all.counted;
          all = ap (λ (t : List ℕ). own_lines wording own packets said ++ (end_alone wording told.totals ++ t)) text_is;
        };
        count = all.all.by.count;
      }

      pub own_end_told : (at : Wording) (captures : List Captured) → at ≡ wording → captures ≡ told_alone told.totals.packets told.totals.truncated
          → Appends mid.report new (end_in at captures told.totals ++ text)
          → HasToldOwn options way.text.now note (manner_of wording Saved) policy own start before after old (outputs new mid.saver) told.totals
      unfolding is_report
      own_end_told at captures same alone more = record {
        report = report;
        is = is_report;
        written = Appends-trans old.report mid.report new (own_lines wording own packets said) end all.all.text
            (subst (λ (w : Wording). Appends mid.report new (end_alone w told.totals ++ text)) same
            (subst (λ (cs : List Captured). Appends mid.report new (end_in at cs told.totals ++ text)) alone more));
        pieces = all.all.by.pieces;
        each = all.all.by.each;
        spelt = all.all.by.spelt;
        saved = all.all.saved;
      }

      fault_at_end : (found : Fault) → IsTellingFault mid.report new end found
          → IsOwnFault T options (manner_of wording Saved) policy own start before after old (outputs new mid.saver) found
          ⊎ HasCutOwn options way.text.now note wording policy own start before after old.report new found
      unfolding is_report some_told
      fault_at_end fault.Memory same = inl (all.rest, some_told new same)
      fault_at_end fault.Write front = inr (record {
        failed = refl;
        totals = told.totals;
        report = report;
        is = is_report;
        front = front_on old.report mid.report new (own_lines wording own packets said) end all.all.text front;
      })
      fault_at_end found wrong = absurd wrong

      pub own_end_fault : (found : Fault) (at : Wording) (captures : List Captured) → at ≡ wording → captures ≡ told_alone told.totals.packets told.totals.truncated
          → IsTellingFault mid.report new (end_in at captures told.totals ++ text) found
          → IsOwnFault T options (manner_of wording Saved) policy own start before after old (outputs new mid.saver) found
          ⊎ HasCutOwn options way.text.now note wording policy own start before after old.report new found
      unfolding fault_at_end
      own_end_fault found at captures same alone why =
          fault_at_end found (subst (λ (w : Wording). IsTellingFault mid.report new (end_alone w told.totals ++ text) found) same
          (subst (λ (cs : List Captured). IsTellingFault mid.report new (end_in at cs told.totals ++ text) found) alone why))
