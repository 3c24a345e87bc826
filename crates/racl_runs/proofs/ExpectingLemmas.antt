-- A run over a capture whose verdicts are compared with expected ones.
use Rattle.std.proofs.KnownBytes.{Appends-trans}
use Rattle.std.proofs.Common.{◌≡◌, ◌∙◌, ◌++◌, ℕ, Bool, List, Option, Result, Ok, Err, ap, ap₂, arith, inl, inr, length, refl, subst, sym}
use Rattle.std.specs.Prelude.{◌⊎◌}
use Rattle.std.proofs.lemmas.List.{length-map}
use Rattle.std.specs.Io.KnownBytes.{Appends}
use Rattle.packet_view.specs.Captures.{PacketFacts, packet_at, packets_at}
use Rattle.packet_view.specs.declared.capture.Order.{Order}
use Rattle.acl_policy.specs.Policies.{IsPolicyText, PolicyFacts}
use Rattle.session_state.specs.declared.verdict.Verdict.{Verdict}
use Rattle.racl_options.specs.declared.settings.Options.{Options}
use Rattle.racl_io.specs.declared.fault.Fault.{Fault}
use Rattle.racl_io.specs.declared.fault.Fault.TheVariants as fault
use Rattle.racl_io.specs.declared.totals_and_truncation.Totals.{Totals}
use Rattle.racl_io.specs.Reports.{totals_of}
use Rattle.racl_io.specs.Sinks.{GotFront}
use Rattle.racl_io.specs.Tellings.{IsTellingFault, Wording, end_alone, lines_in, told_alone, with_write}
use Rattle.racl_io.proofs.TellingLemmas.{alone_truncated, front_on}
use Rattle.filter_run.specs.Starts.{Start, behind_header}
use Rattle.capture_stream.specs.Lives.{HaveFailed}
use Rattle.capture_stream.specs.Savings.{Manner, Outputs}
use Rattle.filter_run.specs.CaptureReports.{HasJudgedAll, HasToldAll, HasToldSome, IsLiveFault}
use Rattle.filter_run.specs.declared.capture_report.ReportedCapture.{ReportedCapture}
use Rattle.compared_verdicts.specs.Meeting.{are_met, end_of, met_told, told_of, unmet_wording}
use Rattle.compared_verdicts.specs.declared.expectation.Expectation.{Expectation}
use Rattle.compared_verdicts.proofs.MeetingLemmas.{lines_told}
use Rattle.racl_runs.specs.ExpectingRuns.{ComparesAll, EndsExpecting, HasComparedAll, HasCutEnd, HasJudgedCapture, manner_by, output}
use Rattle.racl_runs.specs.inner.Heads.{HasReadHeader}
use Rattle.racl_runs.specs.declared.expecting_run.Compared.{Compared}
use Rattle.racl_runs.specs.LiveRuns.{ByLoneWorker}
use Rattle.racl_runs.proofs.LiveLemmas.{head_in, whole_capture}

-- where nothing is saved, only the report's device fails
pub write_failed : (written writing saved : ℕ) (found : Fault) → HaveFailed written writing saved saved found → writing ≡ with_write written found
write_failed written writing saved fault.Write (inl failed) = failed.0
write_failed written writing saved fault.Write (inr failed) = let more = failed.1 in absurd (omega (arith, more))
write_failed written writing saved fault.Memory failed = failed.0
write_failed written writing saved found failed = failed.0

-- what is told from a start that is right behind a header is told from there
pub told_at_header : {J K : Type 0} {Became : J → List PacketFacts → List Verdict → J → Type 0} {Judged : J → List PacketFacts → List Verdict → Type 0} {manner : Manner K} {begun : J}
    {start : Start} {order : Order} {before after : Option (List ℕ)} {old new : Outputs K} {told : ReportedCapture J} → start ≡ behind_header order
    → HasToldAll Became Judged manner begun start before after old new told → HasToldAll Became Judged manner begun (behind_header order) before after old new told
told_at_header {Became = Became} {Judged = Judged} {manner = manner} {begun = begun} {before = before} {after = after} {old = old} {new = new} {told = told} same all =
    subst (λ (s : Start). HasToldAll Became Judged manner begun s before after old new told) same all

pub fault_at_header : {J K : Type 0} (Judged : J → List PacketFacts → List Verdict → Type 0) (manner : Manner K) (begun : J) (start : Start) (order : Order)
    (before after : Option (List ℕ)) (old new : Outputs K) (found : Fault) → start ≡ behind_header order → IsLiveFault Judged manner begun start before after old new found
    → IsLiveFault Judged manner begun (behind_header order) before after old new found
fault_at_header Judged manner begun start order before after old new found same why =
    subst (λ (s : Start). IsLiveFault Judged manner begun s before after old new found) same why

-- what is told of all packets is told of some
pub all_is_some : {J K : Type 0} {Became : J → List PacketFacts → List Verdict → J → Type 0} {Judged : J → List PacketFacts → List Verdict → Type 0} {manner : Manner K} {begun : J}
    {start : Start} {before after : Option (List ℕ)} {old new : Outputs K} {told : ReportedCapture J} (all : HasToldAll Became Judged manner begun start before after old new told)
    → HasToldSome Judged manner begun start before after old new all.all.rest
all_is_some all = record {
  read = all.all.read;
  consumed = all.all.consumed;
  packets = all.all.packets;
  records = all.all.records;
  verdicts = all.all.verdicts;
  judged = all.all.judged;
  count = all.all.count;
  text = all.text;
  whole = all.whole;
  spelt = all.spelt;
  saved = all.saved;
}

-- ---- The end, where all packets were judged

module _ {J : Type 0} {Judged : J → List PacketFacts → List Verdict → Type 0} {begun : J} (options : Options) (expectations : List Expectation) (policy : PolicyFacts)
    (order : Order) (before after old mid : Option (List ℕ)) (totals : Totals) (all : HasJudgedAll Judged begun (behind_header order) before after totals)
    (by : ByLoneWorker options policy (packets_at 0 all.packets) all.verdicts)
    (wrote : Appends old mid (lines_in (unmet_wording expectations) 1 (packets_at 0 all.packets) all.verdicts)) where
  abbrev lines : List ℕ
  lines = lines_in (unmet_wording expectations) 1 (packets_at 0 all.packets) all.verdicts

  abbrev judged : HasJudgedAll (ByLoneWorker options) policy (behind_header order) before after totals
  judged = record {
    read = all.read;
    consumed = all.consumed;
    ended = all.ended;
    few = all.few;
    packets = all.packets;
    rest = all.rest;
    records = all.records;
    truncated = all.truncated;
    end = all.end;
    verdicts = all.verdicts;
    judged = λ some. by;
    count = all.count;
    counted = all.counted;
  }

  -- of all packets their lines were written, and no more
  pub some_told : (new : Option (List ℕ)) (whole : List ℕ) → all.read ≡ whole ++ all.rest → new ≡ mid
      → HasToldSome (ByLoneWorker options) (manner_by expectations) policy (behind_header order) before after (output old) (output new) all.rest
  some_told new whole spelt same = record {
    read = all.read;
    consumed = all.consumed;
    packets = all.packets;
    records = all.records;
    verdicts = all.verdicts;
    judged = λ some. by;
    count = all.count;
    text = subst (λ b. Appends old b lines) (sym same) wrote;
    whole = whole;
    spelt = spelt;
    saved = tt;
  }

  module _ (met : Bool) (is : met ≡ are_met expectations all.verdicts totals) where
    abbrev last : List ℕ
    last = met_told met (length expectations)

    all_lines : lines ++ (end_of expectations totals ++ last) ≡ told_of expectations all.verdicts totals
    all_lines = ap₂ (λ (l : List ℕ) (b : Bool). l ++ (end_of expectations totals ++ met_told b (length expectations)))
        (lines_told expectations 1 (packets_at 0 all.packets) all.verdicts (all.count ∙ sym (length-map all.packets (packet_at 0)))) is

    pub end_told : (new : Option (List ℕ)) (at : Wording) → at ≡ unmet_wording expectations → Appends mid new (end_alone at totals ++ last)
        → HasComparedAll options expectations policy order before after old new (record { met = met; truncated = totals.truncated })
    end_told new at same more = record {
      totals = totals;
      judged = judged;
      by = by;
      written = subst (λ (b : List ℕ). Appends old new b) all_lines
          (Appends-trans old mid new lines (end_of expectations totals ++ last) wrote (subst (λ (w : Wording). Appends mid new (end_alone w totals ++ last)) same more));
      met = is;
      cut = refl;
    }

    fault_at_end : (new : Option (List ℕ)) (whole : List ℕ) → all.read ≡ whole ++ all.rest → (found : Fault) → IsTellingFault mid new (end_of expectations totals ++ last) found
        → IsLiveFault (ByLoneWorker options) (manner_by expectations) policy (behind_header order) before after (output old) (output new) found ⊎ HasCutEnd options expectations policy order before after old new found
    fault_at_end new whole spelt fault.Memory same = inl (all.rest, some_told new whole spelt same)
    fault_at_end new whole spelt fault.Write front = inr (record {
      failed = refl;
      totals = totals;
      judged = judged;
      by = by;
      front = subst (λ (b : List ℕ). GotFront old new b) all_lines (front_on old mid new lines (end_of expectations totals ++ last) wrote front);
    })
    fault_at_end new whole spelt found wrong = absurd wrong

    pub end_fault : (new : Option (List ℕ)) (whole : List ℕ) → all.read ≡ whole ++ all.rest → (found : Fault) (at : Wording) → at ≡ unmet_wording expectations
        → IsTellingFault mid new (end_alone at totals ++ last) found
        → IsLiveFault (ByLoneWorker options) (manner_by expectations) policy (behind_header order) before after (output old) (output new) found ⊎ HasCutEnd options expectations policy order before after old new found
    end_fault new whole spelt found at same why = fault_at_end new whole spelt found (subst (λ (w : Wording). IsTellingFault mid new (end_alone w totals ++ last) found) same why)

-- ---- The whole run

-- all bytes were read, and are a capture
judged_capture : (options : Options) (text : List ℕ) (before left after : Option (List ℕ)) (policy : PolicyFacts) (order : Order) (totals : Totals)
    → IsPolicyText text policy → HasReadHeader before left order → (all : HasJudgedAll (ByLoneWorker options) policy (behind_header order) left after totals)
    → ByLoneWorker options policy (packets_at 0 all.packets) all.verdicts → HasJudgedCapture options text before
judged_capture options text before left after policy order totals says head all by =
    let (known, records) = whole_capture before left after order head all.read all.rest all.packets all.truncated all.consumed all.ended all.records all.end in
    record {
      policy = policy;
      says = says;
      bytes = head.header ++ all.read;
      known = known;
      packets = packets_at 0 all.packets;
      truncated = all.truncated;
      records = records;
      verdicts = all.verdicts;
      by = by;
    }

-- the totals are over all its packets
totals_same : {options : Options} {policy : PolicyFacts} {order : Order} {left after : Option (List ℕ)} {totals : Totals} (all : HasJudgedAll (ByLoneWorker options) policy (behind_header order) left after totals)
    → totals ≡ totals_of all.verdicts (told_alone (length (packets_at 0 all.packets)) all.truncated)
totals_same all = all.counted ∙ ap (λ n. totals_of all.verdicts (told_alone n all.truncated)) (sym (length-map all.packets (packet_at 0)))

-- what was compared behind the header, or why not all was
pub expecting_ends : (options : Options) (text : List ℕ) (expectations : List Expectation) (before left after old new : Option (List ℕ)) (policy : PolicyFacts) (order : Order)
    (result : Result Compared Fault) → IsPolicyText text policy → HasReadHeader before left order → ComparesAll options expectations policy order left after old new result
    → EndsExpecting options text expectations before after old new result
unfolding judged_capture
expecting_ends options text expectations before left after old new policy order (Ok compared) says head told =
    let all = told.judged in
    record {
      judged = judged_capture options text before left after policy order told.totals says head all told.by;
      written = subst (λ (t : Totals). Appends old new (told_of expectations all.verdicts t)) (totals_same all) told.written;
      met = told.met ∙ ap (are_met expectations all.verdicts) (totals_same all);
      cut = told.cut ∙ ap (λ (t : Totals). t.truncated) all.counted ∙ sym (alone_truncated (length all.packets) all.truncated);
    }
expecting_ends options text expectations before left after old new policy order (Err found) says head (inl why) = inr (inl (head_in policy says order head, why))
expecting_ends options text expectations before left after old new policy order (Err found) says head (inr cut) =
    let all = cut.judged in
    inr (inr (record {
      failed = cut.failed;
      ended = all.ended;
      judged = judged_capture options text before left after policy order cut.totals says head all cut.by;
      front = subst (λ (t : Totals). GotFront old new (told_of expectations all.verdicts t)) (totals_same all) cut.front;
    }))
