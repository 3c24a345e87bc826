-- A run over a capture that is told while it comes.
use Rattle.std.proofs.KnownBytes.{Consumes-all, Consumes-trans}
use Rattle.std.proofs.Common.{◌≡◌, ◌∙◌, ◌≤◌, ◌++◌, ℕ, Bool, List, [], Option, None, Result, Ok, Err, MatchResult, ap, append_assoc, arith, inl, inr, length, refl, subst, sym, drop}
use Rattle.std.specs.Io.KnownBytes.{Consumes, IsAtEnd}
use Rattle.std.specs.Prelude.{IfSome}
use Rattle.std.specs.List.{concat}
use Rattle.std.proofs.lemmas.List.{drop_all}
use Rattle.packet_view.specs.Captures.{AreRecords, IsCaptureAt, IsEnd, PacketFacts, RecordFacts, end_of, packets_at}
use Rattle.packet_view.specs.declared.capture.Order.{Order}
use Rattle.packet_view.proofs.FrontLemmas.{behind_header_appended, header_appended}
use Rattle.acl_policy.specs.Policies.{IsPolicyText, PolicyFacts, policy_facts}
use Rattle.acl_policy.specs.declared.policy.Policy.{Policy}
use Rattle.bihash_words.specs.declared.shape.Shape.{Ghosts}
use Rattle.flow_filter.specs.OneThread.{layout_of}
use Rattle.flow_workers.specs.declared.worker_setup.Setup.{Setup}
use Rattle.flow_workers.specs.declared.workers.Workers.{Workers}
use Rattle.flow_filter.specs.declared.interface_filters.InterfaceFilters.{InterfaceFilters}
use Rattle.session_state.specs.declared.verdict.Verdict.{Verdict}
use Rattle.racl_options.specs.declared.settings.Options.{Options}
use Rattle.racl_options.specs.declared.settings.TableSize.{TableSize}
use Rattle.racl_io.specs.declared.fault.Fault.{Fault}
use Rattle.racl_io.specs.declared.fault.Fault.TheVariants.{Write}
use Rattle.racl_io.specs.declared.totals_and_truncation.Totals.{Totals}
use Rattle.racl_io.specs.Inputs.{most_bytes}
use Rattle.racl_io.specs.Reports.{totals_of}
use Rattle.racl_io.specs.Tellings.{Wording, end_alone, lines_in, report_in, told_alone}
use Rattle.racl_io.proofs.TellingLemmas.{alone_named, report_alone}
use Rattle.racl_report.specs.declared.saved_packets.Saves.{Saves}
use Rattle.filter_run.specs.Starts.{Start, behind_header, most_at}
use Rattle.capture_stream.specs.Lives.{HaveFailed}
use Rattle.capture_stream.specs.Savings.{manner_of, outputs}
use Rattle.filter_run.proofs.OwnTellLemmas.{all_fault, all_lines, all_own, all_pieces}
use Rattle.filter_run.proofs.TellLemmas.{failed_since, fault_as}
use Rattle.capture_shards.specs.inner.OwnTests.{own_among}
use Rattle.racl_runs.specs.Crews.{AreAsAsked, AreRestingWith, AreSaid, AreSaidSoFar, HaveSaidAfter, Orders, cuts_four, orders_for, orders_in, orders_of, size_of}
use Rattle.racl_runs.specs.LiveRuns.{AreFirstVerdicts, ByLiveWorkers, ByLoneWorker, HasHead, HasRunLive, IsEarlyFault, IsLiveReport, IsLiveRunFault, IsOrderFor, IsToldBehind, TellsAsAsked}
use Rattle.racl_runs.specs.Runs.{ByWorkers, ages_in, bucket_deal}
use Rattle.racl_runs.specs.ShardRuns.{IsOwnReport, no_note}
use Rattle.racl_views.specs.Hits.{latest_second}
use Rattle.racl_runs.specs.inner.Heads.{HasReadHeader, IsHeadless}
use Rattle.racl_runs.specs.inner.Kept.{HaveGot}
use Rattle.racl_runs.specs.inner.LiveEnds.{AreBegun}
use Rattle.racl_runs.specs.inner.OwnRuns.{IsOwnReportBehind, TellsOwn}
use Rattle.racl_runs.specs.declared.counted_judging.Counted.{Counted}
use Rattle.racl_runs.specs.declared.live_run.LiveWay.{LiveWay}
use Rattle.racl_runs.specs.declared.live_saves.LiveSaves.{LiveSaves}
use Rattle.racl_runs.specs.declared.sized_tables_and_workers.SizedTables.{SizedTables}
use Rattle.racl_runs.specs.declared.sized_tables_and_workers.SizedWorkers.{SizedWorkers}
use Rattle.racl_runs.proofs.LiveSaveLemmas.{Keeps, SavesBehind, first_saved, have_saved}
use Rattle.racl_runs.proofs.OutcomeLemmas.{by_one, given_by_workers, judged_as}

-- workers of one setup have one order
pub same_orders : {A B R G K L : Type 0} {ga : Ghosts A K} {gb : Ghosts B L} (tables : Setup A B R G K L → SizedTables) (old new : Workers A B R G K L ga gb)
    → new.setup ≡ old.setup → orders_in (tables new.setup) new ≡ orders_in (tables old.setup) old
same_orders {ga = ga} {gb = gb} tables old new same =
    ap (λ s. record {
      tables = tables s;
      deal = record { layout = layout_of ga gb; dealing = s.dealing; workers = s.workers };
      times = s.filter.now.times;
      ages = s.ages;
      policy = policy_facts s.filter.now.policy.now;
    }) same

-- what workers hand over, whose orders are these
pub said_so_far : {T : Type 0} (orders : Orders) (packets more : List PacketFacts) (said verdicts : List Verdict) (old new : SizedWorkers T)
    → HaveSaidAfter orders packets said old → orders_of new ≡ orders_of old
    → (AreRestingWith packets said old → AreRestingWith (packets ++ more) (said ++ verdicts) new)
    → (AreRestingWith packets said old → length (said ++ verdicts) ≡ length (packets ++ more))
    → ((orders_of old).deal.workers ≡ 1 → AreRestingWith packets said old → AreSaid (orders_of old) (packets ++ more) (said ++ verdicts))
    → AreSaidSoFar T orders (packets ++ more) (said ++ verdicts)
said_so_far {T} orders packets more said verdicts old new after same rest count judged =
    subst (λ o. AreSaidSoFar T o (packets ++ more) (said ++ verdicts)) after.given
    (record {
      workers = new;
      after = record { given = same; rest = rest after.rest };
      count = count after.rest;
      one = λ one. judged one after.rest;
    })

-- tables that cut blocks as one of two equal answers says
pub as_asked : {size : TableSize} {tables : SizedTables} {cuts ages : Bool} → AreAsAsked size cuts tables → cuts ≡ ages → AreAsAsked size ages tables
as_asked {size} {tables} asked same = subst (λ (b : Bool). AreAsAsked size b tables) same asked

-- what workers said over tables that cut blocks, or don't, and what they knew then
pub by_some_workers : (options : Options) (ready : InterfaceFilters) (tables : SizedTables) (orders : Orders) (workers : ℕ) (ages : Bool) (packets : List PacketFacts)
    (verdicts : List Verdict) → orders ≡ orders_for tables ready workers (cuts_four tables) → cuts_four tables ≡ ages → size_of tables ≡ options.tables
    → ready.times ≡ options.times → 1 ≤ workers → workers ≤ options.workers → (said : AreSaid orders packets verdicts)
    → (by : ByWorkers options ages (policy_facts ready.policy.now) packets verdicts) × (by.views ≡ said.0) × (by.workers ≡ workers)
by_some_workers options ready tables orders workers ages packets verdicts given cut sized same some few said =
    let judged = judged_as packets verdicts said.0 orders tables options.tables ready workers ages (given ∙ ap (orders_for tables ready workers) cut) sized said.1 in
    given_by_workers options ready.times ages (policy_facts ready.policy.now) packets verdicts said.0 workers same some few judged

-- over those of a run that writes early
pub by_live_workers : (options : Options) (ready : InterfaceFilters) (tables : SizedTables) (orders : Orders) (workers : ℕ) (packets : List PacketFacts)
    (verdicts : List Verdict) → orders ≡ orders_for tables ready workers (cuts_four tables) → cuts_four tables ≡ ages_in options → size_of tables ≡ options.tables
    → ready.times ≡ options.times → 1 ≤ workers → workers ≤ options.workers → (said : AreSaid orders packets verdicts)
    → (by : ByLiveWorkers options (policy_facts ready.policy.now) packets verdicts) × (by.by_workers.views ≡ said.0) × (by.by_workers.workers ≡ workers)
by_live_workers options ready tables orders workers packets verdicts given cut sized same some few said =
    let by = by_some_workers options ready tables orders workers (ages_in options) packets verdicts given cut sized same some few said in
    (record { by_workers = by.0; by_one_thread = by_one options (ages_in options) (policy_facts ready.policy.now) packets verdicts by.0 }, by.1, by.2)

-- and one worker
pub by_lone : (options : Options) (ready : InterfaceFilters) (tables : SizedTables) (orders : Orders) (packets : List PacketFacts)
    (verdicts : List Verdict) → orders ≡ orders_for tables ready 1 (cuts_four tables) → cuts_four tables ≡ options.ages → size_of tables ≡ options.tables
    → ready.times ≡ options.times → 1 ≤ options.workers → AreSaid orders packets verdicts
    → ByLoneWorker options (policy_facts ready.policy.now) packets verdicts
by_lone options ready tables orders packets verdicts given cut sized same some said =
    let by = by_some_workers options ready tables orders 1 options.ages packets verdicts given cut sized same (omega arith) some said in
    record { by_workers = by.0; one = by.2; by_one_thread = by_one options options.ages (policy_facts ready.policy.now) packets verdicts by.0 }

pub by_lone_worker : {T : Type 0} (options : Options) (ready : InterfaceFilters) (tables : SizedTables) (orders : Orders) (packets : List PacketFacts)
    (verdicts : List Verdict) → orders ≡ orders_for tables ready 1 (cuts_four tables) → cuts_four tables ≡ options.ages → size_of tables ≡ options.tables
    → ready.times ≡ options.times → 1 ≤ options.workers → AreSaidSoFar T orders packets verdicts
    → ByLoneWorker options (policy_facts ready.policy.now) packets verdicts
by_lone_worker options ready tables orders packets verdicts given cut sized same some said =
    by_lone options ready tables orders packets verdicts given cut sized same some (said.one (ap (λ (o : Orders). o.deal.workers) given))

-- what workers who count said of the first packets
abbrev pub CountedSaid : {T : Type 0} → Counted T → List PacketFacts → List Verdict → Type 0
CountedSaid {T} begun packets said = AreSaidSoFar T (orders_of begun.crew.workers) packets said

pub first_verdicts : {T : Type 0} (way : LiveWay) (tables : SizedTables) (begun : Counted T) (packets : List PacketFacts) (verdicts : List Verdict) → AreBegun way tables begun
    → AreAsAsked way.options.now.tables (ages_in way.options.now) tables → way.filter.now.times ≡ way.options.now.times → CountedSaid begun packets verdicts
    → AreFirstVerdicts T way.options.now (policy_facts way.filter.now.policy.now) packets verdicts
first_verdicts way tables begun packets verdicts is asked same said =
    let options = way.options.now in
    let ready = way.filter.now in
    record {
      workers = said.workers;
      by = subst (IsOrderFor options (policy_facts ready.policy.now)) (sym (said.after.given ∙ is.given)) (record {
        deal = ap (λ z. bucket_deal z options.workers) asked.size;
        times = same;
        ages = asked.four;
        policy_is = refl;
      });
      rest = said.after.rest;
      count = said.count;
      one = λ one. (by_live_workers options ready tables (orders_of begun.crew.workers) options.workers packets verdicts is.given asked.four asked.size same options.few.0 (omega arith)
          (said.one (ap (λ (o : Orders). o.deal.workers) is.given ∙ one))).0;
    }

-- rules that are ready are those of the policy
pub ready_says : {text : List ℕ} {policy ready : Policy} → ready ≡ policy → IsPolicyText text (policy_facts policy) → IsPolicyText text (policy_facts ready)
ready_says {text} same says = subst (λ (p : Policy). IsPolicyText text (policy_facts p)) (sym same) says

-- the header has the fault, or couldn't be read
pub early_fault : (text : List ℕ) (before after : Option (List ℕ)) (fault : Fault) (policy : PolicyFacts) → IsPolicyText text policy → IsHeadless before after fault
    → IsEarlyFault text before after fault
early_fault text before after fault policy says (gave, inl memory) = (gave, inl memory)
early_fault text before after fault policy says (gave, inr (inl failed)) = (gave, inr (inl failed))
early_fault text before after fault policy says (gave, inr (inr (cause, header, consumed, all, wrong, same))) =
    (gave, inr (inr (inr (inr (policy, says, cause, header, consumed, all, wrong, same)))))

-- the header couldn't be saved
pub early_header : (text : List ℕ) (before left : Option (List ℕ)) (order : Order) (fault : Fault) → HasReadHeader before left order → fault ≡ Write → IsEarlyFault text before left fault
early_header text before left order fault header is = ((header.header, header.consumed, let whole = header.whole in omega arith), inr (inr (inl is)))

-- a policy and a header were read
abbrev pub head_in : {text : List ℕ} {before left : Option (List ℕ)} (policy : PolicyFacts) → IsPolicyText text policy → (order : Order) → HasReadHeader before left order → HasHead text before
head_in {left = left} policy says order header = record {
  policy = policy;
  says = says;
  header = header.header;
  order = order;
  right = header.headed.right;
  whole = header.whole;
  left = left;
  consumed = header.consumed;
}

-- the header and all behind it are a capture
pub whole_capture : (before left after : Option (List ℕ)) (order : Order) (head : HasReadHeader before left order) (read rest : List ℕ) (packets : List RecordFacts) (truncated : Bool)
    → Consumes left after read → IsAtEnd after → AreRecords order read packets rest → IsEnd order rest (end_of truncated)
    → IfSome before (λ known. head.header ++ read ≡ known) × IsCaptureAt 0 (head.header ++ read) (packets_at 0 packets) (end_of truncated)
whole_capture before left after order head read rest packets truncated consumed ended records end =
    let bytes = head.header ++ read in
    let header = header_appended order head.header read (record { right = head.headed.right; one = head.headed.one; none = head.headed.none }) in
    let whole = head.whole in
    let behind : drop 24 bytes ≡ read = behind_header_appended head.header read (omega arith) ∙ ap (λ b. b ++ read) (drop_all 24 head.header (omega arith)) in (
      Consumes-all before after bytes [] bytes (Consumes-trans before left after head.header read head.consumed consumed) ended refl,
      (packets, (order, rest, header.right, subst (λ (b : List ℕ). AreRecords order b packets rest) (sym behind) records, end), refl),
    )

-- behind a header no byte was read before, and none of an input stands there
pub front_behind : (start : Start) (order : Order) → start ≡ behind_header order → length start.front ≤ most_at start.input
front_behind start order same = subst (λ (s : Start). length s.front ≤ most_at s.input) (sym same) (omega arith)

pub input_behind : (start : Start) (order : Order) → start ≡ behind_header order → IfSome start.input (λ before. before ≤ most_bytes)
input_behind start order same = subst (λ (s : Start). IfSome s.input (λ before. before ≤ most_bytes)) (sym same) tt

-- ---- All packets are one's own

-- the report on all packets is the lines of these, what stands behind them, and behind that hits and sessions
module _ (options : Options) (text : List ℕ) (policy : PolicyFacts) (wording : Wording) (packets : List PacketFacts) (truncated : Bool) (totals : Totals) (report : List ℕ)
    (is : IsOwnReport options text no_note wording policy (own_among None) packets truncated totals report) where
  pub all_told : IsToldBehind options text policy packets is.verdicts (latest_second packets) is.behind
  all_told = subst (λ (ps : List PacketFacts). IsToldBehind options text policy ps is.verdicts (latest_second packets) is.behind) (all_own packets) is.told

  pub all_counted : totals ≡ totals_of is.verdicts (told_alone (length packets) truncated)
  all_counted = is.counted ∙ ap (λ (ps : List PacketFacts). totals_of is.verdicts (told_alone (length ps) truncated)) (all_own packets)

  pub all_text : length is.verdicts ≡ length packets → report ≡ report_in wording packets is.verdicts (told_alone (length packets) truncated) ++ is.behind
  unfolding all_counted
  all_text each =
      let lines = lines_in wording 1 packets is.verdicts in
      is.all ∙ ap (λ (l : List ℕ). l ++ (end_alone wording totals ++ is.behind)) (all_lines wording 1 packets is.verdicts)
      ∙ ap (λ (t : Totals). lines ++ (end_alone wording t ++ is.behind)) all_counted
      ∙ sym (append_assoc lines (end_alone wording (totals_of is.verdicts (told_alone (length packets) truncated))) is.behind)
      ∙ ap (λ (l : List ℕ). l ++ is.behind) (sym (report_alone wording packets is.verdicts truncated each))

-- all bytes were read, and this is the report on them
pub live_report : (options : Options) (text : List ℕ) (before left after : Option (List ℕ)) (policy : PolicyFacts) (order : Order) (wording : Wording) (totals : Totals) (report : List ℕ)
    → IsPolicyText text policy → TellsAsAsked options text policy wording → HasReadHeader before left order
    → IsOwnReportBehind options text no_note wording policy (own_among None) (behind_header order) left after totals report → IsLiveReport options text before totals report
live_report options text before left after policy order wording totals report says tells head is =
    let packets = packets_at 0 is.packets in
    let verdicts = is.is.verdicts in
    let truncated = is.truncated in
    let (known, records) = whole_capture before left after order head is.read is.rest is.packets truncated is.consumed is.ended is.records is.end in
    let told = all_told options text policy wording packets truncated totals report is.is in
    let captures = told_alone (length packets) truncated in
    let each = is.count ∙ ap length (all_own packets) in
    record {
      policy = policy;
      says = says;
      bytes = head.header ++ is.read;
      known = known;
      packets = packets;
      truncated = truncated;
      records = records;
      verdicts = verdicts;
      by_live = told.by_live;
      stored = told.stored;
      kept = told.kept;
      told = record {
        lines = report_in wording packets verdicts captures;
        are = tells.report packets verdicts captures each (alone_named packets (length packets) truncated);
        hits = told.hits;
        told = told.told captures;
        all = all_text options text policy wording packets truncated totals report is.is each ∙ ap (λ (more : List ℕ). report_in wording packets verdicts captures ++ more) told.all;
      };
      counted = all_counted options text policy wording packets truncated totals report is.is;
    }

-- the report was written and packets saved, or why they weren't
module _ {S : Type 0} (T : Type 0) (sink : S → Option (List ℕ)) (failures : S → ℕ) (options : Options) (text : List ℕ) (before left after old new : Option (List ℕ)) (policy : PolicyFacts)
    (says : IsPolicyText text policy) (order : Order) (header : HasReadHeader before left order) (first : Saves S) (mid last : LiveSaves S) (got : HaveGot sink header.header first mid.files) where
  live_ends_behind : (wording : Wording) (result : Result Totals Fault) → TellsAsAsked options text policy wording
      → TellsOwn T options text no_note (manner_of wording (Keeps sink failures)) policy (own_among None) (behind_header order) left after (outputs old mid) (outputs new last) result
      → MatchResult result (HasRunLive sink options text before (outputs old first) (outputs new last.files))
      (IsLiveRunFault T sink options text before after (outputs old first) (outputs new last.files))
  unfolding live_report
  live_ends_behind wording (Ok totals) tells told = record {
    report = told.report;
    is = live_report options text before left after policy order wording totals told.report says tells header told.is;
    written = told.written;
    saved = have_saved sink failures order header.header told.is.read (concat told.pieces) told.is.rest (end_of told.is.truncated) told.is.is.verdicts first mid.files last.files
        header.headed header.whole told.spelt told.is.end got
        (subst (λ (ps : List (List ℕ)). Keeps sink failures mid order (concat ps) told.is.is.verdicts last) (all_pieces order told.pieces told.is.packets told.each) told.saved);
  }
  live_ends_behind wording (Err fault) tells (inl why) = inr (inl (
    head_in policy says order header,
    wording,
    tells,
    fault_as (AreFirstVerdicts T options) (AreFirstVerdicts T options) wording (Keeps sink failures) (SavesBehind sink header.header) policy policy (λ packets verdicts by. by)
        (behind_header order) left after old new mid last first last.files
        (λ whole verdicts saved. first_saved sink failures order header.header whole verdicts first mid.files last.files header.headed header.whole got saved) fault
        (all_fault (AreFirstVerdicts T options) (manner_of wording (Keeps sink failures)) policy (behind_header order) left after (outputs old mid) (outputs new last) fault why),
  ))
  live_ends_behind wording (Err fault) tells (inr cut) = inr (inr (record {
    failed = cut.failed;
    ended = cut.is.ended;
    totals = cut.totals;
    report = cut.report;
    is = live_report options text before left after policy order wording cut.totals cut.report says tells header cut.is;
    front = cut.front;
  }))

  pub live_ends : (start : Start) (wording : Wording) (result : Result Totals Fault) → start ≡ behind_header order → TellsAsAsked options text policy wording
      → TellsOwn T options text no_note (manner_of wording (Keeps sink failures)) policy (own_among None) start left after (outputs old mid) (outputs new last) result
      → MatchResult result (HasRunLive sink options text before (outputs old first) (outputs new last.files))
      (IsLiveRunFault T sink options text before after (outputs old first) (outputs new last.files))
  unfolding live_ends_behind
  live_ends start wording result same tells told =
      live_ends_behind wording result tells
      (subst (λ (s : Start). TellsOwn T options text no_note (manner_of wording (Keeps sink failures)) policy (own_among None) s left after (outputs old mid) (outputs new last) result) same told)

-- which devices failed since then
pub write_since : (written writing saved saving first second : ℕ) (result : Result Totals Fault) → first ≡ written → second ≡ saved
    → MatchResult result (λ totals. (writing ≡ first) × (saving ≡ second)) (HaveFailed first writing second saving)
    → MatchResult result (λ totals. (writing ≡ written) × (saving ≡ saved)) (HaveFailed written writing saved saving)
write_since written writing saved saving first second (Ok totals) same kept (one, two) = (one ∙ same, two ∙ kept)
write_since written writing saved saving first second (Err fault) same kept failed = failed_since written saved first second writing saving fault same kept failed
