-- What is answered of an input, and the report on it.
use Rattle.std.proofs.Common.{◌≡◌, ◌≢◌, ◌∙◌, ◌≤◌, ◌⊎◌, ◌++◌, ℕ, Bool, false, List, [], ◌∷◌, None, drop, length, Option, Ok, Err, Some, true, refl, sym, ap, ap₂, subst, inl, inr}
use Rattle.std.proofs.lemmas.List.{length-map}
use Rattle.std.specs.Io.KnownBytes.{Appends}
use Rattle.packet_view.specs.Captures.{End, AreRecords, IsCapture, IsCaptureFault, IsEnd, PacketFacts, RecordFacts, end_of, packets_at}
use Rattle.packet_view.specs.declared.capture.CaptureFault.{CaptureFault}
use Rattle.packet_view.specs.declared.capture.Order.{Order}
use Rattle.packet_view.proofs.CaptureLemmas.{IsHeaderOf, ended_accepts, ended_is_right}
use Rattle.acl_policy.specs.Policies.{IsPolicyFault, IsPolicyText, PolicyFacts, policy_facts}
use Rattle.acl_policy.specs.declared.policy.PolicyFault.{PolicyFault}
use Rattle.acl_policy.specs.declared.policy.PolicyFault.TheVariants as policy
use Rattle.session_state.specs.declared.timeouts.Timeouts.{Timeouts}
use Rattle.flow_filter.specs.declared.interface_filters.InterfaceFilters.{InterfaceFilters}
use Rattle.session_state.specs.declared.verdict.Verdict.{Verdict}
use Rattle.flow_filter.proofs.OneThreadLemmas.{one_verdicts}
use Rattle.flow_filter.specs.Ageing.{Removal}
use Rattle.flow_filter.specs.Judged.{readings_of, verdict_on}
use Rattle.flow_filter.specs.Readings.{IsReading}
use Rattle.flow_dealing.specs.Dealings.{Deal}
use Rattle.flow_dealing.specs.Views.{Views}
use Rattle.flow_dealing.specs.WorkerRecords.{AreJudgedAgeing, AreJudgedBetween, AreJudgedBy, HavePages}
use Rattle.flow_dealing.proofs.Passing.{pass_at_place}
use Rattle.flow_dealing.proofs.FewPackets.{pages_for_few_between}
use Rattle.flow_dealing.proofs.OneReport.{one_report, one_report_ageing}
use Rattle.flow_dealing.proofs.Places.{zip_count}
use Rattle.racl_options.specs.declared.settings.Options.{Options}
use Rattle.racl_options.specs.declared.settings.TableSize.{TableSize}
use Rattle.racl_io.specs.declared.fault.Fault.{Fault}
use Rattle.racl_io.specs.declared.fault.Fault.TheVariants.{Memory, NoCapture}
use Rattle.racl_io.specs.declared.totals_and_truncation.Captured.{Captured}
use Rattle.racl_io.specs.declared.totals_and_truncation.Totals.{Totals}
use Rattle.racl_io.specs.Reports.{totals_of}
use Rattle.racl_io.specs.Faults.{IsFaultOfBytes, IsFaultOfContent, capture_fault, policy_fault}
use Rattle.racl_io.specs.Inputs.{IsContent, IsInput, InputFacts, most_bytes}
use Rattle.racl_runs.specs.Crews.{AreSaidKnowing, Orders, orders_for, size_of}
use Rattle.racl_runs.specs.declared.sized_tables_and_workers.SizedTables.{SizedTables}
use Rattle.racl_runs.specs.LiveRuns.{IsToldBehind}
use Rattle.racl_runs.specs.Reads.{AnswersInput, AreKnown, IsReached, IsReportOfInput, IsSaid}
use Rattle.racl_views.specs.Hits.{latest_second}
use Rattle.racl_views.specs.Stored.{StoredFacts}
use Rattle.flow_filter.specs.OneThread.{Layout}
use Rattle.racl_runs.specs.Runs.{AgeInTime, AreToldOf, ByOneThread, ByWorkers, HasOutcome, HasRun, bucket_deal, layout_for}
use Rattle.racl_report.specs.ReadInputs.{IsRead, told_of}
use Rattle.racl_report.specs.RunReports.{AreLines, IsReportOn, JudgedFacts, Outcome, told_facts}
use Rattle.racl_report.proofs.CaptureLaws.{IsUnnumbered, alone_plain, fault_of_known, fault_plain, one_truncated, plain_fault}
use Rattle.racl_report.proofs.ReadInputLemmas.{alone_in_capture, read_in}
use Rattle.racl_runs.proofs.RunLemmas.{fault_of_known_parts, fault_of_right_policy, fault_of_wrong_policy, fault_without_parts}

-- what the workers say of their verdicts, where sessions live as long as the words ask for
pub given_by_workers : (options : Options) (times : Timeouts) (ages : Bool) (policy : PolicyFacts) (packets : List PacketFacts) (verdicts : List Verdict) (views : Views)
    (workers : ℕ) → times ≡ options.times → 1 ≤ workers → workers ≤ options.workers
    → AreJudgedAgeing (bucket_deal options.tables workers) times ages policy packets verdicts views
    → (by : ByWorkers options ages policy packets verdicts) × (by.views ≡ views) × (by.workers ≡ workers)
given_by_workers options times ages policy packets verdicts views workers same some few said =
    let moved = subst (λ t. AreJudgedAgeing (bucket_deal options.tables workers) t ages policy packets verdicts views) same said in (
      record {
        workers = workers;
        some = some;
        few = few;
        views = views;
        said = moved;
        paged = λ family few. pages_for_few_between _ _ _ _ moved.removals _ moved.judged family few;
        places = pass_at_place _ _ _ _ _ _ moved.judged;
      },
      refl,
      refl,
    )

-- workers who don't age remove nothing
pub judged_unaged : (d : Deal) (times : Timeouts) (policy : PolicyFacts) (packets : List PacketFacts) (verdicts : List Verdict) (views : Views)
    → AreJudgedAgeing d times false policy packets verdicts views → AreJudgedBy d times policy packets verdicts views
judged_unaged d times policy packets verdicts views said =
    subst (λ (rs : List Removal). (are : AreJudgedBetween d times policy packets rs verdicts) × (are.views ≡ views)) (said.none refl) (said.judged, said.known)

-- the verdicts are those of the one-thread filter, where none says no-pages, and ageing is in time
pub by_one : (options : Options) (ages : Bool) (policy : PolicyFacts) (packets : List PacketFacts) (verdicts : List Verdict)
    (by : ByWorkers options ages policy packets verdicts) → HavePages verdicts → AgeInTime by → ByOneThread options.tables options.times policy packets verdicts
by_one options true policy packets verdicts by paged in_time =
    let timely = in_time refl in
    one_report_ageing _ _ _ _ _ _ _ by.said (inl refl) paged timely.0 timely.1
by_one options false policy packets verdicts by paged in_time =
    one_report _ _ _ _ _ (judged_unaged _ _ _ _ _ _ by.said).0 (inl refl) paged

-- what workers said who had orders of these tables, by rules that were ready
pub judged_as : (packets : List PacketFacts) (verdicts : List Verdict) (views : Views) (orders : Orders) (tables : SizedTables) (asked : TableSize) (ready : InterfaceFilters)
    (workers : ℕ) (ages : Bool) → orders ≡ orders_for tables ready workers ages → size_of tables ≡ asked → AreSaidKnowing orders packets verdicts views
    → AreJudgedAgeing (bucket_deal asked workers) ready.times ages (policy_facts ready.policy.now) packets verdicts views
judged_as packets verdicts views orders tables asked ready workers ages given sized said =
    subst (λ s. AreJudgedAgeing (bucket_deal s workers) ready.times ages (policy_facts ready.policy.now) packets verdicts views) sized
    (subst (λ (o : Orders). AreSaidKnowing o packets verdicts views) given said)

-- where none are removed, no second counts for what is told of sessions
pub told_when : (layout : Layout) (times : Timeouts) (ages : Bool) (m n : ℕ) (views : Views) (told : StoredFacts) → (ages ≡ true → m ≡ n)
    → AreToldOf layout times ages m views told → AreToldOf layout times ages n views told
told_when layout times false m n views told same are = record { stored = are.stored; are = are.are; told_is = are.told_is }
told_when layout times true m n views told same are = subst (λ k. AreToldOf layout times true k views told) (same refl) are

abbrev pub outcome_of : List Verdict → List Captured → Outcome
outcome_of verdicts captures = record { verdicts = verdicts; captures = captures }

-- each packet has a verdict
pub judged_count : (d : Deal) (times : Timeouts) (policy : PolicyFacts) (packets : List PacketFacts) (verdicts : List Verdict)
    (removals : List Removal) → AreJudgedBetween d times policy packets removals verdicts → length verdicts ≡ length packets
judged_count d times policy packets verdicts removals is =
    ap length is.said ∙ length-map is.judged verdict_on ∙ sym (length-map is.judged (λ j. j.reading))
    ∙ sym (zip_count (IsReading policy) packets (readings_of is.judged) is.read)

-- ---- an input without a right policy

-- an input without a marker line
pub no_marker_answers : (options : Options) (bytes : List ℕ) → ((parts : InputFacts) → IsInput bytes parts → ⊥)
    → AnswersInput options bytes (Err NoCapture)
no_marker_answers options bytes none = record {
  ok = tt;
  accepts = λ policy packets captures read. absurd (none read.parts read.parted);
  fault = λ differs. inl (refl, none);
  refuses = λ fault of. inl (sym (fault_without_parts bytes fault none of));
}

-- an input whose policy is refused
pub policy_answers : (options : Options) (bytes : List ℕ) (parts : InputFacts) (found : PolicyFault) → IsInput bytes parts
    → ((right : PolicyFacts) → IsPolicyText parts.policy right → found ≡ policy.Memory)
    → (found ≢ policy.Memory → IsPolicyFault parts.policy found)
    → ((cause : PolicyFault) → IsPolicyFault parts.policy cause → (found ≡ cause) ⊎ (found ≡ policy.Memory))
    → AnswersInput options bytes (Err (policy_fault found))
policy_answers options bytes parts found parted accepts fails refuses = record {
  ok = tt;
  accepts = λ policy packets captures read. ap policy_fault (accepts policy (read_in bytes parts policy packets captures parted read).says);
  fault = λ differs. inr (parts, parted, inl (found, fails (λ same. differs (ap policy_fault same)), refl));
  refuses = λ fault of. fault_of_wrong_policy parts found fault accepts refuses (fault_of_known_parts bytes parts fault parted of);
}

-- ---- an input with a right policy

module _ (options : Options) (bytes : List ℕ) (parts : InputFacts) (policy : PolicyFacts) (parted : IsInput bytes parts) (said : IsSaid parts.policy policy) where
  known_fault : (fault : Fault) → IsFaultOfBytes bytes fault → IsFaultOfContent parts.form parts.content fault
  known_fault fault of = fault_of_right_policy parts fault said.right (fault_of_known_parts bytes parts fault parted of)

  -- memory ran out
  pub memory_answers : AnswersInput options bytes (Err Memory)
  memory_answers = record { ok = tt; accepts = λ policy packets captures read. refl; fault = λ differs. absurd (differs refl); refuses = λ fault of. inr refl }

  module _ (plain : IsUnnumbered parts.form) (capture : List ℕ) (spelt : IsContent parts.form parts.content capture) where
    -- its capture is refused
    pub capture_answers : (found : CaptureFault) → ((packets : List RecordFacts) (end : End) → IsCapture capture packets end → ⊥)
        → IsCaptureFault capture found → ((cause : CaptureFault) → IsCaptureFault capture cause → found ≡ cause)
        → AnswersInput options bytes (Err (capture_fault found))
    capture_answers found none is one = record {
      ok = tt;
      accepts = λ policy packets captures read.
          let at = alone_in_capture parts.form parts.content capture packets captures plain spelt (read_in bytes parts policy packets captures parted read).content in
          absurd (none at.records.0 (end_of at.truncated) at.records.1);
      fault = λ differs.
          inr (
            parts,
            parted,
            inr (
              policy,
              said.says,
              fault_plain parts.form parts.content (capture_fault found) plain (inr (capture, spelt, (found, is, refl))),
            ),
          );
      refuses = λ fault of.
          let cause = fault_of_known parts.form parts.content capture fault spelt (plain_fault parts.form parts.content fault plain (known_fault fault of)) in
          inl (ap capture_fault (one cause.0 cause.1) ∙ sym cause.2);
    }

    -- the packets of its capture were judged
    pub verdicts_answer : (order : Order) (header : IsHeaderOf order capture) (packets : List RecordFacts) (rest : List ℕ) (truncated : Bool) (judged : JudgedFacts) → length bytes ≤ most_bytes
        → AreRecords order (drop 24 capture) packets rest → IsEnd order rest (end_of truncated)
        → IsReached options policy (packets_at 0 packets) (told_of None (packets_at 0 packets) truncated ∷ []) judged
        → AnswersInput options bytes (Ok judged)
    verdicts_answer order header packets rest truncated judged few all end reached = record {
      ok = record {
        policy = policy;
        packets = packets_at 0 packets;
        read = record {
          few = few;
          parts = parts;
          parted = parted;
          says = said.says;
          content = alone_plain parts.form parts.content (packets_at 0 packets) judged.outcome.captures plain (record {
            capture = capture;
            spelt = spelt;
            truncated = truncated;
            records = (packets, (order, rest, header.right, all, end), refl);
            told = reached.told;
          });
        };
        reached = record { by_workers = reached.by_workers; kept = reached.kept; by_one_thread = reached.by_one_thread; told = refl };
      };
      accepts = λ other others captures read.
          let is = read_in bytes parts other others captures parted read in
          let at = alone_in_capture parts.form parts.content capture others captures plain spelt is.content in
          let same = ended_accepts order capture header packets rest (end_of truncated) all end at.records.0 (end_of at.truncated) at.records.1 in
          let packets_are = ap (packets_at 0) same.0 ∙ sym at.records.2 in
          let told = ap₂ (λ ps t. told_of None ps t ∷ []) packets_are (one_truncated truncated at.truncated same.1) ∙ sym at.told in
          subst (λ p. IsReached options p others captures judged) (said.one other is.says)
          (subst (λ ps. IsReached options policy ps captures judged) packets_are
          (record { by_workers = reached.by_workers; kept = reached.kept; by_one_thread = reached.by_one_thread; told = reached.told ∙ told }));
      fault = tt;
      refuses = λ fault of.
          let cause = fault_of_known parts.form parts.content capture fault spelt (plain_fault parts.form parts.content fault plain (known_fault fault of)) in
          ended_is_right order capture header packets rest (end_of truncated) all end cause.0 cause.1;
    }

    -- and a report on it, which tells what it is whichever policy and packets it says
    pub report_answer : (order : Order) (header : IsHeaderOf order capture) (packets : List RecordFacts) (rest : List ℕ) (truncated : Bool) (judged : JudgedFacts) (report : List ℕ) (totals : Totals)
        → length bytes ≤ most_bytes → AreRecords order (drop 24 capture) packets rest → IsEnd order rest (end_of truncated)
        → IsReached options policy (packets_at 0 packets) (told_of None (packets_at 0 packets) truncated ∷ []) judged
        → IsReportOn options parts.policy policy (packets_at 0 packets) judged report → totals ≡ totals_of judged.outcome.verdicts judged.outcome.captures
        → IsReportOfInput options bytes report totals
    unfolding verdicts_answer
    report_answer order header packets rest truncated judged report totals few all end reached on counted = record {
      judged = judged;
      answers = verdicts_answer order header packets rest truncated judged few all end reached;
      tells = λ other others read.
          let is = read_in bytes parts other others judged.outcome.captures parted read in
          let at = alone_in_capture parts.form parts.content capture others judged.outcome.captures plain spelt is.content in
          let same = ended_accepts order capture header packets rest (end_of truncated) all end at.records.0 (end_of at.truncated) at.records.1 in
          let packets_are = ap (packets_at 0) same.0 ∙ sym at.records.2 in
          record {
            parts = parts;
            parted = parted;
            on = subst (λ p. IsReportOn options parts.policy p others judged report) (said.one other is.says)
                (subst (λ ps. IsReportOn options parts.policy policy ps judged report) packets_are on);
          };
      counted = counted;
    }

-- ---- the report

-- a report tells of a run, and behind the lines of its packets what stands there
pub reported : (options : Options) (text : List ℕ) (policy : PolicyFacts) (packets : List PacketFacts) (verdicts : List Verdict) (captures : List Captured) (lines behind : List ℕ)
    → (told : IsToldBehind options text policy packets verdicts (latest_second packets) behind)
    → AreLines options.lines (told_facts policy text packets (record { verdicts = verdicts; captures = captures }) options.shown) lines
    → (judged : JudgedFacts) × IsReached options policy packets captures judged × IsReportOn options text policy packets judged (lines ++ behind)
    × (judged.outcome ≡ record { verdicts = verdicts; captures = captures })
reported options text policy packets verdicts captures lines behind told are = (
  record { outcome = record { verdicts = verdicts; captures = captures }; stored = told.stored },
  record { by_workers = told.by_live.by_workers; kept = told.kept; by_one_thread = told.by_live.by_one_thread; told = refl },
  record { lines = lines; are = are; hits = told.hits; told = told.told captures; all = ap (λ (more : List ℕ). lines ++ more) told.all },
  refl,
)

module _ (old new : Option (List ℕ)) (options : Options) (given : Option (List ℕ)) (report : List ℕ) (totals : Totals) (bytes : List ℕ) (is : IsReportOfInput options bytes report totals)
    (few : length bytes ≤ most_bytes) (text : Appends old new report) where
  -- a run on the input, whose outcome is this one
  abbrev judged : JudgedFacts
  judged = is.judged

  -- and it is of this policy and these packets
  abbrev RunsOnPackets : PolicyFacts → List PacketFacts → Option (List ℕ) → Type 0
  RunsOnPackets policy packets known = (run : HasRun options known old new totals) × (run.outcome ≡ judged.outcome) × (run.policy ≡ policy) × (run.packets ≡ packets)

  run_on : (policy : PolicyFacts) (packets : List PacketFacts) (read : IsRead bytes policy packets judged.outcome.captures)
      → IsReached options policy packets judged.outcome.captures judged → (known : Option (List ℕ)) → AreKnown known bytes → RunsOnPackets policy packets known
  run_on policy packets read reached known at = (
    record {
      bytes = bytes;
      known = at;
      policy = policy;
      packets = packets;
      outcome = judged.outcome;
      read = read;
      by_workers = reached.by_workers;
      stored = judged.stored;
      kept = reached.kept;
      by_one_thread = reached.by_one_thread;
      report = report;
      told = is.tells policy packets read;
      text = text;
      counted = is.counted;
    },
    refl,
    refl,
    refl,
  )

  pub ran : AreKnown given bytes → HasRun options given old new totals
  unfolding run_on
  ran known = (run_on is.answers.ok.policy is.answers.ok.packets is.answers.ok.read is.answers.ok.reached given known).0

  -- what was reported is the outcome of the one-thread filter, or one of workers that says no-pages or whose ageing isn't
  -- in time
  pub has_reported : (one_thread : Outcome) → HasOutcome options.tables options.times bytes one_thread
      → (run : HasRun options (Some bytes) old new totals) × (HavePages run.outcome.verdicts → AgeInTime run.by_workers → one_thread ≡ run.outcome)
  unfolding run_on
  has_reported one_thread has =
      let met = is.answers.accepts has.policy has.packets one_thread.captures has.read in
      let read : IsRead bytes has.policy has.packets judged.outcome.captures = subst (λ told. IsRead bytes has.policy has.packets told) (sym met.told) has.read in
      let reached : IsReached options has.policy has.packets judged.outcome.captures judged =
      record { by_workers = met.by_workers; kept = met.kept; by_one_thread = met.by_one_thread; told = refl } in
      let on = run_on has.policy has.packets read reached (Some bytes) refl in (
        on.0,
        λ paged in_time. ap₂ outcome_of
            (one_verdicts (layout_for options.tables) options.times has.policy has.packets one_thread.verdicts judged.outcome.verdicts has.verdicts (on.0.by_one_thread paged in_time))
            (sym met.told),
      )
