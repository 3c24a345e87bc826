-- An input with captures as digits, of which all was read: what is answered of it.
use Rattle.std.proofs.Common.{◌≡◌, ◌∙◌, ◌≤◌, ◌⊎◌, ◌++◌, ℕ, zero, suc, List, Bool, [], ◌∷◌, Option, Some, Ok, Err, ap, append_assoc, drop, length, refl, sym, subst, inl, inr}
use Rattle.std.proofs.KnownBytes.{Appends-trans}
use Rattle.std.specs.Io.KnownBytes.{Appends}
use Rattle.packet_view.specs.Bytes.{AreBytes}
use Rattle.packet_view.specs.Captures.{PacketFacts}
use Rattle.acl_policy.specs.Policies.{PolicyFacts, policy_facts}
use Rattle.session_state.specs.declared.verdict.Verdict.{Verdict}
use Rattle.racl_options.specs.declared.settings.Options.{Options}
use Rattle.racl_io.specs.declared.fault.Fault.{Fault}
use Rattle.racl_io.specs.declared.fault.Fault.TheVariants.{Memory}
use Rattle.racl_io.specs.declared.marker_line.Form.{Form}
use Rattle.racl_io.specs.declared.totals_and_truncation.Captured.{Captured}
use Rattle.racl_io.specs.declared.totals_and_truncation.Totals.{Totals}
use Rattle.racl_io.specs.Reports.{totals_of}
use Rattle.racl_io.specs.Faults.{IsFaultOfBytes, IsFaultOfContent}
use Rattle.racl_io.specs.Inputs.{most_bytes}
use Rattle.racl_report.specs.ReadInputs.{HasPackets}
use Rattle.racl_report.specs.RunReports.{IsReportOn, JudgedFacts, Outcome}
use Rattle.racl_report.proofs.CaptureLaws.{AreFit, fit_bytes, no_fault_of_packets, one_fault_of_content, one_packets}
use Rattle.racl_report.proofs.ReadInputLemmas.{read_in}
use Rattle.racl_views.specs.Hits.{latest_second}
use Rattle.racl_io.specs.Tellings.{AreNamedBy, Wording, end_in, name_where, report_in, turns_in}
use Rattle.racl_runs.specs.LiveRuns.{IsToldBehind, TellsBy}
use Rattle.racl_runs.specs.Reads.{AnswersInput, HasMarked, HasReportedOn, IsReached, IsReportOfInput}
use Rattle.racl_runs.specs.inner.ReportsAtHand.{HasToldAtHand}
use Rattle.racl_runs.specs.declared.input_front.Marked.{Marked}
use Rattle.racl_runs.proofs.OutcomeLemmas.{memory_answers, reported}
use Rattle.racl_runs.proofs.RunLemmas.{fault_of_known_parts, fault_of_right_policy}

-- what was written to what held nothing is all that it holds
pub held_text : (old new : Option (List ℕ)) (text report : List ℕ) → old ≡ Some [] → new ≡ Some text → Appends old new report → text ≡ report
held_text old new text report none some wrote =
    subst (λ (n : Option (List ℕ)). Appends (Some []) n report) some (subst (λ (o : Option (List ℕ)). Appends o new report) none wrote)

-- ---- what follows a marker line

bytes_behind : (from : ℕ) (bytes : List ℕ) → AreBytes bytes → AreBytes (drop from bytes)
bytes_behind zero bytes fit = fit
bytes_behind (suc from) [] fit = fit
bytes_behind (suc from) (b ∷ bytes) fit = bytes_behind from bytes (λ place. fit (suc place))

-- what follows a marker line are bytes, and so is a capture that it is
pub fit_behind : (form : Form) (bytes : List ℕ) (from : ℕ) → AreBytes bytes → AreFit form (drop from bytes)
fit_behind form bytes from fit = fit_bytes form (drop from bytes) (bytes_behind from bytes fit)

-- ---- what is answered

module _ (options : Options) (bytes : List ℕ) (marked : Marked) (has : HasMarked options bytes marked) (fit : AreFit marked.form (drop marked.from bytes)) where
  abbrev form : Form
  form = marked.form

  abbrev content : List ℕ
  content = drop marked.from bytes

  has_packets : (packets : List PacketFacts) (captures : List Captured) → HasPackets form content packets captures
      → HasPackets has.parts.form has.parts.content packets captures
  has_packets packets captures taken =
      subst (λ f. HasPackets f has.parts.content packets captures) (sym has.form)
      (subst (λ c. HasPackets form c packets captures) has.content taken)

  packets_there : (packets : List PacketFacts) (captures : List Captured) → HasPackets has.parts.form has.parts.content packets captures
      → HasPackets form content packets captures
  packets_there packets captures is =
      subst (λ c. HasPackets form c packets captures) (sym has.content)
      (subst (λ f. HasPackets f has.parts.content packets captures) has.form is)

  has_fault : (fault : Fault) → IsFaultOfContent form content fault → IsFaultOfContent has.parts.form has.parts.content fault
  has_fault fault of =
      subst (λ f. IsFaultOfContent f has.parts.content fault) (sym has.form)
      (subst (λ c. IsFaultOfContent form c fault) has.content of)

  fault_there : (fault : Fault) → IsFaultOfBytes bytes fault → IsFaultOfContent form content fault
  fault_there fault of =
      let known = fault_of_right_policy has.parts fault has.policy.right (fault_of_known_parts bytes has.parts fault has.parted of) in
      subst (λ c. IsFaultOfContent form c fault) (sym has.content)
      (subst (λ f. IsFaultOfContent f has.parts.content fault) has.form known)

  taken_answers : (packets : List PacketFacts) (judged : JudgedFacts) → length bytes ≤ most_bytes
      → HasPackets form content packets judged.outcome.captures
      → IsReached options (policy_facts marked.filter.policy) packets judged.outcome.captures judged → AnswersInput options bytes (Ok judged)
  taken_answers packets judged few taken reached = record {
    ok = record {
      policy = policy_facts marked.filter.policy;
      packets = packets;
      read = record { few = few; parts = has.parts; parted = has.parted; says = has.policy.says; content = has_packets packets judged.outcome.captures taken };
      reached = reached;
    };
    accepts = λ other others captures read.
        let is = read_in bytes has.parts other others captures has.parted read in
        let same =
        one_packets form content packets others judged.outcome.captures captures fit taken
        (packets_there others captures is.content) in
        subst (λ p. IsReached options p others captures judged) (has.policy.one other is.says)
        (subst (λ ps. IsReached options (policy_facts marked.filter.policy) ps captures judged) same.0
        (record { by_workers = reached.by_workers; kept = reached.kept; by_one_thread = reached.by_one_thread; told = same.1 }));
    fault = tt;
    refuses = λ fault of.
        no_fault_of_packets form content packets judged.outcome.captures fault fit taken (fault_there fault of);
  }

  pub fault_answers : (fault : Fault) → (fault ≡ Memory) ⊎ IsFaultOfContent form content fault
      → AnswersInput options bytes (Err fault)
  fault_answers fault (inl memory) =
      subst (λ (e : Fault). AnswersInput options bytes (Err e)) (sym memory)
      (memory_answers options bytes has.parts (policy_facts marked.filter.policy) has.parted has.policy)
  fault_answers fault (inr of) = record {
    ok = tt;
    accepts = λ other others captures read.
        let is = read_in bytes has.parts other others captures has.parted read in
        absurd (no_fault_of_packets form content others captures fault fit (packets_there others captures is.content) of);
    fault = λ differs. inr (has.parts, has.parted, inr (policy_facts marked.filter.policy, has.policy.says, has_fault fault of));
    refuses = λ other is. inl (one_fault_of_content form content fault other fit of (fault_there other is));
  }

  -- a report on it, which tells what it is whichever policy and packets it says
  pub taken_report : (packets : List PacketFacts) (judged : JudgedFacts) (report : List ℕ) (totals : Totals) → length bytes ≤ most_bytes
      → HasPackets form content packets judged.outcome.captures
      → IsReached options (policy_facts marked.filter.policy) packets judged.outcome.captures judged
      → IsReportOn options has.parts.policy (policy_facts marked.filter.policy) packets judged report
      → totals ≡ totals_of judged.outcome.verdicts judged.outcome.captures → IsReportOfInput options bytes report totals
  unfolding taken_answers
  taken_report packets judged report totals few taken reached on counted = record {
    judged = judged;
    answers = taken_answers packets judged few taken reached;
    tells = λ other others read.
        let is = read_in bytes has.parts other others judged.outcome.captures has.parted read in
        let same =
        one_packets form content packets others judged.outcome.captures judged.outcome.captures fit taken
        (packets_there others judged.outcome.captures is.content) in
        record {
          parts = has.parts;
          parted = has.parted;
          on = subst (λ p. IsReportOn options has.parts.policy p others judged report) (has.policy.one other is.says)
              (subst (λ ps. IsReportOn options has.parts.policy (policy_facts marked.filter.policy) ps judged report) same.0 on);
        };
    counted = counted;
  }

  -- the report on their packets is one on the input
  pub digits_report : (packets : List PacketFacts) (captures : List Captured) (text held : List ℕ) (old new : Option (List ℕ)) (totals : Totals) → length bytes ≤ most_bytes
      → HasPackets form content packets captures → text ≡ has.parts.policy → old ≡ Some [] → new ≡ Some held
      → HasReportedOn options text (policy_facts marked.filter.policy) packets captures old new totals → IsReportOfInput options bytes held totals
  unfolding taken_report
  digits_report packets captures text held old new totals few taken same none some told =
      let judged = told.judged in
      let policy = policy_facts marked.filter.policy in
      let spelt = held_text old new held told.report none some told.written in
      taken_report packets judged held totals few (subst (λ (cs : List Captured). HasPackets form content packets cs) (sym told.reached.told) taken)
      (record { by_workers = told.reached.by_workers; kept = told.reached.kept; by_one_thread = told.reached.by_one_thread; told = refl })
      (subst (IsReportOn options has.parts.policy policy packets judged) (sym spelt)
      (subst (λ (t : List ℕ). IsReportOn options t policy packets judged told.report) same told.told))
      (told.counted ∙ ap (λ (cs : List Captured). totals_of judged.outcome.verdicts cs) (sym told.reached.told))

-- ---- the report on captures in turn

-- what workers said of the packets, and what stands behind that, was told
pub told_at_hand : (options : Options) (text : List ℕ) (policy : PolicyFacts) (wording at : Wording) (packets : List PacketFacts) (told : List Captured) (verdicts : List Verdict) (behind : List ℕ)
    (old mid new : Option (List ℕ)) (totals : Totals) → at ≡ wording → length verdicts ≡ length packets
    → IsToldBehind options text policy packets verdicts (latest_second packets) behind → totals ≡ totals_of verdicts told
    → Appends old mid (turns_in wording 1 packets verdicts told) → Appends mid new (end_in at [] totals ++ behind)
    → HasToldAtHand options text policy wording packets told old new totals
told_at_hand options text policy wording at packets told verdicts behind old mid new totals same count is counted wrote more =
    let turns = turns_in wording 1 packets verdicts told in
    let rest : Appends mid new (wording.all (totals_of verdicts told) ++ behind) =
    subst (λ (t : Totals). Appends mid new (wording.all t ++ behind)) counted (subst (λ (w : Wording). Appends mid new (w.all totals ++ behind)) same more) in
    record {
      verdicts = verdicts;
      count = count;
      behind = behind;
      is_behind = is;
      written = subst (Appends old new) (sym (append_assoc turns (wording.all (totals_of verdicts told)) behind)) (Appends-trans old mid new turns _ wrote rest);
      counted = counted;
    }

-- so it is the report, by rules that are those of the policy, where the lines tell packets so
pub reported_at_hand : (options : Options) (text : List ℕ) (policy ready : PolicyFacts) (wording : Wording) (names : Bool) (packets : List PacketFacts) (told : List Captured)
    (old new : Option (List ℕ)) (totals : Totals) → ready ≡ policy → AreNamedBy (name_where names) packets told → TellsBy names options text ready wording
    → HasToldAtHand options text ready wording packets told old new totals → HasReportedOn options text policy packets told old new totals
reported_at_hand options text policy ready wording names packets told old new totals same named tells has =
    let lines = report_in wording packets has.verdicts told in
    let made = reported options text ready packets has.verdicts told lines has.behind has.is_behind (tells.report packets has.verdicts told has.count named) in
    subst (λ (p : PolicyFacts). HasReportedOn options text p packets told old new totals) same (record {
      judged = made.0;
      reached = made.1;
      report = lines ++ has.behind;
      told = made.2;
      written = has.written;
      counted = has.counted ∙ ap (λ (o : Outcome). totals_of o.verdicts told) (sym made.3);
    })
