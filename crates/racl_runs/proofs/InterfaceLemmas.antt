-- What was judged of captures of interfaces that come apart, and the report on it.
use Rattle.std.proofs.Common.{◌≡◌, ◌≢◌, ◌∙◌, ◌≤◌, ◌⊎◌, ◌+◌, ℕ, List, [], Option, None, Some, length, refl, sym, ap, ap₂, subst, inl, inr}
use Rattle.std.specs.Io.KnownBytes.{Appends}
use Rattle.packet_view.specs.Captures.{PacketFacts}
use Rattle.acl_policy.specs.Policies.{IsPolicyFault, IsPolicyText, PolicyFacts}
use Rattle.acl_policy.specs.declared.policy.PolicyFault.{PolicyFault}
use Rattle.acl_policy.specs.declared.policy.PolicyFault.TheVariants as policy
use Rattle.flow_dealing.specs.WorkerRecords.{HavePages}
use Rattle.session_state.specs.declared.timeouts.Timeouts.{Timeouts}
use Rattle.flow_filter.proofs.OneThreadLemmas.{one_verdicts, some_verdicts}
use Rattle.racl_options.specs.declared.settings.Options.{Options}
use Rattle.racl_options.specs.declared.settings.TableSize.{TableSize}
use Rattle.racl_io.specs.declared.fault.Fault.{Fault}
use Rattle.racl_io.specs.declared.fault.Fault.TheVariants.{Memory, Write}
use Rattle.racl_io.specs.declared.totals_and_truncation.Captured.{Captured}
use Rattle.racl_io.specs.declared.totals_and_truncation.Totals.{Totals}
use Rattle.racl_io.specs.Faults.{policy_fault}
use Rattle.racl_io.specs.Inputs.{most_bytes}
use Rattle.racl_io.specs.Reports.{totals_of}
use Rattle.racl_io.specs.declared.capture_bytes.CaptureBytes.{CaptureBytes}
use Rattle.racl_report.specs.InterfaceInputs.{AreAllBytes, AreTakenApart, IsFaultApart, IsFaultBehind, bytes_in, placeless}
use Rattle.racl_report.specs.declared.interface_captures.PlacedFault.{PlacedFault}
use Rattle.racl_report.specs.RunReports.{Outcome}
use Rattle.racl_report.proofs.InterfaceLaws.{fault_not_write, found_at, no_fault_apart, one_fault_apart, one_read_apart, read_or_fault}
use Rattle.racl_runs.proofs.AtHandLemmas.{held_text}
use Rattle.racl_runs.proofs.OutcomeLemmas.{outcome_of}
use Rattle.racl_runs.specs.InterfaceRuns.{HasOutcomeApart, HasRunApart, IsSystemApart}
use Rattle.racl_runs.specs.Reads.{HasReportedOn}
use Rattle.racl_runs.specs.Runs.{AgeInTime, ByOneThread, layout_for}

-- a run on them has the outcome of the one-thread filter, where no verdict says no-pages and ageing is in time
pub one_outcome_apart : (text : List ℕ) (captures : List CaptureBytes) → AreAllBytes captures → (options : Options) (old new : Option (List ℕ)) (totals : Totals) (outcome : Outcome) (run : HasRunApart options text captures old new totals)
    → HasOutcomeApart options.tables options.times text captures outcome → HavePages run.judged.outcome.verdicts → AgeInTime run.reached.by_workers
    → outcome ≡ run.judged.outcome
one_outcome_apart text captures fit options old new totals outcome run has paged in_time =
    let same = one_read_apart text captures fit run.policy has.policy run.packets has.packets run.judged.outcome.captures outcome.captures run.read has.read in
    let verdicts = run.judged.outcome.verdicts in
    let here : ByOneThread options.tables options.times has.policy has.packets verdicts =
    subst (λ ps. ByOneThread options.tables options.times has.policy ps verdicts) same.1.0
    (subst (λ p. ByOneThread options.tables options.times p run.packets verdicts) same.0 (run.reached.by_one_thread paged in_time)) in
    ap₂ outcome_of (one_verdicts (layout_for options.tables) options.times has.policy has.packets outcome.verdicts verdicts has.verdicts here) (sym same.1.1)

-- ---- one outcome or one fault

pub one_outcome_of_interfaces : (size : TableSize) (times : Timeouts) (text : List ℕ) (captures : List CaptureBytes) (one other : Outcome) → AreAllBytes captures
    → HasOutcomeApart size times text captures one → HasOutcomeApart size times text captures other → one ≡ other
one_outcome_of_interfaces size times text captures one other fit a b =
    let same = one_read_apart text captures fit a.policy b.policy a.packets b.packets one.captures other.captures a.read b.read in
    let moved : ByOneThread size times b.policy b.packets one.verdicts =
    subst (λ ps. ByOneThread size times b.policy ps one.verdicts) same.1.0 (subst (λ p. ByOneThread size times p a.packets one.verdicts) same.0 a.verdicts) in
    ap₂ outcome_of (one_verdicts (layout_for size) times b.policy b.packets one.verdicts other.verdicts moved b.verdicts) same.1.1

pub no_fault_of_interfaces : (size : TableSize) (times : Timeouts) (text : List ℕ) (captures : List CaptureBytes) (outcome : Outcome) (found : PlacedFault)
    → AreAllBytes captures → HasOutcomeApart size times text captures outcome → IsFaultApart text captures found → ⊥
no_fault_of_interfaces size times text captures outcome found fit has of =
    no_fault_apart text captures fit has.policy has.packets outcome.captures found has.read.says has.read.taken of

pub outcome_of_interfaces : (size : TableSize) (times : Timeouts) (text : List ℕ) (captures : List CaptureBytes) → length text + bytes_in captures ≤ most_bytes
    → ((outcome : Outcome) × HasOutcomeApart size times text captures outcome) ⊎ ((found : PlacedFault) × IsFaultApart text captures found)
outcome_of_interfaces size times text captures few =
    elim (read_or_fault text captures few) [
      | inl (policy, packets, told, read) ↦
          let verdicts = some_verdicts (layout_for size) times policy packets in
          inl (outcome_of verdicts.0 told, record { policy = policy; packets = packets; read = read; verdicts = verdicts.1 })
      | inr found ↦ inr found
    ]

-- the report on what was judged of a text and captures, which was held, and then written
pub has_run_apart : (options : Options) (text : List ℕ) (captures : List CaptureBytes) (policy : PolicyFacts) (packets : List PacketFacts) (told : List Captured)
    (held : List ℕ) (old new : Option (List ℕ)) (totals : Totals) → length text + bytes_in captures ≤ most_bytes → IsPolicyText text policy → AreTakenApart [] captures packets told
    → HasReportedOn options text policy packets told (Some []) (Some held) totals → Appends old new held → HasRunApart options text captures old new totals
has_run_apart options text captures policy packets told held old new totals few says taken has wrote = record {
  policy = policy;
  packets = packets;
  judged = has.judged;
  read = record { few = few; says = says; taken = subst (λ (cs : List Captured). AreTakenApart [] captures packets cs) (sym has.reached.told) taken };
  reached = record { by_workers = has.reached.by_workers; kept = has.reached.kept; by_one_thread = has.reached.by_one_thread; told = refl };
  report = has.report;
  told = has.told;
  written = subst (Appends old new) (held_text (Some []) (Some held) held has.report refl refl has.written) wrote;
  counted = has.counted ∙ ap (λ (cs : List Captured). totals_of has.judged.outcome.verdicts cs) (sym has.reached.told);
}

-- ---- which fault is answered

-- a policy that is refused for a cause or since memory ran out
pub wrong_policy : (text : List ℕ) (captures : List CaptureBytes) (cause : PolicyFault) (fault : Fault) → fault ≡ policy_fault cause
    → (cause ≢ policy.Memory → IsPolicyFault text cause) → (found_at fault None ≡ placeless Memory) ⊎ IsFaultApart text captures (found_at fault None)
wrong_policy text captures policy.Memory fault same is = inl (ap (λ (f : Fault). placeless f) same)
wrong_policy text captures cause fault same is = inr (inl (cause, is (λ e. cc), ap (λ (f : Fault). placeless f) same))

-- captures that are refused behind a right policy
pub wrong_captures : (text : List ℕ) (captures : List CaptureBytes) (policy : PolicyFacts) (found : PlacedFault) → IsPolicyText text policy
    → (found ≡ placeless Memory) ⊎ IsFaultBehind 0 [] captures found → (found ≡ placeless Memory) ⊎ IsFaultApart text captures found
wrong_captures text captures policy found says (inl memory) = inl memory
wrong_captures text captures policy found says (inr behind) = inr (inr (policy, says, behind))

-- what is answered of text and captures with a fault
module _ (text : List ℕ) (captures : List CaptureBytes) (fit : AreAllBytes captures) (found : PlacedFault) (is : (found ≡ placeless Memory) ⊎ IsFaultApart text captures found) where
  pub fault_of_system : (found ≡ placeless Memory) ⊎ IsFaultApart text captures found → IsSystemApart found ⊎ IsFaultApart text captures found
  fault_of_system (inl memory) = inl (inl memory)
  fault_of_system (inr of) = inr of

  pub right_is_not_faulty : (options : Options) (outcome : Outcome) → HasOutcomeApart options.tables options.times text captures outcome → IsSystemApart found
  right_is_not_faulty options outcome has = elim is [
    | inl memory ↦ inl memory
    | inr of ↦ absurd (no_fault_apart text captures fit has.policy has.packets outcome.captures found has.read.says has.read.taken of)
  ]

  pub fault_is_only : (cause : PlacedFault) → IsFaultApart text captures cause → (found ≡ cause) ⊎ (found ≡ placeless Memory)
  fault_is_only cause of = elim is [
    | inl memory ↦ inr memory
    | inr own ↦ inl (one_fault_apart text captures fit found cause own of)
  ]

  pub no_failed_write : found ≡ placeless Write → ⊥
  no_failed_write same = elim is [
    | inl memory ↦ let e : placeless Memory ≡ placeless Write = sym memory ∙ same in let f : Memory ≡ Write = ap (λ (p : PlacedFault). p.fault) e in cc
    | inr of ↦ fault_not_write text captures fit found of same
  ]
