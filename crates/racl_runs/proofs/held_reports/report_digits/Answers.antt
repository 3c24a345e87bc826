use Rattle.std.proofs.Common.{List, inl, refl, subst, sym, ℕ, ◌≡◌, ◌⊎◌}
use Rattle.std.proofs.lemmas.List.{take_rest}
use Rattle.racl_io.specs.CapturePackets.{HavePacketsTold}
use Rattle.racl_io.specs.Faults.{IsFaultOfContent}
use Rattle.racl_io.specs.Tellings.{AreNamedBy, name_where}
use Rattle.racl_io.specs.declared.capture_bytes.CaptureBytes.{CaptureBytes}
use Rattle.racl_io.specs.declared.fault.Fault.TheVariants.{Memory}
use Rattle.racl_io.specs.declared.totals_and_truncation.Captured.{Captured}
use Rattle.racl_report.specs.ReadInputs.{HasPackets}
use Rattle.racl_runs.specs.inner.Captures.{AreDecoded}
use Rattle.racl_runs.proofs.AtHandLemmas.{digits_report, fault_answers, fit_behind}
use Rattle.racl_runs.proofs.DigitCaptureLemmas.{decoded_named}
use Rattle.racl_runs.proofs.held_reports.report_digits.Goals as goal

pub returns-in-Err-clause-fault : goal.returns-in-Err-clause-fault
returns-in-Err-clause-fault g c =
    let marked = c.args.marked in
    let bytes = c.args.bytes.now in
    fault_answers c.args.options.now bytes marked c.requires.marked (fit_behind marked.form bytes marked.from c.requires.marked.fit) c.in-Err.fault
    (subst (λ (b : List ℕ). (c.in-Err.fault ≡ Memory) ⊎ IsFaultOfContent marked.form b c.in-Err.fault) (take_rest bytes marked.from) c.in-Err.ensures.fault)

pub report_at_hand-requires-clause-right : goal.report_at_hand-requires-clause-right
report_at_hand-requires-clause-right g c κs within =
    let are = c.in-Ok.ensures.ok in (
      are.packets,
      subst (λ (cs : List CaptureBytes). HavePacketsTold cs c.deref-2.result.now are.packets) (sym c.deref.ensures.value)
          (subst (λ (ts : List Captured). HavePacketsTold c.in-Ok.decoded.captures.items ts are.packets) (sym c.deref-2.ensures.value) are.have),
    )

pub returns-in-Ok-report_at_hand-clause-ok : goal.returns-in-Ok-report_at_hand-clause-ok
returns-in-Ok-report_at_hand-clause-ok g c =
    let options = c.args.options.now in
    let marked = c.args.marked in
    let bytes = c.args.bytes.now in
    let are = subst (λ (b : List ℕ). AreDecoded marked.form b c.in-Ok.decoded) (take_rest bytes marked.from) c.in-Ok.ensures.ok in
    let listed = c.deref-2.result.now in
    let told = c.in-Ok.decoded.told.items in
    let have = subst (λ (cs : List CaptureBytes). HavePacketsTold cs listed are.packets) (sym c.deref.ensures.value)
    (subst (λ (ts : List Captured). HavePacketsTold c.in-Ok.decoded.captures.items ts are.packets) (sym c.deref-2.ensures.value) are.have) in
    let named = subst (λ (ts : List Captured). AreNamedBy (name_where c.has_number.result) are.packets ts) (sym c.deref-2.ensures.value)
    (decoded_named marked.form _ are.packets told are.taken c.has_number.result c.has_number.ensures) in
    digits_report options bytes marked c.requires.marked (fit_behind marked.form bytes marked.from c.requires.marked.fit) are.packets listed _
    c.in-Ok-report_at_hand.held.text.items _ _ c.in-Ok-report_at_hand.held.totals c.requires.few
    (subst (HasPackets marked.form _ are.packets) (sym c.deref-2.ensures.value) are.taken) c.requires.marked.text refl refl
    (c.in-Ok-report_at_hand.ensures.ok are.packets have named)

pub returns-clause-fault : goal.returns-clause-fault
returns-clause-fault g c =
    let marked = c.args.marked in
    let bytes = c.args.bytes.now in
    fault_answers c.args.options.now bytes marked c.requires.marked (fit_behind marked.form bytes marked.from c.requires.marked.fit) c.in-Err-report_at_hand.fault
    (inl c.in-Err-report_at_hand.ensures.fault)
