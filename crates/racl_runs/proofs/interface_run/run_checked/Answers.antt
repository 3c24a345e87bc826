use Rattle.std.proofs.Common.{List, [], Some, subst, sym, ℕ}
use Rattle.std.specs.Io.KnownBytes.{Appends}
use Rattle.acl_policy.specs.Policies.{policy_facts}
use Rattle.racl_io.specs.CapturePackets.{HavePacketsTold}
use Rattle.racl_io.specs.Tellings.{AreNamedBy, own_name}
use Rattle.racl_io.specs.declared.capture_bytes.CaptureBytes.{CaptureBytes}
use Rattle.racl_io.specs.declared.totals_and_truncation.Captured.{Captured}
use Rattle.racl_report.proofs.InterfaceLaws.{named_apart, told_apart}
use Rattle.racl_runs.specs.Reads.{HasReportedOn}
use Rattle.racl_runs.proofs.InterfaceLemmas.{has_run_apart}
use Rattle.racl_runs.proofs.interface_run.run_checked.Goals as goal

pub report_at_hand-requires-clause-right : goal.report_at_hand-requires-clause-right
report_at_hand-requires-clause-right g c κs within =
    let right = c.requires.right in
    let captures = c.args.input.now.captures.items in
    let told = c.args.right.now.told.items in (
      right.packets,
      subst (λ (cs : List CaptureBytes). HavePacketsTold cs c.deref-3.result.now right.packets) (sym c.deref-2.ensures.value)
          (subst (λ (ts : List Captured). HavePacketsTold captures ts right.packets) (sym c.deref-3.ensures.value) (told_apart [] captures right.packets told right.taken)),
    )

pub returns-in-Ok-write_all-clause-ok : goal.returns-in-Ok-write_all-clause-ok
returns-in-Ok-write_all-clause-ok g c =
    let right = c.requires.right in
    let options = c.args.options.now in
    let text = c.args.input.now.text.items in
    let captures = c.args.input.now.captures.items in
    let told = c.args.right.now.told.items in
    let policy = policy_facts c.args.right.now.filter.policy in
    let totals = c.in-Ok.held.totals in
    let held = c.in-Ok.held.text.items in
    let have = subst (λ (cs : List CaptureBytes). HavePacketsTold cs c.deref-3.result.now right.packets) (sym c.deref-2.ensures.value)
    (subst (λ (ts : List Captured). HavePacketsTold captures ts right.packets) (sym c.deref-3.ensures.value) (told_apart [] captures right.packets told right.taken)) in
    let named = subst (λ (ts : List Captured). AreNamedBy own_name right.packets ts) (sym c.deref-3.ensures.value) (named_apart [] captures right.packets told right.taken) in
    has_run_apart options text captures policy right.packets told _ _ _ totals c.args.input.now.few right.says.says right.taken
    (subst (λ (t : List ℕ). HasReportedOn options t policy right.packets told (Some []) (Some held) totals) c.deref.ensures.value
    (subst (λ (ts : List Captured). HasReportedOn options c.deref.result.now policy right.packets ts (Some []) (Some held) totals) c.deref-3.ensures.value
    (c.in-Ok.ensures.ok right.packets have named)))
    (subst (λ (t : List ℕ). Appends (g.W.Sink.bytes c.args.writer.now) (g.W.Sink.bytes c.write_all.new.writer) t) c.deref-4.ensures.value c.in-Ok-write_all.ensures.whole)
