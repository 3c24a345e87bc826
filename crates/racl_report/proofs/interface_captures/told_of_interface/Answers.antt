-- A second capture of its interface, one that has a fault, or one that is right.
use Rattle.std.proofs.Common.{List, ℕ, Some, ap, inl, inr, refl, subst, sym}
use Rattle.packet_view.specs.Captures.{IsCapture, IsCaptureFault, end_of, packets_at}
use Rattle.packet_view.specs.CheckedCaptures.{packets_of, records_of}
use Rattle.racl_io.specs.declared.totals_and_truncation.Captured.{Captured}
use Rattle.racl_report.proofs.InterfaceLaws.{among, not_among}
use Rattle.racl_report.proofs.interface_captures.told_of_interface.Goals as goal

pub returns-then-is_interface_seen-clause-fault : goal.returns-then-is_interface_seen-clause-fault
returns-then-is_interface_seen-clause-fault c = inl (among c.args.capture.now.interface c.args.seen.now (sym c.if-is_interface_seen.ensures), refl)

pub returns-in-Err-clause-fault : goal.returns-in-Err-clause-fault
returns-in-Err-clause-fault c =
    let cause = c.in-Err.cause in
    let first = not_among c.args.capture.now.interface c.args.seen.now (sym c.if-is_interface_seen.ensures) in
    inr (first, (cause, subst (λ (b : List ℕ). IsCaptureFault b cause) c.deref.ensures.value c.in-Err.ensures.fault, c.from.ensures))

pub returns-clause-ok : goal.returns-clause-ok
returns-clause-ok c =
    let checked = c.in-Ok.checked in
    let records = records_of checked.records in (
      packets_of checked.records,
      record {
        first = not_among c.args.capture.now.interface c.args.seen.now (sym c.if-is_interface_seen.ensures);
        truncated = checked.truncated;
        records = (
          records,
          subst (λ (b : List ℕ). IsCapture b records (end_of checked.truncated)) c.deref.ensures.value c.in-Ok.ensures.ok,
          ap (λ n. packets_at n records) c.in-Ok.ensures.at,
        );
        told = ap (λ n. let told : Captured = record { named = Some c.args.capture.now.interface; packets = n; truncated = checked.truncated } in told) c.count.ensures;
      },
    )
