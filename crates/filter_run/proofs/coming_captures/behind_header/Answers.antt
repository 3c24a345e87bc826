use Rattle.std.proofs.Common.{◌∙◌, ◌≤◌, Option, arith, length, subst, sym}
use Rattle.packet_view.specs.Captures.{HasFileHeader}
use Rattle.packet_view.specs.declared.capture.Order.{Order}
use Rattle.filter_run.specs.Turns.{AreHeaded}
use Rattle.filter_run.specs.inner.Lanes.{HasWaiting}
use Rattle.capture_stream.proofs.PartingLemmas.{part_from}
use Rattle.filter_run.proofs.LaneLemmas.{header_read}
use Rattle.filter_run.proofs.coming_captures.behind_header.Goals as goal

pub returns-clause-waits : goal.returns-clause-waits
returns-clause-waits c = λ bytes records waits.
    let all = c.args.all.items in
    let many = c.if-len-lt-HEADER_BYTES.false in
    let size = c.len.ensures in
    let long : 24 ≤ length all = omega arith in
    let right = subst (HasFileHeader c.in_ok-order.order) c.deref.ensures.value c.in_ok-order.ensures.ok in
    let none = subst (λ (o : Option Order). HasWaiting o bytes records all) c.in_default.is waits in
    subst (AreHeaded c.in_ok-order.order bytes records) (sym (c.in_ok-rest.ensures.items ∙ part_from c.deref-2.result.now all 24 c.deref-2.ensures.value))
    (header_read c.in_ok-order.order all bytes records long right none)
