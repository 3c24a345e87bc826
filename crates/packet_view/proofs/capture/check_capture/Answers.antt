use Rattle.std.proofs.Common.{ℕ, List, drop, subst}
use Rattle.std.proofs.lemmas.List.{take_rest}
use Rattle.packet_view.specs.inner.RecordSteps.{Checks}
use Rattle.packet_view.proofs.CaptureLemmas.{IsHeaderOf, checks_ok, checks_fault, checks_accepts, checks_refuses}
use Rattle.packet_view.proofs.capture.check_capture.Goals as goal
use Rattle.packet_view.proofs.capture.check_capture.Goals.{After-check_records}

header : (c : After-check_records) → IsHeaderOf c.in_ok-order.order c.args.bytes.now
header c = record {
  right = c.in_ok-order.ensures.ok;
  one = λ other right. let e = c.in_ok-order.ensures.accepts other right in cc;
  none = λ found h. let e = c.in_ok-order.ensures.refuses found h in cc;
}

checks : (c : After-check_records) → Checks c.in_ok-order.order (drop 24 c.args.bytes.now) c.check_records.result
checks c = subst (λ (bytes : List ℕ). Checks c.in_ok-order.order bytes c.check_records.result) (take_rest c.args.bytes.now 24) c.check_records.ensures.checks

pub returns-clause-ok : goal.returns-clause-ok
returns-clause-ok c = checks_ok c.in_ok-order.order c.args.bytes.now (header c) c.check_records.result (checks c)

pub returns-clause-fault : goal.returns-clause-fault
returns-clause-fault c = checks_fault c.in_ok-order.order c.args.bytes.now (header c) c.check_records.result (checks c)

pub returns-clause-accepts : goal.returns-clause-accepts
returns-clause-accepts c = checks_accepts c.in_ok-order.order c.args.bytes.now (header c) c.check_records.result (checks c)

pub returns-clause-refuses : goal.returns-clause-refuses
returns-clause-refuses c = checks_refuses c.in_ok-order.order c.args.bytes.now (header c) c.check_records.result (checks c)
