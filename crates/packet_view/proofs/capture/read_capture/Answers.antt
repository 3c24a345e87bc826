use Rattle.std.proofs.Common.{◌∙◌, ◌++◌, append-nil, ap, map, sym}
use Rattle.std.proofs.lemmas.Result.{err_from_is_err_and}
use Rattle.packet_view.specs.Captures.{packet_facts, packets_at}
use Rattle.packet_view.specs.CheckedCaptures.{packets_of, records_of}
use Rattle.packet_view.proofs.CaptureLemmas.{has_record}
use Rattle.packet_view.proofs.capture.read_capture.Goals as goal

pub returns-in_err-records-clause-accepts : goal.returns-in_err-records-clause-accepts
returns-in_err-records-clause-accepts c = λ packets end (records, is, same). absurd (c.in_err-records.ensures.accepts records end is)

pub returns-in_err-push-clause-memory : goal.returns-in_err-push-clause-memory
returns-in_err-push-clause-memory c =
    let given = err_from_is_err_and c.from_residual-in_err-push.result c.from_residual-in_err-push.ensures.1 in
    let taken = c.in-Some.ensures in
    let records = c.in_ok-records.field-0.records in
    rw given.1 (λ _. has_record c.args.bytes.now records.interface (records_of records) _ (map packet_facts c.packets.packets.items) (packets_of c.next.new.self) (packet_facts c.in-Some.packet)
    c.in_ok-records.ensures.ok (ap (λ ps. map packet_facts c.packets.packets.items ++ ps) (sym taken) ∙ c.packets.invariant))

pub returns-clause-ok : goal.returns-clause-ok
returns-clause-ok c =
    let records = c.in_ok-records.field-0.records in
    let none = c.in_default.ensures in (
      records_of records,
      c.in_ok-records.ensures.ok,
      sym (append-nil (map packet_facts c.packets.packets.items))
          ∙ (ap (λ ps. map packet_facts c.packets.packets.items ++ ps) (sym none.0) ∙ (c.packets.invariant
          ∙ ap (λ n. packets_at n (records_of records)) c.in_ok-records.ensures.at)),
    )

pub returns-clause-accepts : goal.returns-clause-accepts
returns-clause-accepts c = λ packets end (records, is, same).
    let accepted = c.in_ok-records.ensures.accepts records end is in
    let none = c.in_default.ensures in
    let found = c.in_ok-records.field-0.records in
    let all = append-nil (map packet_facts c.packets.packets.items) in (
      sym all ∙ (ap (λ ps. map packet_facts c.packets.packets.items ++ ps) (sym none.0) ∙ (c.packets.invariant
          ∙ (ap (λ n. packets_at n (records_of found)) c.in_ok-records.ensures.at
          ∙ (ap (packets_at c.args.interface) accepted.0 ∙ sym same)))),
      accepted.1,
    )
