-- The flow of each kind of packet is the one that the definition names.
use Rattle.std.proofs.Common.{◌≡◌, ◌∙◌, ap, sym, inl, inr, Some}
use Rattle.packet_view.specs.Tuples.{tuple_facts}
use Rattle.session_state.specs.Flows.{flow_by_order, flow_of, flow_with}
use Rattle.session_state.proofs.FlowLemmas.{told}
use Rattle.session_state.proofs.flow.orient.Goals as goal

pub returns-in-Absent : goal.returns-in-Absent
returns-in-Absent c = told _ _ (sym (ap (flow_with (tuple_facts c.args.tuple.now)) c.in-Absent.is))

pub returns-in-Ports : goal.returns-in-Ports
returns-in-Ports c =
    let packet = tuple_facts c.args.tuple.now in
    let value : flow_of packet ≡ Some (flow_by_order packet) = elim c.in-Ports.is [
      | inl (from, to, is) ↦ ap (flow_with packet) is
      | inr (from, to, flags, is) ↦ ap (flow_with packet) is
    ] in
    told packet (Some c.by_order.result) (ap Some c.by_order.ensures ∙ sym value)

pub returns-in-Icmp : goal.returns-in-Icmp
returns-in-Icmp c = told _ _ (c.echo.ensures ∙ sym (ap (flow_with (tuple_facts c.args.tuple.now)) c.in-Icmp.is))
