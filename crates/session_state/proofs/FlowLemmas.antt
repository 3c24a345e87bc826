-- The flow that is computed for a packet is the flow that the definition names, and the only one.
use Rattle.std.proofs.Common.{◌≡◌, ◌≢◌, ◌∙◌, ◌<◌, ℕ, Bool, true, false, ap, ap₂, arith, sym, subst, refl, inl, inr, Option, Some, None, IfSome, if◌then◌else◌}
use Rattle.std.specs.Prelude.{◌↔◌}
use Rattle.std.proofs.lemmas.Bool.{eq-eqb, ne_eqb}
use Rattle.std.proofs.lemmas.Bool.Decides.{eqb_tells}
use Rattle.std.proofs.lemmas.Option.{same_Some}
use Rattle.packet_view.specs.declared.tuple.Family.{Family}
use Rattle.packet_view.specs.declared.tuple.Family.TheVariants.{V4, V6}
use Rattle.packet_view.specs.declared.tuple.Fields.{Fields}
use Rattle.packet_view.specs.declared.tuple.Fields.TheVariants.{Absent, Ports, Tcp, Icmp}
use Rattle.packet_view.specs.Tuples.{TupleFacts}
use Rattle.session_state.specs.declared.flow_end.End.{End}
use Rattle.session_state.specs.declared.flow.Flow.{Flow}
use Rattle.session_state.specs.Flows.{IsEchoReply, IsFlow, LesserFirst, StandAs, echo_flow, flow_by_order, flow_of, oriented, receiver_of, reply_type, request_type, sender_of, side_of, stands_first}
use Rattle.session_state.proofs.EndLemmas.{apart_ends, end_order, first_by_order, not_ordered, ordered, second_by_order, side_first, side_second, test_same}

pub types_differ : (family : Family) → reply_type family ≡ request_type family → ⊥
types_differ V4 same = omega (arith, same)
types_differ V6 same = omega (arith, same)

-- a packet of these parts
abbrev pub packet_of : ℕ → Family → ℕ → ℕ → ℕ → Fields → TupleFacts
packet_of number family source dest proto fields =
    record { interface = number; family = family; source = source; dest = dest; proto = proto; fields = fields }

abbrev icmp_of_type : ℕ → ℕ → Fields
icmp_of_type code kind = Icmp kind code

-- an ICMP packet is an echo reply by its type
reply_kind : (number : ℕ) (family : Family) (source dest proto kind code : ℕ)
    → IsEchoReply (packet_of number family source dest proto (Icmp kind code)) → kind ≡ reply_type family
reply_kind number family source dest proto kind code (other, same) = cc

-- an oriented packet has the flow that the definition names
oriented_is_flow : (packet : TupleFacts) (first second : End) (starts : Bool)
    → StandAs packet packet.fields first second → (IsEchoReply packet → starts ≡ false)
    → ((IsEchoReply packet → ⊥) → starts ≡ true) → IsFlow packet (oriented packet first second starts)
oriented_is_flow packet first second starts ends reply other = record {
  first = first;
  second = second;
  ends = ends;
  key = refl;
  first_side = side_first first (sender_of packet);
  second_side = side_second first (sender_of packet);
  reply = reply;
  other = other;
}

-- the flow by the outcome of the test of the order
abbrev flow_by_test : TupleFacts → Bool → Flow
flow_by_test packet test =
    if test then oriented packet (sender_of packet) (receiver_of packet) true
    else oriented packet (receiver_of packet) (sender_of packet) true

-- the flow by the order of the ends is the one that the definition names
ordered_is_flow : (packet : TupleFacts)
    → ((first second : End) → LesserFirst (sender_of packet) (receiver_of packet) first second
    → StandAs packet packet.fields first second)
    → (IsEchoReply packet → ⊥) → IsFlow packet (flow_by_order packet)
ordered_is_flow packet stands no_reply =
    let from = sender_of packet in
    let to = receiver_of packet in
    let none : IsEchoReply packet → true ≡ false = λ h. absurd (no_reply h) in
    elim (stands_first from to) as (λ b. stands_first from to ≡ b → IsFlow packet (flow_by_test packet b)) [
      | true ↦ λ test.
          let ends = stands from to (inl (refl, refl, ordered from to test)) in
          oriented_is_flow packet from to true ends none (λ _. refl)
      | false ↦ λ test.
          let ends = stands to from (inr (refl, refl, not_ordered from to test)) in
          oriented_is_flow packet to from true ends none (λ _. refl)
    ] refl

-- the flow of an echo is the one that the definition names
echo_is_flow : (number : ℕ) (family : Family) (source dest proto kind code : ℕ) (flow : Flow)
    → echo_flow (packet_of number family source dest proto (Icmp kind code)) kind ≡ Some flow
    → IsFlow (packet_of number family source dest proto (Icmp kind code)) flow
echo_is_flow number family source dest proto kind code flow same =
    let packet = packet_of number family source dest proto (Icmp kind code) in
    let from = sender_of packet in
    let to = receiver_of packet in
    let kind_of = reply_kind number family source dest proto kind code in
    elim (eqb_tells kind (request_type family)) [
      | inl (test, is_request) ↦
          subst (IsFlow packet) (same_Some _ _ (rw test at same))
          (oriented_is_flow packet from to true (inl (is_request, refl, refl))
          (λ reply. absurd (types_differ family (sym (kind_of reply) ∙ is_request))) (λ _. refl))
      | inr (test, no_request) ↦ elim (eqb_tells kind (reply_type family)) [
        | inl (reply_test, is_reply) ↦
            subst (IsFlow packet) (same_Some _ _ (let h = rw test at same in rw reply_test at h))
            (oriented_is_flow packet to from false (inr (is_reply, refl, refl)) (λ _. refl)
            (λ none. absurd (none (code, ap (icmp_of_type code) is_reply))))
        | inr (reply_test, no_reply) ↦ (let h = rw test at same in let none = rw reply_test at h in cc)
      ]
    ]

found_at : (number : ℕ) (family : Family) (source dest proto : ℕ) (fields : Fields) (flow : Flow)
    → flow_of (packet_of number family source dest proto fields) ≡ Some flow
    → IsFlow (packet_of number family source dest proto fields) flow
found_at number family source dest proto Absent flow same = cc
found_at number family source dest proto (Ports from to) flow same =
    let packet = packet_of number family source dest proto (Ports from to) in
    subst (IsFlow packet) (same_Some _ _ same) (ordered_is_flow packet (λ first second h. h) (λ h. cc))
found_at number family source dest proto (Tcp from to flags) flow same =
    let packet = packet_of number family source dest proto (Tcp from to flags) in
    subst (IsFlow packet) (same_Some _ _ same) (ordered_is_flow packet (λ first second h. h) (λ h. cc))
found_at number family source dest proto (Icmp kind code) flow same =
    echo_is_flow number family source dest proto kind code flow same

-- the flow that is computed is the packet's
pub found : (packet : TupleFacts) (flow : Flow) → flow_of packet ≡ Some flow → IsFlow packet flow
found packet flow = found_at packet.interface packet.family packet.source packet.dest packet.proto packet.fields flow

same_flow : (one other : Flow) → one.key ≡ other.key → one.side ≡ other.side → one.starts ≡ other.starts
    → one ≡ other
same_flow one other key side starts =
    ap₂ (λ k s. let flow : Flow = record { key = k; side = s; starts = one.starts } in flow) key side
    ∙ ap (λ b. let flow : Flow = record { key = other.key; side = other.side; starts = b } in flow) starts

-- a flow of a packet is the oriented one of its ends
only_oriented : (packet : TupleFacts) (flow : Flow) (h : IsFlow packet flow) (first second : End) (starts : Bool)
    → h.first ≡ first → h.second ≡ second → flow.starts ≡ starts → oriented packet first second starts ≡ flow
only_oriented packet flow h first second starts is_first is_second same_starts =
    let from = sender_of packet in
    let side : flow.side ≡ side_of h.first from = elim (end_order from h.first) [
      | inl same ↦ h.first_side same ∙ sym (side_first h.first from same)
      | inr apart ↦
          let other : from ≢ h.first = λ same. apart_ends from h.first apart same in
          h.second_side other ∙ sym (side_second h.first from other)
    ] in
    sym (same_flow flow (oriented packet h.first h.second starts) h.key side same_starts
    ∙ ap₂ (λ x y. oriented packet x y starts) is_first is_second)

pub echo_request : (packet : TupleFacts) (kind : ℕ) → kind ≡ request_type packet.family
    → echo_flow packet kind ≡ Some (oriented packet (sender_of packet) (receiver_of packet) true)
echo_request packet kind same = rw (eq-eqb kind (request_type packet.family) same) refl

pub echo_reply : (packet : TupleFacts) (kind : ℕ) → kind ≡ reply_type packet.family
    → echo_flow packet kind ≡ Some (oriented packet (receiver_of packet) (sender_of packet) false)
echo_reply packet kind same =
    let no_request : kind ≢ request_type packet.family = λ request. types_differ packet.family (sym same ∙ request) in
    rw (ne_eqb kind (request_type packet.family) no_request, eq-eqb kind (reply_type packet.family) same) refl

-- a flow of a packet with ports is the one by the order of its ends
only_ordered : (packet : TupleFacts) (flow : Flow) (h : IsFlow packet flow)
    → LesserFirst (sender_of packet) (receiver_of packet) h.first h.second → flow.starts ≡ true
    → flow_by_order packet ≡ flow
only_ordered packet flow h (inl (is_first, is_second, least)) starts =
    ap (flow_by_test packet) (first_by_order (sender_of packet) (receiver_of packet) least)
    ∙ only_oriented packet flow h _ _ true is_first is_second starts
only_ordered packet flow h (inr (is_first, is_second, most)) starts =
    let from = sender_of packet in
    let to = receiver_of packet in
    let swapped : flow_by_order packet ≡ oriented packet to from true = elim (second_by_order from to most) [
      | inl same ↦
          ap (flow_by_test packet) (subst (λ e. stands_first from e ≡ true) same (test_same from))
          ∙ ap₂ (λ x y. oriented packet x y true) same (sym same)
      | inr test ↦ ap (flow_by_test packet) test
    ] in
    swapped ∙ only_oriented packet flow h to from true is_first is_second starts

only_at : (number : ℕ) (family : Family) (source dest proto : ℕ) (fields : Fields) (flow : Flow)
    → IsFlow (packet_of number family source dest proto fields) flow
    → flow_of (packet_of number family source dest proto fields) ≡ Some flow
only_at number family source dest proto Absent flow h = absurd h.ends
only_at number family source dest proto (Ports from to) flow h =
    let packet = packet_of number family source dest proto (Ports from to) in
    ap Some (only_ordered packet flow h h.ends (h.other (λ (code, same). cc)))
only_at number family source dest proto (Tcp from to flags) flow h =
    let packet = packet_of number family source dest proto (Tcp from to flags) in
    ap Some (only_ordered packet flow h h.ends (h.other (λ (code, same). cc)))
only_at number family source dest proto (Icmp kind code) flow h =
    let packet = packet_of number family source dest proto (Icmp kind code) in
    let kind_of = reply_kind number family source dest proto kind code in
    elim h.ends [
      | inl (is_request, is_first, is_second) ↦
          let starts = h.other (λ reply. types_differ family (sym (kind_of reply) ∙ is_request)) in
          echo_request packet kind is_request ∙ ap Some (only_oriented packet flow h _ _ true is_first is_second starts)
      | inr (is_reply, is_first, is_second) ↦
          let starts = h.reply (code, ap (icmp_of_type code) is_reply) in
          echo_reply packet kind is_reply ∙ ap Some (only_oriented packet flow h _ _ false is_first is_second starts)
    ]

-- a packet has no other flow than the one that is computed
pub only : (packet : TupleFacts) (flow : Flow) → IsFlow packet flow → flow_of packet ≡ Some flow
only packet flow = only_at packet.interface packet.family packet.source packet.dest packet.proto packet.fields flow

-- both ways
pub flow_told : (packet : TupleFacts) (flow : Flow) → (flow_of packet ≡ Some flow) ↔ IsFlow packet flow
flow_told packet flow = (found packet flow, only packet flow)

-- a sender's side is one of two
side_fits : (packet : TupleFacts) (flow : Flow) → IsFlow packet flow → flow.side < 2
side_fits packet flow h =
    let from = sender_of packet in
    elim (end_order from h.first) [
      | inl same ↦ omega (arith, h.first_side same)
      | inr apart ↦ omega (arith, h.second_side (λ same. apart_ends from h.first apart same))
    ]

found_in : (packet : TupleFacts) (result : Option Flow) → result ≡ flow_of packet → IfSome result (IsFlow packet)
found_in packet None same = tt
found_in packet (Some flow) same = found packet flow (sym same)

side_in : (packet : TupleFacts) (result : Option Flow) → result ≡ flow_of packet → IfSome result (λ flow. flow.side < 2)
side_in packet None same = tt
side_in packet (Some flow) same = side_fits packet flow (found packet flow (sym same))

-- what is promised of the flow that is computed
pub told : (packet : TupleFacts) (result : Option Flow) → result ≡ flow_of packet → record {
  value : result ≡ flow_of packet;
  found : IfSome result (IsFlow packet);
  side : IfSome result (λ flow. flow.side < 2);
  only : (flow : Flow) → IsFlow packet flow → result ≡ Some flow;
}
told packet result same = record {
  value = same;
  found = found_in packet result same;
  side = side_in packet result same;
  only = λ flow h. same ∙ only packet flow h;
}
