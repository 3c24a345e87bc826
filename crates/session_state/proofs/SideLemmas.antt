-- The side of a packet tells which end of its flow sent it.
use Rattle.std.proofs.Common.{◌≡◌, ◌≢◌, ◌∙◌, ◌⊎◌, ◌+◌, ap, arith, sym, inl, inr}
use Rattle.packet_view.specs.Tuples.{TupleFacts}
use Rattle.session_state.specs.declared.flow.Flow.{Flow}
use Rattle.session_state.specs.Flows.{IsFlow, receiver_of, sender_of}
use Rattle.session_state.specs.SameFlow.{AreFlows, IsAnswer, SameFlow}
use Rattle.session_state.proofs.EndLemmas.{apart_ends, end_order}
use Rattle.session_state.proofs.SameFlowLemmas.{answer_is_same_flow, are_ends, parts_of_flow, sender_of_answer}

-- side 0 is the first end's, side 1 the other's
side_cases : (packet : TupleFacts) (flow : Flow) (h : IsFlow packet flow)
    → ((sender_of packet ≡ h.first) × (flow.side ≡ 0))
    ⊎ ((sender_of packet ≡ h.second) × (sender_of packet ≢ h.first) × (flow.side ≡ 1))
side_cases packet flow h =
    elim (end_order (sender_of packet) h.first) [
      | inl same ↦ inl (same, h.first_side same)
      | inr apart ↦
          let other : sender_of packet ≢ h.first = λ same. apart_ends (sender_of packet) h.first apart same in
          elim (are_ends packet flow h) [
            | inl (is_first, is_second) ↦ absurd (other (sym is_first))
            | inr (is_first, is_second) ↦ inr (sym is_second, other, h.second_side other)
          ]
    ]

-- packets of one side come from one end
pub sender_of_side : (a b : TupleFacts) (f g : Flow) → AreFlows a b f g → SameFlow a b → f.side ≡ g.side
    → sender_of a ≡ sender_of b
sender_of_side a b f g x same same_side =
    let made = parts_of_flow a b f g x same in
    let firsts : x.one.first ≡ x.other.first = ap (λ p. p.first) made in
    let seconds : x.one.second ≡ x.other.second = ap (λ p. p.second) made in
    elim (side_cases a f x.one) [
      | inl (first, side) ↦ elim (side_cases b g x.other) [
        | inl (other_first, other_side) ↦ first ∙ firsts ∙ sym other_first
        | inr (other_second, apart, other_side) ↦ absurd (omega (arith, side, other_side, same_side))
      ]
      | inr (second, apart, side) ↦ elim (side_cases b g x.other) [
        | inl (other_first, other_side) ↦ absurd (omega (arith, side, other_side, same_side))
        | inr (other_second, other_apart, other_side) ↦ second ∙ seconds ∙ sym other_second
      ]
    ]

-- packets of one flow from one end have one side
pub side_of_sender : (a b : TupleFacts) (f g : Flow) → AreFlows a b f g → SameFlow a b → sender_of a ≡ sender_of b
    → f.side ≡ g.side
side_of_sender a b f g x same same_sender =
    let firsts : x.one.first ≡ x.other.first = ap (λ p. p.first) (parts_of_flow a b f g x same) in
    elim (side_cases a f x.one) [
      | inl (first, side) ↦ side ∙ sym (x.other.first_side (sym same_sender ∙ first ∙ firsts))
      | inr (second, apart, side) ↦
          let other_apart : sender_of b ≢ x.other.first =
          λ other_first. apart (same_sender ∙ other_first ∙ sym firsts) in
          side ∙ sym (x.other.second_side other_apart)
    ]

-- a packet between equal ends has side 0
pub side_of_tie : (packet : TupleFacts) (flow : Flow) → IsFlow packet flow → sender_of packet ≡ receiver_of packet
    → flow.side ≡ 0
side_of_tie packet flow h same =
    elim (are_ends packet flow h) [
      | inl (is_first, is_second) ↦ h.first_side (sym is_first)
      | inr (is_first, is_second) ↦ h.first_side (same ∙ sym is_first)
    ]

-- packets of one flow from two ends have the two sides
opposite_sides : (a b : TupleFacts) (f g : Flow) → AreFlows a b f g → SameFlow a b → sender_of a ≢ sender_of b
    → f.side + g.side ≡ 1
opposite_sides a b f g x same apart =
    let made = parts_of_flow a b f g x same in
    let firsts : x.one.first ≡ x.other.first = ap (λ p. p.first) made in
    let seconds : x.one.second ≡ x.other.second = ap (λ p. p.second) made in
    elim (side_cases a f x.one) [
      | inl (first, side) ↦ elim (side_cases b g x.other) [
        | inl (other_first, other_side) ↦ absurd (apart (first ∙ firsts ∙ sym other_first))
        | inr (other_second, other_apart, other_side) ↦ omega (arith, side, other_side)
      ]
      | inr (second, apart_first, side) ↦ elim (side_cases b g x.other) [
        | inl (other_first, other_side) ↦ omega (arith, side, other_side)
        | inr (other_second, other_apart, other_side) ↦ absurd (apart (second ∙ seconds ∙ sym other_second))
      ]
    ]

-- a packet and its answer have opposite sides where the ends differ
pub side_of_answer : (a b : TupleFacts) (f g : Flow) → AreFlows a b f g → IsAnswer a b → sender_of a ≢ receiver_of a
    → f.side + g.side ≡ 1
side_of_answer a b f g x answer apart =
    opposite_sides a b f g x (answer_is_same_flow a b answer) (λ same. apart (same ∙ sender_of_answer a b answer))
