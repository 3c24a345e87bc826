-- Packets of one flow have one key, and packets of one key are of one flow.
use Rattle.std.proofs.Common.{◌≡◌, ◌∙◌, ◌⊎◌, ℕ, IsTrue, IsSome, ap, arith, sym, subst, refl, inl, inr}
use Rattle.packet_view.specs.Addresses.{fields_suit, icmp_of}
use Rattle.packet_view.specs.Tuples.{TupleFacts}
use Rattle.packet_view.specs.declared.tuple.Family.{Family}
use Rattle.packet_view.specs.declared.tuple.Family.TheVariants.{V4, V6}
use Rattle.packet_view.specs.declared.tuple.Fields.{Fields}
use Rattle.packet_view.specs.declared.tuple.Fields.TheVariants.{Absent, Ports, Tcp, Icmp}
use Rattle.session_state.specs.declared.flow_end.End.{End}
use Rattle.session_state.specs.declared.flow.Flow.{Flow}
use Rattle.session_state.specs.Flows.{IsEchoReply, IsEchoRequest, IsFlow, LesserFirst, StandAs, dest_port, flow_of, flow_with, receiver_of, reply_type, request_type, sender_of, source_port}
use Rattle.session_state.specs.SameFlow.{AnswerFields, AreFlows, HavePorts, IsAnswer, IsEcho, IsTuple, SameEnds, SameFlow}
use Rattle.session_state.proofs.EndLemmas.{lesser_once, lesser_swap, same_end}
use Rattle.session_state.proofs.FlowLemmas.{echo_reply, echo_request, packet_of, types_differ}
use Rattle.session_state.proofs.KeyLemmas.{Parts, PartsFit, key_of_parts, same_key, same_parts}

-- a TCP or UDP packet, with its ends in the order of its key
pub record IsExchange (packet : TupleFacts) (first second : End) : Type 0 where
  pub ports : HavePorts packet.fields
  pub proto : (packet.proto ≡ 6) ⊎ (packet.proto ≡ 17)
  pub order : LesserFirst (sender_of packet) (receiver_of packet) first second

-- an echo that the first end asks of the second
pub record IsEchoBetween (packet : TupleFacts) (first second : End) : Type 0 where
  pub proto : packet.proto ≡ icmp_of packet.family
  pub echo : IsEcho packet first.address second.address
  pub first_port : first.port ≡ 0
  pub second_port : second.port ≡ 0

kind_at : (number : ℕ) (family : Family) (source dest proto : ℕ) (fields : Fields) (first second : End)
    → (let packet = packet_of number family source dest proto fields in StandAs packet fields first second
    → IsTrue (fields_suit family proto fields)
    → IsExchange packet first second ⊎ IsEchoBetween packet first second)
kind_at number family source dest proto Absent first second ends suit = absurd ends
kind_at number family source dest proto (Ports from to) first second ends suit =
    inl (record { ports = tt; proto = inr (grind (arith, suit)); order = ends })
kind_at number family source dest proto (Tcp from to flags) first second ends suit =
    inl (record { ports = tt; proto = inl (grind (arith, suit)); order = ends })
kind_at number family source dest proto (Icmp kind code) first second (inl (is_request, is_first, is_second)) suit =
    inr (record {
      proto = grind (arith, suit);
      echo = inl (
        (code, ap (λ k. let f : Fields = Icmp k code in f) is_request),
        sym (ap (λ e. e.address) is_first),
        sym (ap (λ e. e.address) is_second),
      );
      first_port = ap (λ e. e.port) is_first;
      second_port = ap (λ e. e.port) is_second;
    })
kind_at number family source dest proto (Icmp kind code) first second (inr (is_reply, is_first, is_second)) suit =
    inr (record {
      proto = grind (arith, suit);
      echo = inr (
        (code, ap (λ k. let f : Fields = Icmp k code in f) is_reply),
        sym (ap (λ e. e.address) is_second),
        sym (ap (λ e. e.address) is_first),
      );
      first_port = ap (λ e. e.port) is_first;
      second_port = ap (λ e. e.port) is_second;
    })

-- what a packet is that takes part in sessions
kind_of : (packet : TupleFacts) (flow : Flow) (h : IsFlow packet flow) → IsTuple packet
    → IsExchange packet h.first h.second ⊎ IsEchoBetween packet h.first h.second
kind_of packet flow h tuple =
    kind_at packet.interface packet.family packet.source packet.dest packet.proto packet.fields h.first h.second h.ends tuple.suit

-- both ends of a flow are the sender's and the receiver's
abbrev pub AreEnds : TupleFacts → End → End → Type 0
AreEnds packet first second =
    ((first ≡ sender_of packet) × (second ≡ receiver_of packet))
    ⊎ ((first ≡ receiver_of packet) × (second ≡ sender_of packet))

are_ends_at : (packet : TupleFacts) (fields : Fields) (first second : End) → StandAs packet fields first second
    → AreEnds packet first second
are_ends_at packet Absent first second ends = absurd ends
are_ends_at packet (Ports from to) first second (inl h) = inl (h.0, h.1)
are_ends_at packet (Ports from to) first second (inr h) = inr (h.0, h.1)
are_ends_at packet (Tcp from to flags) first second (inl h) = inl (h.0, h.1)
are_ends_at packet (Tcp from to flags) first second (inr h) = inr (h.0, h.1)
are_ends_at packet (Icmp kind code) first second (inl h) = inl (h.1, h.2)
are_ends_at packet (Icmp kind code) first second (inr h) = inr (h.1, h.2)

pub are_ends : (packet : TupleFacts) (flow : Flow) (h : IsFlow packet flow) → AreEnds packet h.first h.second
are_ends packet flow h = are_ends_at packet packet.fields h.first h.second h.ends

-- what the key of a packet's flow is made of
abbrev parts : (packet : TupleFacts) (flow : Flow) → IsFlow packet flow → Parts
parts packet flow h =
    record { family = packet.family; first = h.first; second = h.second; proto = packet.proto; number = packet.interface }

-- the parts fit, since the ends are those of the packet
parts_fit : (packet : TupleFacts) (flow : Flow) (h : IsFlow packet flow) → IsTuple packet
    → PartsFit (parts packet flow h)
parts_fit packet flow h tuple =
    let Fit : End → End → Type 0 = λ first second.
    PartsFit (record { family = packet.family; first = first; second = second; proto = packet.proto; number = packet.interface }) in
    elim (are_ends packet flow h) [
      | inl (is_first, is_second) ↦
          subst (λ e. Fit e h.second) (sym is_first) (subst (Fit (sender_of packet)) (sym is_second) (record {
            first_address = tuple.source;
            first_port = tuple.source_port;
            second_address = tuple.dest;
            second_port = tuple.dest_port;
            proto = tuple.proto;
            number = tuple.interface;
          }))
      | inr (is_first, is_second) ↦
          subst (λ e. Fit e h.second) (sym is_first) (subst (Fit (receiver_of packet)) (sym is_second) (record {
            first_address = tuple.dest;
            first_port = tuple.dest_port;
            second_address = tuple.source;
            second_port = tuple.source_port;
            proto = tuple.proto;
            number = tuple.interface;
          }))
    ]

-- equal keys of two packets are made of the same
parts_of_key : (a b : TupleFacts) (f g : Flow) (x : AreFlows a b f g) → f.key ≡ g.key
    → parts a f x.one ≡ parts b g x.other
parts_of_key a b f g x same =
    same_key _ _ (parts_fit a f x.one x.one_tuple) (parts_fit b g x.other x.other_tuple) (sym x.one.key ∙ same ∙ x.other.key)

-- packets whose ends stand alike have the same ends
same_ends : (a b : TupleFacts) (first second first' second' : End) → first ≡ first' → second ≡ second'
    → LesserFirst (sender_of a) (receiver_of a) first second
    → LesserFirst (sender_of b) (receiver_of b) first' second' → SameEnds a b
same_ends a b first second first' second' firsts seconds (inl h) (inl k) =
    inl (sym h.0 ∙ firsts ∙ k.0, sym h.1 ∙ seconds ∙ k.1)
same_ends a b first second first' second' firsts seconds (inl h) (inr k) =
    inr (sym h.0 ∙ firsts ∙ k.0, sym h.1 ∙ seconds ∙ k.1)
same_ends a b first second first' second' firsts seconds (inr h) (inl k) =
    inr (sym h.1 ∙ seconds ∙ k.1, sym h.0 ∙ firsts ∙ k.0)
same_ends a b first second first' second' firsts seconds (inr h) (inr k) =
    inl (sym h.1 ∙ seconds ∙ k.1, sym h.0 ∙ firsts ∙ k.0)

alike : (from to from' to' first second : End) → from ≡ from' → to ≡ to' → LesserFirst from to first second
    → LesserFirst from' to' first second
alike from to from' to' first second froms tos h =
    subst (λ e. LesserFirst from' e first second) tos (subst (λ e. LesserFirst e to first second) froms h)

-- packets of the same ends have ends that stand alike
stand_alike : (a b : TupleFacts) (first second first' second' : End) → SameEnds a b
    → LesserFirst (sender_of a) (receiver_of a) first second
    → LesserFirst (sender_of b) (receiver_of b) first' second' → (first ≡ first') × (second ≡ second')
stand_alike a b first second first' second' (inl (from, to)) h k =
    lesser_once (sender_of b) (receiver_of b) first second first' second' (alike _ _ _ _ first second from to h) k
stand_alike a b first second first' second' (inr (from, to)) h k =
    lesser_once (sender_of b) (receiver_of b) first second first' second'
    (lesser_swap (receiver_of b) (sender_of b) first second (alike _ _ _ _ first second from to h)) k

-- the protocol of TCP or UDP is none of ICMP
no_icmp : (family : Family) (proto : ℕ) → (proto ≡ 6) ⊎ (proto ≡ 17) → proto ≡ icmp_of family → ⊥
no_icmp V4 proto ports icmp = omega (arith, ports, icmp)
no_icmp V6 proto ports icmp = omega (arith, ports, icmp)

-- what has ports is no echo
no_echo : (packet : TupleFacts) (requester answerer : ℕ) → HavePorts packet.fields
    → IsEcho packet requester answerer → ⊥
no_echo packet requester answerer ports (inl ((code, fields), source, dest)) = subst HavePorts fields ports
no_echo packet requester answerer ports (inr ((code, fields), source, dest)) = subst HavePorts fields ports

-- no packet is both a request and a reply
not_both : (packet : TupleFacts) → IsEchoRequest packet → IsEchoReply packet → ⊥
not_both packet (code, request) (other_code, reply) =
    types_differ packet.family (let both = sym reply ∙ request in cc)

-- a packet is an echo of one requester and one answerer
echo_once : (packet : TupleFacts) (r a r' a' : ℕ) → IsEcho packet r a → IsEcho packet r' a' → (r ≡ r') × (a ≡ a')
echo_once packet r a r' a' (inl (request, source, dest)) (inl (request', source', dest')) =
    (sym source ∙ source', sym dest ∙ dest')
echo_once packet r a r' a' (inr (reply, source, dest)) (inr (reply', source', dest')) =
    (sym dest ∙ dest', sym source ∙ source')
echo_once packet r a r' a' (inl (request, source, dest)) (inr (reply', source', dest')) =
    absurd (not_both packet request reply')
echo_once packet r a r' a' (inr (reply, source, dest)) (inl (request', source', dest')) =
    absurd (not_both packet request' reply)

-- the keys of two packets of one flow are made of the same
pub parts_of_flow : (a b : TupleFacts) (f g : Flow) (x : AreFlows a b f g) → SameFlow a b
    → parts a f x.one ≡ parts b g x.other
parts_of_flow a b f g x (numbers, families, inl exchange) =
    elim (kind_of a f x.one x.one_tuple) [
      | inl one ↦ elim (kind_of b g x.other x.other_tuple) [
        | inl other ↦
            let ends = stand_alike a b _ _ _ _ exchange.ends one.order other.order in
            same_parts _ _ families ends.0 ends.1 exchange.proto numbers
        | inr other ↦ absurd (no_echo b _ _ exchange.other_ports other.echo)
      ]
      | inr one ↦ absurd (no_echo a _ _ exchange.one_ports one.echo)
    ]
parts_of_flow a b f g x (numbers, families, inr (requester, answerer, echo, other_echo)) =
    elim (kind_of a f x.one x.one_tuple) [
      | inl one ↦ absurd (no_echo a requester answerer one.ports echo)
      | inr one ↦ elim (kind_of b g x.other x.other_tuple) [
        | inl other ↦ absurd (no_echo b requester answerer other.ports other_echo)
        | inr other ↦
            let asked = echo_once a _ _ requester answerer one.echo echo in
            let other_asked = echo_once b _ _ requester answerer other.echo other_echo in
            same_parts _ _ families
            (same_end x.one.first x.other.first (asked.0 ∙ sym other_asked.0) (one.first_port ∙ sym other.first_port))
            (same_end x.one.second x.other.second (asked.1 ∙ sym other_asked.1) (one.second_port ∙ sym other.second_port))
            (one.proto ∙ ap icmp_of families ∙ sym other.proto) numbers
      ]
    ]

-- packets of one flow have one key
pub key_of_same_flow : (a b : TupleFacts) (f g : Flow) → AreFlows a b f g → SameFlow a b → f.key ≡ g.key
key_of_same_flow a b f g x same = x.one.key ∙ ap key_of_parts (parts_of_flow a b f g x same) ∙ sym x.other.key

-- packets of one key are of one flow
pub same_flow_of_key : (a b : TupleFacts) (f g : Flow) → AreFlows a b f g → f.key ≡ g.key → SameFlow a b
same_flow_of_key a b f g x same =
    let made = parts_of_key a b f g x same in
    let numbers : a.interface ≡ b.interface = ap (λ p. p.number) made in
    let families : a.family ≡ b.family = ap (λ p. p.family) made in
    let firsts : x.one.first ≡ x.other.first = ap (λ p. p.first) made in
    let seconds : x.one.second ≡ x.other.second = ap (λ p. p.second) made in
    let protos : a.proto ≡ b.proto = ap (λ p. p.proto) made in
    elim (kind_of a f x.one x.one_tuple) [
      | inl one ↦ elim (kind_of b g x.other x.other_tuple) [
        | inl other ↦
            let ends = same_ends a b _ _ _ _ firsts seconds one.order other.order in
            (numbers, families, inl (record { one_ports = one.ports; other_ports = other.ports; proto = protos; ends = ends }))
        | inr other ↦ absurd (no_icmp b.family a.proto one.proto (protos ∙ other.proto))
      ]
      | inr one ↦ elim (kind_of b g x.other x.other_tuple) [
        | inl other ↦ absurd (no_icmp a.family b.proto other.proto (sym protos ∙ one.proto))
        | inr other ↦
            let other_echo : IsEcho b x.one.first.address x.one.second.address =
            subst (λ r. IsEcho b r x.one.second.address) (sym (ap (λ e. e.address) firsts))
            (subst (IsEcho b x.other.first.address) (sym (ap (λ e. e.address) seconds)) other.echo) in
            (numbers, families, inr (x.one.first.address, x.one.second.address, one.echo, other_echo))
      ]
    ]

-- a packet with ports takes part in sessions
ports_take_part : (packet : TupleFacts) (fields : Fields) → packet.fields ≡ fields → HavePorts fields
    → IsSome (flow_of packet)
ports_take_part packet Absent same ports = absurd ports
ports_take_part packet (Ports from to) same ports = subst IsSome (sym (ap (flow_with packet) same)) refl
ports_take_part packet (Tcp from to flags) same ports = subst IsSome (sym (ap (flow_with packet) same)) refl
ports_take_part packet (Icmp kind code) same ports = absurd ports

-- an echo takes part in sessions
echo_takes_part : (packet : TupleFacts) (requester answerer : ℕ) → IsEcho packet requester answerer
    → IsSome (flow_of packet)
echo_takes_part packet requester answerer (inl ((code, request), source, dest)) =
    subst IsSome (sym (ap (flow_with packet) request ∙ echo_request packet (request_type packet.family) refl)) refl
echo_takes_part packet requester answerer (inr ((code, reply), source, dest)) =
    subst IsSome (sym (ap (flow_with packet) reply ∙ echo_reply packet (reply_type packet.family) refl)) refl

-- packets of one flow take part in sessions
pub take_part : (a b : TupleFacts) → SameFlow a b → IsSome (flow_of a) × IsSome (flow_of b)
take_part a b (numbers, families, inl exchange) =
    (ports_take_part a a.fields refl exchange.one_ports, ports_take_part b b.fields refl exchange.other_ports)
take_part a b (numbers, families, inr (requester, answerer, echo, other_echo)) =
    (echo_takes_part a requester answerer echo, echo_takes_part b requester answerer other_echo)

answers_at : (number : ℕ) (family : Family) (source dest proto : ℕ) (fields : Fields)
    (number' : ℕ) (family' : Family) (source' dest' proto' : ℕ) (fields' : Fields)
    → number' ≡ number → family' ≡ family → proto' ≡ proto → source' ≡ dest → dest' ≡ source
    → (let a = packet_of number family source dest proto fields in let b = packet_of number' family' source' dest' proto' fields' in
    AnswerFields a fields b fields' → SameFlow a b)
answers_at number family source dest proto (Ports from to) number' family' source' dest' proto' (Ports from' to')
    numbers families protos sources dests (from_is, to_is) =
    let ends = inr (same_end _ _ (sym dests) (sym to_is), same_end _ _ (sym sources) (sym from_is)) in
    (sym numbers, sym families, inl (record { one_ports = tt; other_ports = tt; proto = sym protos; ends = ends }))
answers_at number family source dest proto (Tcp from to flags) number' family' source' dest' proto' (Tcp from' to' flags')
    numbers families protos sources dests (from_is, to_is) =
    let ends = inr (same_end _ _ (sym dests) (sym to_is), same_end _ _ (sym sources) (sym from_is)) in
    (sym numbers, sym families, inl (record { one_ports = tt; other_ports = tt; proto = sym protos; ends = ends }))
answers_at number family source dest proto (Icmp kind code) number' family' source' dest' proto' (Icmp kind' code')
    numbers families protos sources dests (inl (request, reply)) =
    (sym numbers, sym families, inr (source, dest, inl (request, refl, refl), inr (reply, sources, dests)))
answers_at number family source dest proto (Icmp kind code) number' family' source' dest' proto' (Icmp kind' code')
    numbers families protos sources dests (inr (reply, request)) =
    (sym numbers, sym families, inr (dest, source, inr (reply, refl, refl), inl (request, sources, dests)))
answers_at number family source dest proto fields number' family' source' dest' proto' fields' numbers families protos sources dests none =
    absurd none

-- what answers a packet is of its flow
pub answer_is_same_flow : (a b : TupleFacts) → IsAnswer a b → SameFlow a b
answer_is_same_flow a b answer =
    answers_at a.interface a.family a.source a.dest a.proto a.fields b.interface b.family b.source b.dest b.proto b.fields
    answer.interface answer.family answer.proto answer.source answer.dest answer.fields

-- a packet and its answer have one key
pub key_of_answer : (a b : TupleFacts) (f g : Flow) → AreFlows a b f g → IsAnswer a b → f.key ≡ g.key
key_of_answer a b f g x answer = key_of_same_flow a b f g x (answer_is_same_flow a b answer)

-- the port from which an answer comes
back_port : (a : TupleFacts) (fields : Fields) (b : TupleFacts) (back : Fields) → AnswerFields a fields b back
    → source_port back ≡ dest_port fields
back_port a (Ports from to) b (Ports back_from back_to) (from_is, to_is) = from_is
back_port a (Tcp from to flags) b (Tcp back_from back_to back_flags) (from_is, to_is) = from_is
back_port a (Icmp kind code) b (Icmp back_kind back_code) echo = refl
back_port a fields b back none = absurd none

-- an answer comes from where its packet went
pub sender_of_answer : (a b : TupleFacts) → IsAnswer a b → sender_of b ≡ receiver_of a
sender_of_answer a b answer = same_end _ _ answer.source (back_port a a.fields b b.fields answer.fields)
