-- Which packets may start a session, and the rules that take from TCP, UDP and ICMP what starts none.
use Rattle.std.proofs.Common.{◌≡◌, ◌≤◌, ◌<◌, ◌⊎◌, ℕ, zero, suc, ◌+◌, ◌-◌, ◌^◌, Bool, true, false, eqb, List, [], ◌∷◌, Option, Some, None, refl, sym, subst, ap, ◌∙◌, inl, inr, arith, if◌then◌else◌}
use Rattle.std.specs.Prelude.{option_map, slice_get, unwrap_or}
use Rattle.std.specs.Int.Bits.{and_zero_r}
use Rattle.std.proofs.lemmas.Bool.{cases_lt, eq-eqb, eqb-true}
use native.Mathlib.Nat.{div-eq_of_lt}
use Rattle.packet_view.specs.Addresses.{address_limit, fields_suit, icmp_of}
use Rattle.packet_view.specs.declared.tuple.Family.{Family}
use Rattle.packet_view.specs.declared.tuple.Family.TheVariants.{V4, V6}
use Rattle.packet_view.specs.declared.tuple.Fields.{Fields}
use Rattle.packet_view.specs.declared.tuple.Fields.TheVariants.{Absent, Icmp, Ports, Tcp}
use Rattle.packet_view.specs.Tuples.{TupleFacts}
use Rattle.session_state.specs.Flows.{echo_flow, flow_by_order, flow_with, oriented, receiver_of, reply_type, request_type, sender_of, stands_first}
use Rattle.session_state.specs.declared.flow.Flow.{Flow}
use Rattle.acl_policy.specs.Matching.{DecidesByDefault, HasFields, HoldsPrefix, Matches}
use Rattle.acl_policy.specs.Rules.{RuleFacts}
use Rattle.acl_policy.proofs.OptionLemmas.{same_some}
use Rattle.rule_cover.specs.Covers.{AreSmall, IsPacket}
use Rattle.policy_compare.specs.Comparisons.{may_start}
use Rattle.policy_compare.specs.inner.Starting.{IsNarrowed, idle_of, idle_rule, idle_rules, start_fields}
use Rattle.policy_compare.proofs.DeciderLemmas.{none_of_both, none_of_left, none_of_right}

-- ---- by its fields

-- the flow may start a session
abbrev starts_in : Option Flow → Bool
starts_in found = unwrap_or (option_map (λ flow. flow.starts) found) false

ordered_starts : (packet : TupleFacts) → starts_in (Some (flow_by_order packet)) ≡ true
ordered_starts packet = by (stands_first (sender_of packet) (receiver_of packet))
  where
    by : (b : Bool) → starts_in (Some (if b then oriented packet (sender_of packet) (receiver_of packet) true
        else oriented packet (receiver_of packet) (sender_of packet) true)) ≡ true
    by true = refl
    by false = refl

echo_starts : (packet : TupleFacts) (kind : ℕ) → starts_in (echo_flow packet kind) ≡ eqb kind (request_type packet.family)
echo_starts packet kind = by (eqb kind (request_type packet.family)) (eqb kind (reply_type packet.family))
  where
    by : (b c : Bool) → starts_in (if b then Some (oriented packet (sender_of packet) (receiver_of packet) true)
        else (if c then Some (oriented packet (receiver_of packet) (sender_of packet) false) else None)) ≡ b
    by true c = refl
    by false true = refl
    by false false = refl

starts_with : (packet : TupleFacts) (fields : Fields) → starts_in (flow_with packet fields) ≡ start_fields packet.family fields
starts_with packet Absent = refl
starts_with packet (Ports from to) = ordered_starts packet
starts_with packet (Tcp from to flags) = ordered_starts packet
starts_with packet (Icmp kind code) = echo_starts packet kind

pub may_start_by : (packet : TupleFacts) → may_start packet ≡ start_fields packet.family packet.fields
unfolding may_start
may_start_by packet = starts_with packet packet.fields

-- ---- what the idle rules match

-- all addresses have the first 0 bits of 0
all_hold : (family : Family) (address : ℕ) → address < address_limit family → HoldsPrefix family (0, 0) address
all_hold V4 address below = sym (div-eq_of_lt below)
all_hold V6 address below = sym (div-eq_of_lt below)

idle_matches : (family : Family) (proto : ℕ) (first : ℕ × ℕ) (packet : TupleFacts) → IsPacket packet → family ≡ packet.family → proto ≡ packet.proto
    → HasFields (idle_rule family proto first) packet.fields → Matches (idle_rule family proto first) packet
idle_matches family proto first packet is same number fields =
    (same, all_hold packet.family packet.source is.source, all_hold packet.family packet.dest is.dest, inr (number, fields))

idle_passes : (family : Family) (proto : ℕ) (first : ℕ × ℕ) (packet : TupleFacts) → (proto ≡ 0 → ⊥)
    → (family ≡ packet.family → proto ≡ packet.proto → HasFields (idle_rule family proto first) packet.fields → ⊥)
    → Matches (idle_rule family proto first) packet → ⊥
idle_passes family proto first packet some not matches =
    elim matches.3 [ inl every ↦ some every | inr both ↦ not matches.0 both.0 both.1 ]

none_more : (rule : RuleFacts) (rules : List RuleFacts) (packet : TupleFacts) → (Matches rule packet → ⊥) → DecidesByDefault rules packet
    → (k : ℕ) (other : RuleFacts) → slice_get (rule ∷ rules) k ≡ Some other → Matches other packet → ⊥
none_more rule rules packet not none zero other read matches = not (subst (λ (r : RuleFacts). Matches r packet) (sym (same_some _ _ read)) matches)
none_more rule rules packet not none (suc k) other read matches = none k other read matches

none_of_nothing : (packet : TupleFacts) (k : ℕ) (other : RuleFacts) → slice_get [] k ≡ Some other → Matches other packet → ⊥
none_of_nothing packet k other read matches = let f : ⊥ = cc in f

-- a packet of these parts
abbrev packet_of : ℕ → Family → ℕ → ℕ → ℕ → Fields → TupleFacts
packet_of number family source dest proto fields =
    record { interface = number; family = family; source = source; dest = dest; proto = proto; fields = fields }

no_types : (family : Family) (kind : ℕ) → kind < request_type family → kind ≤ request_type family - 1
no_types V4 kind below = omega (arith, below)
no_types V6 kind below = omega (arith, below)

-- where none of a family's matches, the packet may start a session
starts_at : (number : ℕ) (family : Family) (source dest proto : ℕ) (fields : Fields) → IsPacket (packet_of number family source dest proto fields)
    → (proto ≡ 6) ⊎ ((proto ≡ 17) ⊎ (proto ≡ icmp_of family)) → DecidesByDefault (idle_of family) (packet_of number family source dest proto fields)
    → start_fields family fields ≡ true
unfolding idle_of
starts_at number family source dest proto Absent is of none =
    let packet = packet_of number family source dest proto Absent in
    let matches = λ (n : ℕ) (first : ℕ × ℕ) (same : proto ≡ n). idle_matches family n first packet is refl (sym same) tt in
    elim of [
      | inl tcp ↦ absurd (none 0 _ refl (matches 6 (1, 0) tcp))
      | inr others ↦ elim others [
        | inl udp ↦ absurd (none 1 _ refl (matches 17 (1, 0) udp))
        | inr icmp ↦ absurd (none 2 _ refl (matches (icmp_of family) (0, request_type family - 1) icmp))
      ]
    ]
starts_at number family source dest proto (Ports from to) is of none = refl
starts_at number family source dest proto (Tcp from to flags) is of none = refl
starts_at number family source dest proto (Icmp kind code) is of none =
    let packet = packet_of number family source dest proto (Icmp kind code) in
    let icmp : icmp_of family ≡ proto = sym (eqb-true proto (icmp_of family) is.suits) in
    let kinds : kind < 2 ^ 8 = is.small.0 in
    let codes : code < 2 ^ 8 = is.small.1 in
    elim (cases_lt kind (request_type family)) [
      | inl below ↦ absurd (none 2 _ refl (idle_matches family (icmp_of family) (0, request_type family - 1) packet is refl icmp
          ((omega arith, no_types family kind below), (omega arith, omega (arith, codes)))))
      | inr from ↦ elim (cases_lt (request_type family) kind) [
        | inl above ↦ absurd (none 3 _ refl (idle_matches family (icmp_of family) (request_type family + 1, 65535) packet is refl icmp
            ((omega (arith, above), omega (arith, kinds)), (omega arith, omega (arith, codes)))))
        | inr upto ↦ eq-eqb kind (request_type family) (omega (arith, from, upto))
      ]
    ]

icmp_some : (family : Family) → icmp_of family ≡ 0 → ⊥
icmp_some V4 is = omega (arith, is)
icmp_some V6 is = omega (arith, is)

icmp_no_tcp : (family : Family) → icmp_of family ≡ 6 → ⊥
icmp_no_tcp V4 is = omega (arith, is)
icmp_no_tcp V6 is = omega (arith, is)

icmp_no_udp : (family : Family) → icmp_of family ≡ 17 → ⊥
icmp_no_udp V4 is = omega (arith, is)
icmp_no_udp V6 is = omega (arith, is)

request_some : (family : Family) → 1 ≤ request_type family
request_some V4 = omega arith
request_some V6 = omega arith

-- none of a family's matches a packet that may start a session
passes_at : (of : Family) (number : ℕ) (family : Family) (source dest proto : ℕ) (fields : Fields) → IsPacket (packet_of number family source dest proto fields)
    → start_fields family fields ≡ true → DecidesByDefault (idle_of of) (packet_of number family source dest proto fields)
unfolding idle_of
passes_at of number family source dest proto fields is starts =
    let packet = packet_of number family source dest proto fields in
    let six : 6 ≡ 0 → ⊥ = λ e. omega (arith, e) in
    let seventeen : 17 ≡ 0 → ⊥ = λ e. omega (arith, e) in
    let lower = idle_rule of (icmp_of of) (0, request_type of - 1) in
    let higher = idle_rule of (icmp_of of) (request_type of + 1, 65535) in
    none_more (idle_rule of 6 (1, 0)) (idle_rule of 17 (1, 0) ∷ lower ∷ higher ∷ []) packet
    (idle_passes of 6 (1, 0) packet six (λ same number has. no_tcp fields is.suits starts number has))
    (none_more (idle_rule of 17 (1, 0)) (lower ∷ higher ∷ []) packet
    (idle_passes of 17 (1, 0) packet seventeen (λ same number has. no_udp fields is.suits starts number has))
    (none_more lower (higher ∷ []) packet
    (idle_passes of (icmp_of of) (0, request_type of - 1) packet (icmp_some of) (λ same number has. no_lower fields is.suits starts same number has))
    (none_more higher [] packet
    (idle_passes of (icmp_of of) (request_type of + 1, 65535) packet (icmp_some of) (λ same number has. no_higher fields is.suits starts same number has))
    (none_of_nothing packet))))
  where
    no_tcp : (fields : Fields) → fields_suit family proto fields ≡ true → start_fields family fields ≡ true → 6 ≡ proto
        → HasFields (idle_rule of 6 (1, 0)) fields → ⊥
    no_tcp Absent suits starts number has = let f : ⊥ = cc in f
    no_tcp (Ports from to) suits starts number has = let udp = eqb-true proto 17 suits in omega (arith, number, udp)
    no_tcp (Tcp from to flags) suits starts number has = omega (arith, has.0)
    no_tcp (Icmp kind code) suits starts number has = icmp_no_tcp family (sym (eqb-true proto (icmp_of family) suits) ∙ sym number)

    no_udp : (fields : Fields) → fields_suit family proto fields ≡ true → start_fields family fields ≡ true → 17 ≡ proto
        → HasFields (idle_rule of 17 (1, 0)) fields → ⊥
    no_udp Absent suits starts number has = let f : ⊥ = cc in f
    no_udp (Ports from to) suits starts number has = omega (arith, has.0)
    no_udp (Tcp from to flags) suits starts number has = let tcp = eqb-true proto 6 suits in omega (arith, number, tcp)
    no_udp (Icmp kind code) suits starts number has = icmp_no_udp family (sym (eqb-true proto (icmp_of family) suits) ∙ sym number)

    no_lower : (fields : Fields) → fields_suit family proto fields ≡ true → start_fields family fields ≡ true → of ≡ family → icmp_of of ≡ proto
        → HasFields (idle_rule of (icmp_of of) (0, request_type of - 1)) fields → ⊥
    no_lower Absent suits starts same number has = let f : ⊥ = cc in f
    no_lower (Ports from to) suits starts same number has = icmp_no_udp of (number ∙ eqb-true proto 17 suits)
    no_lower (Tcp from to flags) suits starts same number has = icmp_no_tcp of (number ∙ eqb-true proto 6 suits)
    no_lower (Icmp kind code) suits starts same number has =
        let request : kind ≡ request_type of = eqb-true kind (request_type family) starts ∙ ap request_type (sym same) in
        let some = request_some of in
        omega (arith, request, some, has.0)

    no_higher : (fields : Fields) → fields_suit family proto fields ≡ true → start_fields family fields ≡ true → of ≡ family → icmp_of of ≡ proto
        → HasFields (idle_rule of (icmp_of of) (request_type of + 1, 65535)) fields → ⊥
    no_higher Absent suits starts same number has = let f : ⊥ = cc in f
    no_higher (Ports from to) suits starts same number has = icmp_no_udp of (number ∙ eqb-true proto 17 suits)
    no_higher (Tcp from to flags) suits starts same number has = icmp_no_tcp of (number ∙ eqb-true proto 6 suits)
    no_higher (Icmp kind code) suits starts same number has =
        let request : kind ≡ request_type of = eqb-true kind (request_type family) starts ∙ ap request_type (sym same) in
        omega (arith, request, has.0)

-- those of its family are among the idle rules
of_family : (family : Family) (packet : TupleFacts) → DecidesByDefault idle_rules packet → DecidesByDefault (idle_of family) packet
unfolding idle_rules
of_family V4 packet none = none_of_left (idle_of V4) (idle_of V6) packet none
of_family V6 packet none = none_of_right (idle_of V4) (idle_of V6) packet none

pub starts_past_idle : (packet : TupleFacts) → IsPacket packet → (packet.proto ≡ 6) ⊎ ((packet.proto ≡ 17) ⊎ (packet.proto ≡ icmp_of packet.family))
    → DecidesByDefault idle_rules packet → may_start packet ≡ true
starts_past_idle packet is of none =
    may_start_by packet
    ∙ starts_at packet.interface packet.family packet.source packet.dest packet.proto packet.fields is of (of_family packet.family packet none)

pub idle_pass : (packet : TupleFacts) → IsPacket packet → may_start packet ≡ true → DecidesByDefault idle_rules packet
unfolding idle_rules
idle_pass packet is starts =
    let fields = sym (may_start_by packet) ∙ starts in
    let each = λ (of : Family). passes_at of packet.interface packet.family packet.source packet.dest packet.proto packet.fields is fields in
    none_of_both (idle_of V4) (idle_of V6) packet (each V4) (each V6)

-- a packet that may start a session is of TCP, UDP or ICMP
pub of_flows : (family : Family) (proto : ℕ) (fields : Fields) → fields_suit family proto fields ≡ true → start_fields family fields ≡ true
    → (proto ≡ 6) ⊎ ((proto ≡ 17) ⊎ (proto ≡ icmp_of family))
of_flows family proto Absent suits starts = let f : ⊥ = cc in absurd f
of_flows family proto (Ports from to) suits starts = inr (inl (eqb-true proto 17 suits))
of_flows family proto (Tcp from to flags) suits starts = inl (eqb-true proto 6 suits)
of_flows family proto (Icmp kind code) suits starts = inr (inr (eqb-true proto (icmp_of family) suits))

-- ---- what a rule matches of a protocol

pub same_protocol : (rule : RuleFacts) (proto : ℕ) → rule.proto ≡ proto → (proto ≡ 0 → ⊥) → IsNarrowed rule proto rule
same_protocol rule proto same some packet is = (
  λ matches. (matches, elim matches.3 [ inl every ↦ absurd (some (sym same ∙ every)) | inr both ↦ sym both.0 ∙ same ]),
  λ both. both.0,
)

-- the rule for one protocol that has all numbers
abbrev pub part_of : RuleFacts → ℕ → RuleFacts
part_of rule proto = record {
  action = rule.action;
  family = rule.family;
  source = rule.source;
  dest = rule.dest;
  proto = proto;
  first = (0, 65535);
  second = (0, 65535);
  value = 0;
  mask = 0;
}

has_all : (rule : RuleFacts) (proto : ℕ) (fields : Fields) → AreSmall fields → HasFields (part_of rule proto) fields
has_all rule proto Absent small = tt
has_all rule proto (Ports from to) (one, two) = ((omega arith, omega (arith, one)), (omega arith, omega (arith, two)))
has_all rule proto (Tcp from to flags) (one, two, three) = ((omega arith, omega (arith, one)), (omega arith, omega (arith, two)), and_zero_r flags)
has_all rule proto (Icmp kind code) (one, two) = ((omega arith, omega (arith, one)), (omega arith, omega (arith, two)))

pub any_protocol : (rule : RuleFacts) (proto : ℕ) → rule.proto ≡ 0 → (proto ≡ 0 → ⊥) → IsNarrowed rule proto (part_of rule proto)
any_protocol rule proto every some packet fits = (
  λ matches. (
    (matches.0, matches.1, matches.2, inl every),
    elim matches.3 [ inl is ↦ absurd (some is) | inr both ↦ sym both.0 ],
  ),
  λ both. (both.0.0, both.0.1, both.0.2, inr (sym both.1, has_all rule proto packet.fields fits.small)),
)

pub other_protocol : (rule : RuleFacts) (proto : ℕ) → (rule.proto ≡ proto → ⊥) → (rule.proto ≡ 0 → ⊥) → (packet : TupleFacts) → Matches rule packet
    → packet.proto ≡ proto → ⊥
other_protocol rule proto other some packet matches is =
    elim matches.3 [ inl every ↦ some every | inr both ↦ other (both.0 ∙ is) ]
