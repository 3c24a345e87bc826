-- A line is read as the grammar says.
use Rattle.std.proofs.Common.{◌≡◌, ℕ, ◌==◌, false, List, [], ◌∷◌, Some, None, refl, sym, ap, ◌∙◌, subst, inl, inr}
use Rattle.std.specs.Prelude.{codes}
use Rattle.std.specs.Str.{bytes_eq}
use Rattle.std.proofs.lemmas.Bool.{both_ways, eq-eqb, ne_eqb}
use Rattle.packet_view.specs.declared.tuple.Direction.{Direction}
use Rattle.packet_view.specs.declared.tuple.Direction.TheVariants.{Inbound, Outbound}
use Rattle.packet_view.specs.declared.tuple.Family.{Family}
use Rattle.packet_view.specs.declared.tuple.Family.TheVariants.{V4, V6}
use Rattle.acl_policy.specs.declared.rule.Action.{Action}
use Rattle.acl_policy.specs.declared.rule.Action.TheVariants.{Deny, Permit, Reflect}
use Rattle.acl_policy.specs.Lines.{Begins, Blank, IsInterface, IsLine, LineFacts, Own, Ruled, Say, action_word, direction_word, family_word, traffic_of}
use Rattle.acl_policy.specs.inner.WordReading.{next_in}
use Rattle.acl_policy.specs.inner.Reading.Lines.{action_in, direction_in, ends_in, family_in, head_in, heading_in, interface_in, line_in, own_line_in, rule_line_in, said_in}
use Rattle.acl_policy.specs.inner.WordReading.Prefixes.{mac_in, prefix_in}
use Rattle.acl_policy.specs.inner.WordReading.Traffic.{number_up_to_in, traffic_in}
use Rattle.acl_policy.specs.Words.{without_comment, words_of}
use Rattle.acl_policy.proofs.OptionLemmas.{bind_some, bytes_eq-true, chosen, if_last-some, next_in-some, same_some}
use Rattle.acl_policy.proofs.PieceLaws.{mac_in-complete, mac_in-sound}
use Rattle.acl_policy.proofs.PrefixLaws.{prefix_in-complete, prefix_in-sound}
use Rattle.acl_policy.proofs.RangeLaws.{number_up_to-complete, number_up_to-sound}
use Rattle.acl_policy.proofs.TrafficLaws.{traffic_in-complete, traffic_in-sound}

pub direction_in-sound : (word : List ℕ) (direction : Direction) → direction_in word ≡ Some direction → word ≡ direction_word direction
direction_in-sound word direction found = elim (chosen (bytes_eq word (codes "in")) (Some Inbound) _ (Some direction) found) [
  | inl inward ↦ bytes_eq-true word (codes "in") inward.0 ∙ ap direction_word (same_some Inbound direction inward.1)
  | inr rest ↦ elim (chosen (bytes_eq word (codes "out")) (Some Outbound) None (Some direction) rest.1) [
    | inl outward ↦ bytes_eq-true word (codes "out") outward.0 ∙ ap direction_word (same_some Outbound direction outward.1)
    | inr none ↦ let never = none.1 in absurd (cc)
  ]
]

pub direction_in-complete : (direction : Direction) → direction_in (direction_word direction) ≡ Some direction
direction_in-complete Inbound = refl
direction_in-complete Outbound = refl

pub action_in-sound : (word : List ℕ) (action : Action) → action_in word ≡ Some action → word ≡ action_word action
action_in-sound word action found = elim (chosen (bytes_eq word (codes "deny")) (Some Deny) _ (Some action) found) [
  | inl deny ↦ bytes_eq-true word (codes "deny") deny.0 ∙ ap action_word (same_some Deny action deny.1)
  | inr rest ↦ elim (chosen (bytes_eq word (codes "permit")) (Some Permit) _ (Some action) rest.1) [
    | inl permit ↦ bytes_eq-true word (codes "permit") permit.0 ∙ ap action_word (same_some Permit action permit.1)
    | inr rest ↦ elim (chosen (bytes_eq word (codes "permit+reflect")) (Some Reflect) None (Some action) rest.1) [
      | inl reflect ↦ bytes_eq-true word (codes "permit+reflect") reflect.0 ∙ ap action_word (same_some Reflect action reflect.1)
      | inr none ↦ let never = none.1 in absurd (cc)
    ]
  ]
]

pub action_in-complete : (action : Action) → action_in (action_word action) ≡ Some action
action_in-complete Deny = refl
action_in-complete Permit = refl
action_in-complete Reflect = refl

pub family_in-sound : (word : List ℕ) (family : Family) → family_in word ≡ Some family → word ≡ family_word family
family_in-sound word family found = elim (chosen (bytes_eq word (codes "ipv4")) (Some V4) _ (Some family) found) [
  | inl four ↦ bytes_eq-true word (codes "ipv4") four.0 ∙ ap family_word (same_some V4 family four.1)
  | inr rest ↦ elim (chosen (bytes_eq word (codes "ipv6")) (Some V6) None (Some family) rest.1) [
    | inl six ↦ bytes_eq-true word (codes "ipv6") six.0 ∙ ap family_word (same_some V6 family six.1)
    | inr none ↦ let never = none.1 in absurd (cc)
  ]
]

pub family_in-complete : (family : Family) → family_in (family_word family) ≡ Some family
family_in-complete V4 = refl
family_in-complete V6 = refl

-- the first word and those after it
next_is : (words : List (List ℕ)) (next : List ℕ × List (List ℕ)) → next_in words ≡ Some next → words ≡ next.0 ∷ next.1
next_is words next found = next_in-some words next.0 next.1 found

head_in-sound : (words : List (List ℕ)) (head : Direction × Action × Family × List (List ℕ)) → head_in words ≡ Some head
    → words ≡ direction_word head.0 ∷ action_word head.1 ∷ family_word head.2 ∷ head.3
unfolding head_in
head_in-sound words head found =
    let one = bind_some (next_in words) _ head found in
    let direction = bind_some (direction_in one.0.0) _ head one.2 in
    let two = bind_some (next_in one.0.1) _ head direction.2 in
    let action = bind_some (action_in two.0.0) _ head two.2 in
    let three = bind_some (next_in two.0.1) _ head action.2 in
    let family = bind_some (family_in three.0.0) _ head three.2 in
    let same = same_some _ head family.2 in
    subst (λ (h : Direction × Action × Family × List (List ℕ)). words ≡ direction_word h.0 ∷ action_word h.1 ∷ family_word h.2 ∷ h.3) same
    (next_is words one.0 one.1 ∙ ap (λ (w : List ℕ). w ∷ one.0.1) (direction_in-sound one.0.0 direction.0 direction.1)
    ∙ ap (λ (ws : List (List ℕ)). direction_word direction.0 ∷ ws) (next_is one.0.1 two.0 two.1 ∙ ap (λ (w : List ℕ). w ∷ two.0.1) (action_in-sound two.0.0 action.0 action.1)
    ∙ ap (λ (ws : List (List ℕ)). action_word action.0 ∷ ws) (next_is two.0.1 three.0 three.1 ∙ ap (λ (w : List ℕ). w ∷ three.0.1) (family_in-sound three.0.0 family.0 family.1))))

head_in-complete : (direction : Direction) (action : Action) (family : Family) (rest : List (List ℕ))
    → head_in (direction_word direction ∷ action_word action ∷ family_word family ∷ rest) ≡ Some (direction, action, family, rest)
unfolding head_in
head_in-complete direction action family rest = rw (direction_in-complete direction, action_in-complete action, family_in-complete family) refl

ends_in-sound : (family : Family) (words : List (List ℕ)) (ends : (ℕ × ℕ) × (ℕ × ℕ) × List (List ℕ)) → ends_in family words ≡ Some ends
    → (source dest : List ℕ) × (words ≡ source ∷ dest ∷ ends.2) × (prefix_in family source ≡ Some ends.0) × (prefix_in family dest ≡ Some ends.1)
unfolding ends_in
ends_in-sound family words ends found =
    let one = bind_some (next_in words) _ ends found in
    let source = bind_some (prefix_in family one.0.0) _ ends one.2 in
    let two = bind_some (next_in one.0.1) _ ends source.2 in
    let dest = bind_some (prefix_in family two.0.0) _ ends two.2 in
    let same = same_some _ ends dest.2 in
    subst (λ (e : (ℕ × ℕ) × (ℕ × ℕ) × List (List ℕ)). (source dest : List ℕ) × (words ≡ source ∷ dest ∷ e.2) × (prefix_in family source ≡ Some e.0) × (prefix_in family dest ≡ Some e.1)) same
    (one.0.0, two.0.0, next_is words one.0 one.1 ∙ ap (λ (ws : List (List ℕ)). one.0.0 ∷ ws) (next_is one.0.1 two.0 two.1), source.1, dest.1)

rule_line_in-sound : (words : List (List ℕ)) (reading : LineFacts) → rule_line_in words ≡ Some reading → Say words reading
unfolding rule_line_in
rule_line_in-sound words reading found =
    let head = bind_some (head_in words) _ reading found in
    let ends = bind_some (ends_in head.0.2 head.0.3) _ reading head.2 in
    let traffic = bind_some (traffic_in head.0.2 ends.0.2) _ reading ends.2 in
    let front = head_in-sound words head.0 head.1 in
    let back = ends_in-sound head.0.2 head.0.3 ends.0 ends.1 in
    subst (Say words) (same_some _ reading traffic.2) (
      back.0,
      back.1,
      ends.0.2,
      front ∙ ap (λ (ws : List (List ℕ)). direction_word head.0.0 ∷ action_word head.0.1 ∷ family_word head.0.2 ∷ ws) back.2,
      prefix_in-sound head.0.2 back.0 ends.0.0 back.3,
      prefix_in-sound head.0.2 back.1 ends.0.1 back.4,
      traffic_in-sound head.0.2 ends.0.2 traffic.0 traffic.1,
    )

own_line_in-sound : (words : List (List ℕ)) (reading : LineFacts) → own_line_in words ≡ Some reading → Say (codes "mac" ∷ words) reading
unfolding own_line_in
own_line_in-sound words reading found =
    let one = bind_some (next_in words) _ reading found in
    let mac = bind_some (mac_in one.0.0) _ reading one.2 in
    let last = if_last-some (Own mac.0) reading one.0.1 mac.2 in
    subst (Say (codes "mac" ∷ words)) last.1 (
      one.0.0,
      ap (λ (ws : List (List ℕ)). codes "mac" ∷ ws) (next_is words one.0 one.1 ∙ ap (λ (ws : List (List ℕ)). one.0.0 ∷ ws) last.0),
      mac_in-sound one.0.0 mac.0 mac.1,
    )

pub interface_in-sound : (word : List ℕ) (number : ℕ) → interface_in word ≡ Some number → IsInterface word number
unfolding interface_in
interface_in-sound word number found =
    let read = bind_some (number_up_to_in 255 word) _ number found in
    let is = number_up_to-sound 255 word read.0 read.1 in
    elim (chosen (read.0 == 0) None (Some read.0) (Some number) read.2) [
      | inl zero ↦ let never = zero.1 in absurd (cc)
      | inr some ↦
          let same = same_some read.0 number some.1 in
          subst (IsInterface word) same (is.0, is.1, λ zero. both_ways (read.0 == 0) some.0 (eq-eqb read.0 0 zero))
    ]

pub interface_in-complete : (word : List ℕ) (number : ℕ) → IsInterface word number → interface_in word ≡ Some number
unfolding interface_in
interface_in-complete word number (spelt, few, some) =
    rw (number_up_to-complete 255 word number spelt few, ne_eqb number 0 some) refl

heading_in-sound : (words : List (List ℕ)) (reading : LineFacts) → heading_in words ≡ Some reading → Say (codes "interface" ∷ words) reading
unfolding heading_in
heading_in-sound words reading found =
    let one = bind_some (next_in words) _ reading found in
    let number = bind_some (interface_in one.0.0) _ reading one.2 in
    let last = if_last-some (Begins number.0) reading one.0.1 number.2 in
    subst (Say (codes "interface" ∷ words)) last.1 (
      one.0.0,
      ap (λ (ws : List (List ℕ)). codes "interface" ∷ ws) (next_is words one.0 one.1 ∙ ap (λ (ws : List (List ℕ)). one.0.0 ∷ ws) last.0),
      interface_in-sound one.0.0 number.0 number.1,
    )

said_in-sound : (words : List (List ℕ)) (reading : LineFacts) → said_in words ≡ Some reading → Say words reading
unfolding said_in
said_in-sound [] reading found = subst (Say []) (same_some Blank reading found) refl
said_in-sound (word ∷ words) reading found = elim (chosen (bytes_eq word (codes "mac")) (own_line_in words) _ (Some reading) found) [
  | inl own ↦ subst (λ (w : List ℕ). Say (w ∷ words) reading) (sym (bytes_eq-true word (codes "mac") own.0)) (own_line_in-sound words reading own.1)
  | inr rest ↦ elim (chosen (bytes_eq word (codes "interface")) (heading_in words) (rule_line_in (word ∷ words)) (Some reading) rest.1) [
    | inl begins ↦ subst (λ (w : List ℕ). Say (w ∷ words) reading) (sym (bytes_eq-true word (codes "interface") begins.0)) (heading_in-sound words reading begins.1)
    | inr rule ↦ rule_line_in-sound (word ∷ words) reading rule.1
  ]
]

pub line_in-sound : (line : List ℕ) (reading : LineFacts) → line_in line ≡ Some reading → IsLine line reading
unfolding line_in
line_in-sound line reading found = said_in-sound (words_of (without_comment line)) reading found

-- the word of a direction is not "mac", nor "interface"
direction_no_mac : (direction : Direction) → bytes_eq (direction_word direction) (codes "mac") ≡ false
direction_no_mac Inbound = refl
direction_no_mac Outbound = refl

direction_no_interface : (direction : Direction) → bytes_eq (direction_word direction) (codes "interface") ≡ false
direction_no_interface Inbound = refl
direction_no_interface Outbound = refl

said_in-complete : (words : List (List ℕ)) (reading : LineFacts) → Say words reading → said_in words ≡ Some reading
unfolding said_in own_line_in heading_in rule_line_in ends_in
said_in-complete words Blank says = ap said_in says
said_in-complete words (Begins number) (digits, split, is) = ap said_in split ∙ rw (interface_in-complete digits number is) refl
said_in-complete words (Own mac) (address, split, is) = ap said_in split ∙ rw (mac_in-complete address mac is) refl
said_in-complete words (Ruled direction rule) (source, dest, rest, split, is_source, is_dest, traffic) =
    ap said_in split
    ∙ rw (
      direction_no_mac direction,
      direction_no_interface direction,
      head_in-complete direction rule.action rule.family (source ∷ dest ∷ rest),
      prefix_in-complete rule.family source rule.source is_source,
      prefix_in-complete rule.family dest rule.dest is_dest,
      traffic_in-complete rule.family rest (traffic_of rule) traffic,
    ) refl

pub line_in-complete : (line : List ℕ) (reading : LineFacts) → IsLine line reading → line_in line ≡ Some reading
unfolding line_in
line_in-complete line reading is = said_in-complete (words_of (without_comment line)) reading is
