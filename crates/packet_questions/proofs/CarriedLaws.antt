-- What a packet carries is read as it is written.
use Rattle.std.proofs.Common.{◌≡◌, ◌≢◌, ◌∙◌, ◌==◌, ◌||◌, ℕ, Bool, true, false, List, [], ◌∷◌, Some, None, ap, inl, inr, lit≤, refl, subst, sym}
use Rattle.std.specs.Prelude.{codes}
use Rattle.std.specs.Str.{bytes_eq}
use Rattle.std.proofs.lemmas.Bool.{eq-eqb, ne_eqb}
use Rattle.packet_view.specs.Addresses.{icmp_of}
use Rattle.packet_view.specs.Tuples.{TupleFacts}
use Rattle.packet_view.specs.declared.tuple.Family.{Family}
use Rattle.packet_view.specs.declared.tuple.Fields.{Fields}
use Rattle.packet_view.specs.declared.tuple.Fields.TheVariants.{Absent, Icmp, Ports, Tcp}
use Rattle.acl_policy.specs.Numerals.{IsPair}
use Rattle.acl_policy.specs.Readers.{IsNumberUpTo}
use Rattle.acl_policy.specs.inner.WordReading.{next_in}
use Rattle.acl_policy.specs.inner.WordReading.Numerals.{pair_in}
use Rattle.acl_policy.specs.inner.WordReading.Traffic.{number_up_to_in, protocol_in}
use Rattle.acl_policy.proofs.NumeralLaws.{bytes_eq-Lacks}
use Rattle.acl_policy.proofs.OptionLemmas.{bind_some, bytes_eq-false, bytes_eq-true, chosen, if_last-some, next_in-some, same_some}
use Rattle.acl_policy.proofs.PieceLaws.{Lacks-IsNumber}
use Rattle.acl_policy.proofs.RangeLaws.{number_up_to-complete, number_up_to-sound}
use Rattle.acl_policy.proofs.TrafficLaws.{protocol_in-complete, protocol_in-sound}
use Rattle.packet_questions.specs.Questions.{IsCarried, IsFragment, IsIcmp, IsOther, IsTcp, IsUdp}
use Rattle.packet_questions.specs.inner.Reading.{Ends, carried_by, ends_in, fragment_in, fragment_proto, has_fields, icmp_in, named_in, other_in, other_proto, ported_in, tcp_in, tuple_by, udp_in}
use Rattle.packet_questions.proofs.EndLaws.{ends-complete, ends-sound, ported-complete, ported-sound}
use Rattle.packet_questions.proofs.StepLaws.{named-complete, named-sound, number_read, pair_read}

ends_of : TupleFacts → Ends
ends_of t = record { family = t.family; source = t.source; dest = t.dest }

tuple_made : (t : TupleFacts) (interface proto : ℕ) (fields : Fields) → t.interface ≡ interface → t.proto ≡ proto → t.fields ≡ fields
    → tuple_by interface (ends_of t) proto fields ≡ t
unfolding ends_of
tuple_made t interface proto fields place protocol is =
    ap (λ n. tuple_by n (ends_of t) proto fields) (sym place) ∙ ap (λ n. tuple_by t.interface (ends_of t) n fields) (sym protocol)
    ∙ ap (λ f. tuple_by t.interface (ends_of t) t.proto f) (sym is)

pub tcp-sound : (interface : ℕ) (words : List (List ℕ)) (t : TupleFacts) → tcp_in interface words ≡ Some t → IsTcp words t × (t.interface ≡ interface)
unfolding tcp_in
tcp-sound interface words t found =
    let ends = bind_some (ported_in words) _ t found in
    let flags = bind_some (named_in (codes "flags") pair_in ends.0.1) _ t ends.2 in
    let last = if_last-some (tuple_by interface ends.0.0.0 6 (Tcp ends.0.0.1.0 ends.0.0.1.1 flags.0.0)) t flags.0.1 flags.2 in
    let p = ported-sound words ends.0 ends.1 in
    let f = named-sound (codes "flags") IsPair pair_in pair_read ends.0.1 flags.0 flags.1 in
    subst (λ (u : TupleFacts). IsTcp words u × (u.interface ≡ interface)) last.1 (
      record {
        source = p.source;
        source_port = p.source_port;
        dest = p.dest;
        dest_port = p.dest_port;
        flag_word = f.word;
        spelt = p.spelt ∙ ap (λ (ws : List (List ℕ)). p.source ∷ p.source_port ∷ p.dest ∷ p.dest_port ∷ ws)
            (f.spelt ∙ ap (λ (ws : List (List ℕ)). codes "flags" ∷ f.word ∷ ws) last.0);
        ends = (p.source_is, p.dest_is);
        from = ends.0.0.1.0;
        to = ends.0.0.1.1;
        ports = p.ports;
        flags = flags.0.0;
        pair = f.is;
        proto = refl;
        fields = refl;
      },
      refl,
    )

pub tcp-complete : (interface : ℕ) (words : List (List ℕ)) (t : TupleFacts) → IsTcp words t → t.interface ≡ interface → tcp_in interface words ≡ Some t
unfolding tcp_in ends_of
tcp-complete interface words t is place =
    rw (
      is.spelt,
      ported-complete (ends_of t) is.from is.to is.source is.source_port is.dest is.dest_port (codes "flags" ∷ is.flag_word ∷ []) is.ends.0 is.ends.1 is.ports,
      named-complete (codes "flags") IsPair pair_in pair_read is.flag_word [] is.flags is.pair,
    ) (ap Some (tuple_made t interface 6 (Tcp is.from is.to is.flags) place is.proto is.fields))

pub udp-sound : (interface : ℕ) (words : List (List ℕ)) (t : TupleFacts) → udp_in interface words ≡ Some t → IsUdp words t × (t.interface ≡ interface)
unfolding udp_in
udp-sound interface words t found =
    let ends = bind_some (ported_in words) _ t found in
    let last = if_last-some (tuple_by interface ends.0.0.0 17 (Ports ends.0.0.1.0 ends.0.0.1.1)) t ends.0.1 ends.2 in
    let p = ported-sound words ends.0 ends.1 in
    subst (λ (u : TupleFacts). IsUdp words u × (u.interface ≡ interface)) last.1 (
      record {
        source = p.source;
        source_port = p.source_port;
        dest = p.dest;
        dest_port = p.dest_port;
        spelt = p.spelt ∙ ap (λ (ws : List (List ℕ)). p.source ∷ p.source_port ∷ p.dest ∷ p.dest_port ∷ ws) last.0;
        ends = (p.source_is, p.dest_is);
        from = ends.0.0.1.0;
        to = ends.0.0.1.1;
        ports = p.ports;
        proto = refl;
        fields = refl;
      },
      refl,
    )

pub udp-complete : (interface : ℕ) (words : List (List ℕ)) (t : TupleFacts) → IsUdp words t → t.interface ≡ interface → udp_in interface words ≡ Some t
unfolding udp_in ends_of
udp-complete interface words t is place =
    rw (
      is.spelt,
      ported-complete (ends_of t) is.from is.to is.source is.source_port is.dest is.dest_port [] is.ends.0 is.ends.1 is.ports,
    ) (ap Some (tuple_made t interface 17 (Ports is.from is.to) place is.proto is.fields))

pub icmp-sound : (interface : ℕ) (words : List (List ℕ)) (t : TupleFacts) → icmp_in interface words ≡ Some t → IsIcmp words t × (t.interface ≡ interface)
unfolding icmp_in
icmp-sound interface words t found =
    let ends = bind_some (ends_in words) _ t found in
    let kind = bind_some (named_in (codes "type") (number_up_to_in 255) ends.0.1) _ t ends.2 in
    let code = bind_some (named_in (codes "code") (number_up_to_in 255) kind.0.1) _ t kind.2 in
    let last = if_last-some (tuple_by interface ends.0.0 (icmp_of ends.0.0.family) (Icmp kind.0.0 code.0.0)) t code.0.1 code.2 in
    let p = ends-sound words ends.0 ends.1 in
    let k = named-sound (codes "type") (IsNumberUpTo 255) (number_up_to_in 255) (number_read 255) ends.0.1 kind.0 kind.1 in
    let c = named-sound (codes "code") (IsNumberUpTo 255) (number_up_to_in 255) (number_read 255) kind.0.1 code.0 code.1 in
    subst (λ (u : TupleFacts). IsIcmp words u × (u.interface ≡ interface)) last.1 (
      record {
        source = p.source;
        dest = p.dest;
        kind_word = k.word;
        code_word = c.word;
        spelt = p.spelt ∙ ap (λ (ws : List (List ℕ)). p.source ∷ p.dest ∷ ws) (k.spelt
            ∙ ap (λ (ws : List (List ℕ)). codes "type" ∷ k.word ∷ ws) (c.spelt ∙ ap (λ (ws : List (List ℕ)). codes "code" ∷ c.word ∷ ws) last.0));
        ends = (p.source_is, p.dest_is);
        kind = kind.0.0;
        code = code.0.0;
        numbers = (k.is, c.is);
        proto = refl;
        fields = refl;
      },
      refl,
    )

pub icmp-complete : (interface : ℕ) (words : List (List ℕ)) (t : TupleFacts) → IsIcmp words t → t.interface ≡ interface → icmp_in interface words ≡ Some t
unfolding icmp_in ends_of
icmp-complete interface words t is place =
    rw (
      is.spelt,
      ends-complete (ends_of t) is.source is.dest (codes "type" ∷ is.kind_word ∷ codes "code" ∷ is.code_word ∷ []) is.ends.0 is.ends.1,
      named-complete (codes "type") (IsNumberUpTo 255) (number_up_to_in 255) (number_read 255) is.kind_word (codes "code" ∷ is.code_word ∷ []) is.kind is.numbers.0,
      named-complete (codes "code") (IsNumberUpTo 255) (number_up_to_in 255) (number_read 255) is.code_word [] is.code is.numbers.1,
    ) (ap Some (tuple_made t interface (icmp_of t.family) (Icmp is.kind is.code) place is.proto is.fields))

pub fragment-sound : (interface : ℕ) (words : List (List ℕ)) (t : TupleFacts) → fragment_in interface words ≡ Some t → IsFragment words t × (t.interface ≡ interface)
unfolding fragment_in
fragment-sound interface words t found =
    let word = bind_some (next_in words) _ t found in
    let ends = bind_some (ends_in word.0.1) _ t word.2 in
    let proto = bind_some (fragment_proto ends.0.0.family word.0.0) _ t ends.2 in
    let last = if_last-some (tuple_by interface ends.0.0 proto.0 Absent) t ends.0.1 proto.2 in
    let p = ends-sound word.0.1 ends.0 ends.1 in
    let named : (bytes_eq word.0.0 (codes "any") ≡ false) × (protocol_in ends.0.0.family word.0.0 ≡ Some proto.0) = elim (chosen (bytes_eq word.0.0 (codes "any")) None (protocol_in ends.0.0.family word.0.0) (Some proto.0) proto.1) [
      | inl any ↦ let none = any.1 in absurd (cc)
      | inr one ↦ one
    ] in
    subst (λ (u : TupleFacts). IsFragment words u × (u.interface ≡ interface)) last.1 (
      record {
        proto_word = word.0.0;
        source = p.source;
        dest = p.dest;
        spelt = next_in-some words word.0.0 word.0.1 word.1 ∙ ap (λ (ws : List (List ℕ)). word.0.0 ∷ ws) (p.spelt ∙ ap (λ (ws : List (List ℕ)). p.source ∷ p.dest ∷ ws) last.0);
        ends = (p.source_is, p.dest_is);
        proto = protocol_in-sound ends.0.0.family word.0.0 proto.0 named.1;
        one = λ any. let bad : bytes_eq word.0.0 (codes "any") ≡ true = ap (λ (w : List ℕ). bytes_eq w (codes "any")) any in let other = named.0 in cc;
        fields = refl;
      },
      refl,
    )

pub fragment-complete : (interface : ℕ) (words : List (List ℕ)) (t : TupleFacts) → IsFragment words t → t.interface ≡ interface → fragment_in interface words ≡ Some t
unfolding fragment_in ends_of
fragment-complete interface words t is place =
    rw (
      is.spelt,
      ends-complete (ends_of t) is.source is.dest [] is.ends.0 is.ends.1,
      bytes_eq-false is.proto_word (codes "any") is.one,
      protocol_in-complete t.family is.proto_word t.proto is.proto,
    ) (ap Some (tuple_made t interface t.proto Absent place refl is.fields))

-- no protocol whose header is looked at
has_fields-false : (family : Family) (proto : ℕ) → has_fields family proto ≡ false → (proto ≢ 6) × (proto ≢ 17) × (proto ≢ icmp_of family)
has_fields-false family proto none = (
  λ is. let yes : (proto == 6) ≡ true = eq-eqb proto 6 is in let none = none in cc,
  λ is. let yes : (proto == 17) ≡ true = eq-eqb proto 17 is in go (proto == 6) (proto == icmp_of family) (let bad : ((proto == 6) || (true || (proto == icmp_of family))) ≡ false = ap (λ b. (proto == 6) || (b || (proto == icmp_of family))) (sym yes) ∙ none in bad),
  λ is. let yes : (proto == icmp_of family) ≡ true = eq-eqb proto (icmp_of family) is in last (proto == 6) (proto == 17) (ap (λ b. (proto == 6) || ((proto == 17) || b)) (sym yes) ∙ none),
)
  where
    go : (a b : Bool) → (a || (true || b)) ≡ false → ⊥
    go true b e = cc
    go false b e = cc

    last : (a b : Bool) → (a || (b || true)) ≡ false → ⊥
    last true b e = cc
    last false true e = cc
    last false false e = cc

has_fields-none : (family : Family) (proto : ℕ) → (proto ≢ 6) × (proto ≢ 17) × (proto ≢ icmp_of family) → has_fields family proto ≡ false
has_fields-none family proto none = rw (ne_eqb proto 6 none.0, ne_eqb proto 17 none.1, ne_eqb proto (icmp_of family) none.2) refl

pub other-sound : (interface : ℕ) (word : List ℕ) (words : List (List ℕ)) (t : TupleFacts) → other_in interface word words ≡ Some t → IsOther word words t × (t.interface ≡ interface)
unfolding other_in
other-sound interface word words t found =
    let ends = bind_some (ends_in words) _ t found in
    let proto = bind_some (other_proto ends.0.0.family word) _ t ends.2 in
    let last = if_last-some (tuple_by interface ends.0.0 proto.0 Absent) t ends.0.1 proto.2 in
    let p = ends-sound words ends.0 ends.1 in
    let number = bind_some (number_up_to_in 255 word) _ proto.0 proto.1 in
    let other : (has_fields ends.0.0.family number.0 ≡ false) × (number.0 ≡ proto.0) = elim (chosen (has_fields ends.0.0.family number.0) None (Some number.0) (Some proto.0) number.2) [
      | inl has ↦ let none = has.1 in absurd (cc)
      | inr none ↦ (none.0, same_some number.0 proto.0 none.1)
    ] in
    subst (λ (u : TupleFacts). IsOther word words u × (u.interface ≡ interface)) last.1 (
      record {
        source = p.source;
        dest = p.dest;
        spelt = p.spelt ∙ ap (λ (ws : List (List ℕ)). p.source ∷ p.dest ∷ ws) last.0;
        ends = (p.source_is, p.dest_is);
        proto = subst (IsNumberUpTo 255 word) other.1 (number_up_to-sound 255 word number.0 number.1);
        other = subst (λ (n : ℕ). (n ≢ 6) × (n ≢ 17) × (n ≢ icmp_of ends.0.0.family)) other.1 (has_fields-false ends.0.0.family number.0 other.0);
        fields = refl;
      },
      refl,
    )

pub other-complete : (interface : ℕ) (word : List ℕ) (words : List (List ℕ)) (t : TupleFacts) → IsOther word words t → t.interface ≡ interface → other_in interface word words ≡ Some t
unfolding other_in ends_of
other-complete interface word words t is place =
    rw (
      is.spelt,
      ends-complete (ends_of t) is.source is.dest [] is.ends.0 is.ends.1,
      number_up_to-complete 255 word t.proto is.proto.0 is.proto.1,
      has_fields-none t.family t.proto is.other,
    ) (ap Some (tuple_made t interface t.proto Absent place refl is.fields))

pub carried-sound : (interface : ℕ) (word : List ℕ) (words : List (List ℕ)) (t : TupleFacts) → carried_by interface word words ≡ Some t → IsCarried word words t × (t.interface ≡ interface)
unfolding carried_by
carried-sound interface word words t found = elim (chosen (bytes_eq word (codes "tcp")) (tcp_in interface words) _ (Some t) found) [
  | inl tcp ↦ let is = tcp-sound interface words t tcp.1 in (inl (bytes_eq-true word (codes "tcp") tcp.0, is.0), is.1)
  | inr rest ↦ elim (chosen (bytes_eq word (codes "udp")) (udp_in interface words) _ (Some t) rest.1) [
    | inl udp ↦ let is = udp-sound interface words t udp.1 in (inr (inl (bytes_eq-true word (codes "udp") udp.0, is.0)), is.1)
    | inr rest ↦ elim (chosen (bytes_eq word (codes "icmp")) (icmp_in interface words) _ (Some t) rest.1) [
      | inl icmp ↦ let is = icmp-sound interface words t icmp.1 in (inr (inr (inl (bytes_eq-true word (codes "icmp") icmp.0, is.0))), is.1)
      | inr rest ↦ elim (chosen (bytes_eq word (codes "fragment")) (fragment_in interface words) _ (Some t) rest.1) [
        | inl later ↦ let is = fragment-sound interface words t later.1 in (inr (inr (inr (inl (bytes_eq-true word (codes "fragment") later.0, is.0)))), is.1)
        | inr rest ↦ let is = other-sound interface word words t rest.1 in (inr (inr (inr (inr is.0))), is.1)
      ]
    ]
  ]
]

pub carried-complete : (interface : ℕ) (word : List ℕ) (words : List (List ℕ)) (t : TupleFacts) → IsCarried word words t → t.interface ≡ interface → carried_by interface word words ≡ Some t
unfolding carried_by
carried-complete interface word words t (inl tcp) place = rw tcp.0 (tcp-complete interface words t tcp.1 place)
carried-complete interface word words t (inr (inl udp)) place = rw udp.0 (udp-complete interface words t udp.1 place)
carried-complete interface word words t (inr (inr (inl icmp))) place = rw icmp.0 (icmp-complete interface words t icmp.1 place)
carried-complete interface word words t (inr (inr (inr (inl later)))) place = rw later.0 (fragment-complete interface words t later.1 place)
carried-complete interface word words t (inr (inr (inr (inr other)))) place =
    let tcp = bytes_eq-Lacks 116 word (codes "tcp") (Lacks-IsNumber 116 word t.proto (lit≤ tt) other.proto.0) (λ lacks. absurd (cc (lacks.0))) in
    let udp = bytes_eq-Lacks 117 word (codes "udp") (Lacks-IsNumber 117 word t.proto (lit≤ tt) other.proto.0) (λ lacks. absurd (cc (lacks.0))) in
    let icmp = bytes_eq-Lacks 105 word (codes "icmp") (Lacks-IsNumber 105 word t.proto (lit≤ tt) other.proto.0) (λ lacks. absurd (cc (lacks.0))) in
    let later = bytes_eq-Lacks 102 word (codes "fragment") (Lacks-IsNumber 102 word t.proto (lit≤ tt) other.proto.0) (λ lacks. absurd (cc (lacks.0))) in
    rw (tcp, udp, icmp, later) (other-complete interface word words t other place)

-- the word that names what is carried isn't `if`
pub not_if : (word : List ℕ) (words : List (List ℕ)) (t : TupleFacts) → IsCarried word words t → bytes_eq word (codes "if") ≡ false
not_if word words t (inl tcp) = rw tcp.0 refl
not_if word words t (inr (inl udp)) = rw udp.0 refl
not_if word words t (inr (inr (inl icmp))) = rw icmp.0 refl
not_if word words t (inr (inr (inr (inl later)))) = rw later.0 refl
not_if word words t (inr (inr (inr (inr other)))) =
    bytes_eq-Lacks 105 word (codes "if") (Lacks-IsNumber 105 word t.proto (lit≤ tt) other.proto.0) (λ lacks. absurd (cc (lacks.0)))
