-- Protocols and what follows them are read as the grammar says.
use Rattle.std.proofs.Common.{◌≡◌, ℕ, false, List, [], ◌∷◌, ◌++◌, Option, Some, refl, sym, ap, ◌∙◌, subst, lit≤, inl, inr}
use Rattle.std.specs.Prelude.{codes}
use Rattle.std.specs.Str.{bytes_eq}
use Rattle.std.proofs.lemmas.List.{append-nil}
use Rattle.packet_view.specs.Addresses.{icmp_of}
use Rattle.packet_view.specs.declared.tuple.Family.{Family}
use Rattle.acl_policy.specs.declared.protocol_parts.Traffic.{Traffic}
use Rattle.acl_policy.specs.inner.WordReading.{◌>>=◌}
use Rattle.acl_policy.specs.inner.WordReading.Traffic.{flags_in, made, part_in, parts_in, protocol_flags_in, protocol_in, protocol_ranges_in, traffic_in}
use Rattle.acl_policy.specs.Traffic.{AreParts, IsFlags, IsProtocol, IsTraffic, OfIcmp, OfNone, OfTcp, OfUdp, Parts, every, parts_of}
use Rattle.acl_policy.proofs.NumeralLaws.{bytes_eq-Lacks}
use Rattle.acl_policy.proofs.OptionLemmas.{bind_some, bytes_eq-true, chosen, if_last-some, same_some}
use Rattle.acl_policy.proofs.PartLaws.{StartsOtherwise, StartsOtherwise-append, flags_read, part_in-complete, part_in-sound, ranges_in-complete, ranges_in-sound}
use Rattle.acl_policy.proofs.PieceLaws.{Lacks-IsNumber}
use Rattle.acl_policy.proofs.RangeLaws.{number_up_to-complete, number_up_to-sound}

pub protocol_in-sound : (family : Family) (word : List ℕ) (proto : ℕ) → protocol_in family word ≡ Some proto → IsProtocol family word proto
unfolding protocol_in
protocol_in-sound family word proto found = elim (chosen (bytes_eq word (codes "any")) (Some 0) _ (Some proto) found) [
  | inl any ↦ inl (bytes_eq-true word (codes "any") any.0, sym (same_some 0 proto any.1))
  | inr rest ↦ elim (chosen (bytes_eq word (codes "tcp")) (Some 6) _ (Some proto) rest.1) [
    | inl tcp ↦ inr (inl (bytes_eq-true word (codes "tcp") tcp.0, sym (same_some 6 proto tcp.1)))
    | inr rest ↦ elim (chosen (bytes_eq word (codes "udp")) (Some 17) _ (Some proto) rest.1) [
      | inl udp ↦ inr (inr (inl (bytes_eq-true word (codes "udp") udp.0, sym (same_some 17 proto udp.1))))
      | inr rest ↦ elim (chosen (bytes_eq word (codes "icmp")) (Some (icmp_of family)) _ (Some proto) rest.1) [
        | inl icmp ↦ inr (inr (inr (inl (bytes_eq-true word (codes "icmp") icmp.0, sym (same_some (icmp_of family) proto icmp.1)))))
        | inr rest ↦ inr (inr (inr (inr (number_up_to-sound 255 word proto rest.1))))
      ]
    ]
  ]
]

pub protocol_in-complete : (family : Family) (word : List ℕ) (proto : ℕ) → IsProtocol family word proto → protocol_in family word ≡ Some proto
unfolding protocol_in
protocol_in-complete family word proto (inl any) = ap (protocol_in family) any.0 ∙ ap Some (sym any.1)
protocol_in-complete family word proto (inr (inl tcp)) = ap (protocol_in family) tcp.0 ∙ ap Some (sym tcp.1)
protocol_in-complete family word proto (inr (inr (inl udp))) = ap (protocol_in family) udp.0 ∙ ap Some (sym udp.1)
protocol_in-complete family word proto (inr (inr (inr (inl icmp)))) = ap (protocol_in family) icmp.0 ∙ ap Some (sym icmp.1)
protocol_in-complete family word proto (inr (inr (inr (inr number)))) =
    let any = bytes_eq-Lacks 97 word (codes "any") (Lacks-IsNumber 97 word proto (lit≤ tt) number.0) (λ lacks. absurd (cc (lacks.0))) in
    let tcp = bytes_eq-Lacks 116 word (codes "tcp") (Lacks-IsNumber 116 word proto (lit≤ tt) number.0) (λ lacks. absurd (cc (lacks.0))) in
    let udp = bytes_eq-Lacks 117 word (codes "udp") (Lacks-IsNumber 117 word proto (lit≤ tt) number.0) (λ lacks. absurd (cc (lacks.0))) in
    let icmp = bytes_eq-Lacks 105 word (codes "icmp") (Lacks-IsNumber 105 word proto (lit≤ tt) number.0) (λ lacks. absurd (cc (lacks.0))) in
    rw (any, tcp, udp, icmp) (number_up_to-complete 255 word proto number.0 number.1)

parts_in-sound : (parts : Parts) (proto : ℕ) (words : List (List ℕ)) (traffic : Traffic) → parts_in parts proto words ≡ Some traffic
    → (traffic.proto ≡ proto) × AreParts parts words traffic
unfolding parts_in protocol_ranges_in protocol_flags_in
parts_in-sound OfTcp proto words traffic found =
    let ports = bind_some (protocol_ranges_in OfTcp words) _ traffic found in
    let flags = bind_some (protocol_flags_in OfTcp ports.0.2) _ traffic ports.2 in
    let last = if_last-some (made proto ports.0.0 ports.0.1 flags.0.0) traffic flags.0.1 flags.2 in
    let p = ranges_in-sound 65535 (codes "sport") (codes "dport") words ports.0 ports.1 in
    let f = part_in-sound (codes "flags") flags_in IsFlags (0, 0) ports.0.2 flags.0 flags_read flags.1 in
    let split : words ≡ (p.first ++ p.second) ++ f.part =
    p.split ∙ ap (λ (ws : List (List ℕ)). (p.first ++ p.second) ++ ws) (f.split ∙ ap (λ (ws : List (List ℕ)). f.part ++ ws) last.0 ∙ append-nil f.part) in
    subst (λ (t : Traffic). (t.proto ≡ proto) × AreParts OfTcp words t) last.1
    (refl, (p.first ++ p.second, f.part, split, (p.first, p.second, refl, p.is_first, p.is_second), f.is))
parts_in-sound OfUdp proto words traffic found =
    let ports = bind_some (protocol_ranges_in OfUdp words) _ traffic found in
    let last = if_last-some (made proto ports.0.0 ports.0.1 (0, 0)) traffic ports.0.2 ports.2 in
    let p = ranges_in-sound 65535 (codes "sport") (codes "dport") words ports.0 ports.1 in
    let split : words ≡ p.first ++ p.second = p.split ∙ ap (λ (ws : List (List ℕ)). (p.first ++ p.second) ++ ws) last.0 ∙ append-nil (p.first ++ p.second) in
    subst (λ (t : Traffic). (t.proto ≡ proto) × AreParts OfUdp words t) last.1
    (refl, ((p.first, p.second, split, p.is_first, p.is_second), (refl, refl)))
parts_in-sound OfIcmp proto words traffic found =
    let ranges = bind_some (protocol_ranges_in OfIcmp words) _ traffic found in
    let last = if_last-some (made proto ranges.0.0 ranges.0.1 (0, 0)) traffic ranges.0.2 ranges.2 in
    let p = ranges_in-sound 255 (codes "type") (codes "code") words ranges.0 ranges.1 in
    let split : words ≡ p.first ++ p.second = p.split ∙ ap (λ (ws : List (List ℕ)). (p.first ++ p.second) ++ ws) last.0 ∙ append-nil (p.first ++ p.second) in
    subst (λ (t : Traffic). (t.proto ≡ proto) × AreParts OfIcmp words t) last.1
    (refl, (p.first, p.second, split, p.is_first, p.is_second, (refl, refl)))
parts_in-sound OfNone proto words traffic found =
    let last = if_last-some (made proto every every (0, 0)) traffic words found in
    subst (λ (t : Traffic). (t.proto ≡ proto) × AreParts OfNone words t) last.1 (refl, (last.0, refl, refl, (refl, refl)))

-- traffic without flags
no_flags : (traffic : Traffic) → traffic.value ≡ 0 → traffic.mask ≡ 0 → made traffic.proto traffic.first traffic.second (0, 0) ≡ traffic
no_flags traffic value mask =
    ap (λ (n : ℕ). made traffic.proto traffic.first traffic.second (n, 0)) (sym value) ∙ ap (λ (n : ℕ). made traffic.proto traffic.first traffic.second (traffic.value, n)) (sym mask)

parts_in-complete : (parts : Parts) (words : List (List ℕ)) (traffic : Traffic) → AreParts parts words traffic → parts_in parts traffic.proto words ≡ Some traffic
unfolding parts_in protocol_ranges_in protocol_flags_in
parts_in-complete OfTcp words traffic (ports, flags, split, (source, dest, both, is_source, is_dest), is_flags) =
    let whole : words ≡ (source ++ dest) ++ flags = split ∙ ap (λ (ws : List (List ℕ)). ws ++ flags) both in
    let none : flags ++ [] ≡ flags = append-nil flags in
    let starts : (name : List ℕ) → bytes_eq (codes "flags") name ≡ false → StartsOtherwise name flags =
    λ name apart. subst (StartsOtherwise name) none (StartsOtherwise-append name (codes "flags") IsFlags (0, 0) flags [] (traffic.value, traffic.mask) is_flags apart tt) in
    let part : part_in (codes "flags") flags_in (0, 0) flags ≡ Some ((traffic.value, traffic.mask), []) =
    subst (λ (ws : List (List ℕ)). part_in (codes "flags") flags_in (0, 0) ws ≡ Some ((traffic.value, traffic.mask), [])) none
    (part_in-complete (codes "flags") flags_in IsFlags (0, 0) flags [] (traffic.value, traffic.mask) flags_read is_flags tt) in
    rw (
      whole,
      ranges_in-complete 65535 (codes "sport") (codes "dport") source dest flags traffic.first traffic.second is_source is_dest refl (starts (codes "sport") refl) (starts (codes "dport") refl),
      part,
    ) refl
parts_in-complete OfUdp words traffic ((source, dest, both, is_source, is_dest), (value, mask)) =
    let whole : words ≡ (source ++ dest) ++ [] = both ∙ sym (append-nil (source ++ dest)) in
    rw (whole, ranges_in-complete 65535 (codes "sport") (codes "dport") source dest [] traffic.first traffic.second is_source is_dest refl tt tt)
    (ap Some (no_flags traffic value mask))
parts_in-complete OfIcmp words traffic (kind, code, both, is_kind, is_code, (value, mask)) =
    let whole : words ≡ (kind ++ code) ++ [] = both ∙ sym (append-nil (kind ++ code)) in
    rw (whole, ranges_in-complete 255 (codes "type") (codes "code") kind code [] traffic.first traffic.second is_kind is_code refl tt tt)
    (ap Some (no_flags traffic value mask))
parts_in-complete OfNone words traffic (none, first, second, (value, mask)) =
    rw none (
    ap (λ (range : ℕ × ℕ). Some (made traffic.proto range every (0, 0))) (sym first)
    ∙ ap (λ (range : ℕ × ℕ). Some (made traffic.proto traffic.first range (0, 0))) (sym second)
    ∙ ap Some (no_flags traffic value mask)
    )

pub traffic_in-sound : (family : Family) (words : List (List ℕ)) (traffic : Traffic) → traffic_in family words ≡ Some traffic → IsTraffic family words traffic
unfolding traffic_in
traffic_in-sound family [] traffic found = subst (IsTraffic family []) (same_some _ traffic found) (refl, (refl, refl, refl, (refl, refl)))
traffic_in-sound family (word ∷ words) traffic found =
    let proto = bind_some (protocol_in family word) _ traffic found in
    let parts = parts_in-sound (parts_of family proto.0) proto.0 words traffic proto.2 in (
      subst (IsProtocol family word) (sym parts.0) (protocol_in-sound family word proto.0 proto.1),
      subst (λ (n : ℕ). AreParts (parts_of family n) words traffic) (sym parts.0) parts.1,
    )

pub traffic_in-complete : (family : Family) (words : List (List ℕ)) (traffic : Traffic) → IsTraffic family words traffic → traffic_in family words ≡ Some traffic
unfolding traffic_in
traffic_in-complete family [] traffic (every_protocol, (none, first, second, (value, mask))) =
    ap (λ (n : ℕ). Some (made n every every (0, 0))) (sym every_protocol)
    ∙ ap (λ (range : ℕ × ℕ). Some (made traffic.proto range every (0, 0))) (sym first)
    ∙ ap (λ (range : ℕ × ℕ). Some (made traffic.proto traffic.first range (0, 0))) (sym second)
    ∙ ap Some (no_flags traffic value mask)
traffic_in-complete family (word ∷ words) traffic (is_protocol, are) =
    ap (λ (o : Option ℕ). o >>= λ proto. parts_in (parts_of family proto) proto words) (protocol_in-complete family word traffic.proto is_protocol)
    ∙ parts_in-complete (parts_of family traffic.proto) words traffic are
