-- Rules that are the same match the same packets.
use Rattle.std.proofs.Common.{◌≡◌, ◌∙◌, ◌≤◌, ◌<◌, ℕ, Bool, true, false, ap, arith, inl, inr, refl, subst, sym}
use Rattle.std.specs.Prelude.{◌⊎◌, ◌↔◌, ◌&&◌, ◌||◌, ◌==◌, IsTrue, bit_and, if◌then◌else◌, nat_le}
use Rattle.std.proofs.lemmas.Bool.{and_parts, eqb-false, eqb-true, leb-true, not-true}
use Rattle.std.proofs.lemmas.Nat.{and_assoc}
use Rattle.std.specs.Int.Bits.{and_self}
use Rattle.packet_view.specs.Addresses.{fields_suit, icmp_of}
use Rattle.packet_view.specs.Tuples.{TupleFacts}
use Rattle.packet_view.specs.declared.tuple.Family.{Family}
use Rattle.packet_view.specs.declared.tuple.Family.TheVariants.{V4, V6}
use Rattle.packet_view.specs.declared.tuple.Fields.{Fields}
use Rattle.packet_view.specs.declared.tuple.Fields.TheVariants.{Absent, Ports, Tcp, Icmp}
use Rattle.acl_policy.specs.Matching.{HasFields, HoldsPrefix, IsIn, Matches}
use Rattle.acl_policy.specs.Rules.{RuleFacts}
use Rattle.rule_cover.specs.Covers.{AreSmall, IsPacket}
use Rattle.rule_cover.specs.SameRules.{counted, family_number, has_no_flags, last_byte, same_bytes, same_ports, same_prefix, same_rule, same_segments}

-- ---- What the test says

-- a range that holds the same numbers of a kind
pub record AlikePorts (one other : RuleFacts) : Type 0 where
  pub from : one.first.0 ≡ other.first.0
  pub from_end : one.first.1 ≡ other.first.1
  pub to : one.second.0 ≡ other.second.0
  pub to_end : one.second.1 ≡ other.second.1

pub record AlikeBytes (one other : RuleFacts) : Type 0 where
  pub kind : one.first.0 ≡ other.first.0
  pub kind_end : last_byte one.first.1 ≡ last_byte other.first.1
  pub code : one.second.0 ≡ other.second.0
  pub code_end : last_byte one.second.1 ≡ last_byte other.second.1

pub record AlikeFlags (one other : RuleFacts) : Type 0 where
  pub ports : AlikePorts one other
  pub value : one.value ≡ other.value
  pub mask : one.mask ≡ other.mask

-- two rules of one family and one protocol that look at the same numbers
pub record AreAlike (one other : RuleFacts) : Type 0 where
  pub family : one.family ≡ other.family
  pub proto : one.proto ≡ other.proto
  pub source_length : one.source.1 ≡ other.source.1
  pub source : counted one.family one.source ≡ counted one.family other.source
  pub dest_length : one.dest.1 ≡ other.dest.1
  pub dest : counted one.family one.dest ≡ counted one.family other.dest
  pub segments : one.proto ≡ 6 → ((has_no_flags one ≡ true) × (has_no_flags other ≡ true)) ⊎ AlikeFlags one other
  pub ports : one.proto ≡ 17 → AlikePorts one other
  pub bytes : one.proto ≡ icmp_of one.family → AlikeBytes one other

alike_ports_back : {one other : RuleFacts} → AlikePorts one other → AlikePorts other one
alike_ports_back is = record { from = sym is.from; from_end = sym is.from_end; to = sym is.to; to_end = sym is.to_end }

alike_bytes_back : {one other : RuleFacts} → AlikeBytes one other → AlikeBytes other one
alike_bytes_back is = record { kind = sym is.kind; kind_end = sym is.kind_end; code = sym is.code; code_end = sym is.code_end }

segments_back : {one other : RuleFacts} → ((has_no_flags one ≡ true) × (has_no_flags other ≡ true)) ⊎ AlikeFlags one other
    → ((has_no_flags other ≡ true) × (has_no_flags one ≡ true)) ⊎ AlikeFlags other one
segments_back (inl none) = inl (none.1, none.0)
segments_back (inr is) = inr (record { ports = alike_ports_back is.ports; value = sym is.value; mask = sym is.mask })

alike_back : {one other : RuleFacts} → AreAlike one other → AreAlike other one
alike_back {one} {other} is = record {
  family = sym is.family;
  proto = sym is.proto;
  source_length = sym is.source_length;
  source = subst (λ (f : Family). counted f other.source ≡ counted f one.source) is.family (sym is.source);
  dest_length = sym is.dest_length;
  dest = subst (λ (f : Family). counted f other.dest ≡ counted f one.dest) is.family (sym is.dest);
  segments = λ tcp. segments_back (is.segments (is.proto ∙ tcp));
  ports = λ udp. alike_ports_back (is.ports (is.proto ∙ udp));
  bytes = λ icmp. alike_bytes_back (is.bytes (is.proto ∙ icmp ∙ sym (ap icmp_of is.family)));
}

-- ---- The test

same_family : (a b : Family) → (family_number a == family_number b) ≡ true → a ≡ b
same_family V4 V4 same = refl
same_family V4 V6 same = cc
same_family V6 V4 same = cc
same_family V6 V6 same = refl

prefix_parts : (family : Family) (one other : ℕ × ℕ) → same_prefix family one other ≡ true → (one.1 ≡ other.1) × (counted family one ≡ counted family other)
prefix_parts family one other same =
    let parts = and_parts _ _ same in (eqb-true _ _ parts.0, eqb-true _ _ parts.1)

ports_parts : (one other : RuleFacts) → same_ports one other ≡ true → AlikePorts one other
ports_parts one other same =
    let parts = and_parts _ _ same in
    let first = and_parts _ _ parts.0 in
    let second = and_parts _ _ parts.1 in
    record { from = eqb-true _ _ first.0; from_end = eqb-true _ _ first.1; to = eqb-true _ _ second.0; to_end = eqb-true _ _ second.1 }

bytes_parts : (one other : RuleFacts) → (same_bytes one.first other.first && same_bytes one.second other.second) ≡ true → AlikeBytes one other
bytes_parts one other same =
    let parts = and_parts _ _ same in
    let kind = and_parts _ _ parts.0 in
    let code = and_parts _ _ parts.1 in
    record { kind = eqb-true _ _ kind.0; kind_end = eqb-true _ _ kind.1; code = eqb-true _ _ code.0; code_end = eqb-true _ _ code.1 }

flags_parts : (one other : RuleFacts) → (same_ports one other && ((one.value == other.value) && (one.mask == other.mask))) ≡ true → AlikeFlags one other
flags_parts one other same =
    let parts = and_parts _ _ same in
    let flags = and_parts _ _ parts.1 in
    record { ports = ports_parts one other parts.0; value = eqb-true _ _ flags.0; mask = eqb-true _ _ flags.1 }

or_parts : (a b : Bool) → (a || b) ≡ true → (a ≡ true) ⊎ (b ≡ true)
or_parts true b same = inl refl
or_parts false b same = inr same

segments_parts : (one other : RuleFacts) → same_segments one other ≡ true → ((has_no_flags one ≡ true) × (has_no_flags other ≡ true)) ⊎ AlikeFlags one other
segments_parts one other same =
    elim (or_parts _ _ same) [
      | inl none ↦ inl (and_parts _ _ none)
      | inr is ↦ inr (flags_parts one other is)
    ]

-- what is tested of one protocol's fields
abbrev test_of : ℕ → Family → Bool → Bool → Bool → Bool
test_of n family segments ports bytes =
    if n == 6 then segments else (if n == 17 then ports else (if n == icmp_of family then bytes else true))

test_of_tcp : (n : ℕ) (family : Family) (segments ports bytes : Bool) → n ≡ 6 → test_of n family segments ports bytes ≡ true → segments ≡ true
test_of_tcp n family segments ports bytes tcp same = subst (λ (m : ℕ). test_of m family segments ports bytes ≡ true) tcp same

test_of_udp : (n : ℕ) (family : Family) (segments ports bytes : Bool) → n ≡ 17 → test_of n family segments ports bytes ≡ true → ports ≡ true
test_of_udp n family segments ports bytes udp same = subst (λ (m : ℕ). test_of m family segments ports bytes ≡ true) udp same

test_of_icmp : (n : ℕ) (family : Family) (segments ports bytes : Bool) → n ≡ icmp_of family → test_of n family segments ports bytes ≡ true → bytes ≡ true
test_of_icmp n V4 segments ports bytes icmp same = subst (λ (m : ℕ). test_of m V4 segments ports bytes ≡ true) icmp same
test_of_icmp n V6 segments ports bytes icmp same = subst (λ (m : ℕ). test_of m V6 segments ports bytes ≡ true) icmp same

alike_of : (one other : RuleFacts) → same_rule one other ≡ true → AreAlike one other
alike_of one other same =
    let families = and_parts _ _ same in
    let actions = and_parts _ _ families.1 in
    let protocols = and_parts _ _ actions.1 in
    let rest = and_parts _ _ protocols.1 in
    let prefixes = and_parts _ _ rest.0 in
    let source = prefix_parts one.family one.source other.source prefixes.0 in
    let dest = prefix_parts one.family one.dest other.dest prefixes.1 in
    let segments = same_segments one other in
    let ports = same_ports one other in
    let bytes = same_bytes one.first other.first && same_bytes one.second other.second in
    record {
      family = same_family one.family other.family families.0;
      proto = eqb-true _ _ protocols.0;
      source_length = source.0;
      source = source.1;
      dest_length = dest.0;
      dest = dest.1;
      segments = λ tcp. segments_parts one other (test_of_tcp one.proto one.family segments ports bytes tcp rest.1);
      ports = λ udp. ports_parts one other (test_of_udp one.proto one.family segments ports bytes udp rest.1);
      bytes = λ icmp. bytes_parts one other (test_of_icmp one.proto one.family segments ports bytes icmp rest.1);
    }

-- ---- The packets

prefix_too : (family : Family) (one other : ℕ × ℕ) (address : ℕ) → one.1 ≡ other.1 → counted family one ≡ counted family other
    → HoldsPrefix family one address → HoldsPrefix family other address
prefix_too family one other address same counts holds = cc

range_too : (one other : ℕ × ℕ) (n : ℕ) → one.0 ≡ other.0 → one.1 ≡ other.1 → IsIn one n → IsIn other n
range_too one other n first last is = (subst (λ (k : ℕ). k ≤ n) first is.0, subst (λ (k : ℕ). n ≤ k) last is.1)

below_last : (n k : ℕ) → n < 256 → n ≤ k → n ≤ last_byte k
below_last n k small under = go (nat_le 255 k) refl
  where
    go : (b : Bool) → nat_le 255 k ≡ b → n ≤ (if b then 255 else k)
    go true is = omega arith
    go false is = under

last_below : (k : ℕ) → last_byte k ≤ k
last_below k = go (nat_le 255 k) refl
  where
    go : (b : Bool) → nat_le 255 k ≡ b → (if b then 255 else k) ≤ k
    go true is = leb-true 255 k is
    go false is = omega arith

bytes_too : (one other : ℕ × ℕ) (n : ℕ) → n < 256 → one.0 ≡ other.0 → last_byte one.1 ≡ last_byte other.1 → IsIn one n → IsIn other n
bytes_too one other n small first last is =
    let under : n ≤ last_byte other.1 = subst (λ (k : ℕ). n ≤ k) last (below_last n one.1 small is.1) in
    let end = last_below other.1 in
    (subst (λ (k : ℕ). k ≤ n) first is.0, omega (arith, under, end))

-- flags that are as a rule says are what it looks at
flags_wanted : (rule : RuleFacts) (flags : ℕ) → has_no_flags rule ≡ true → bit_and flags rule.mask ≡ rule.value → ⊥
flags_wanted rule flags none are =
    eqb-false (bit_and rule.value rule.mask) rule.value (not-true _ none)
    (ap (λ (v : ℕ). bit_and v rule.mask) (sym are) ∙ and_assoc rule.mask flags rule.mask ∙ ap (bit_and flags) (and_self rule.mask) ∙ are)

fields_too : (one other : RuleFacts) (tuple : TupleFacts) → AreAlike one other → IsPacket tuple → one.family ≡ tuple.family → one.proto ≡ tuple.proto
    → (fields : Fields) → tuple.fields ≡ fields → HasFields one fields → HasFields other fields
fields_too one other tuple is packet family proto Absent same has = tt
fields_too one other tuple is packet family proto (Ports from to) same has =
    let udp = eqb-true tuple.proto 17 (subst (λ (f : Fields). IsTrue (fields_suit tuple.family tuple.proto f)) same packet.suits) in
    let ports = is.ports (proto ∙ udp) in
    (range_too one.first other.first from ports.from ports.from_end has.0, range_too one.second other.second to ports.to ports.to_end has.1)
fields_too one other tuple is packet family proto (Tcp from to flags) same has =
    let tcp = eqb-true tuple.proto 6 (subst (λ (f : Fields). IsTrue (fields_suit tuple.family tuple.proto f)) same packet.suits) in
    elim (is.segments (proto ∙ tcp)) [
      | inl none ↦ absurd (flags_wanted one flags none.0 has.2)
      | inr alike ↦ (
        range_too one.first other.first from alike.ports.from alike.ports.from_end has.0,
        range_too one.second other.second to alike.ports.to alike.ports.to_end has.1,
        subst (λ (m : ℕ). bit_and flags m ≡ other.value) alike.mask (has.2 ∙ alike.value),
      )
    ]
fields_too one other tuple is packet family proto (Icmp kind code) same has =
    let icmp = eqb-true tuple.proto (icmp_of tuple.family) (subst (λ (f : Fields). IsTrue (fields_suit tuple.family tuple.proto f)) same packet.suits) in
    let small = subst AreSmall same packet.small in
    let bytes = is.bytes (proto ∙ icmp ∙ ap icmp_of (sym family)) in (
      bytes_too one.first other.first kind small.0 bytes.kind bytes.kind_end has.0,
      bytes_too one.second other.second code small.1 bytes.code bytes.code_end has.1,
    )

pub matches_too : (one other : RuleFacts) (tuple : TupleFacts) → AreAlike one other → IsPacket tuple → Matches one tuple → Matches other tuple
matches_too one other tuple is packet (family, source, dest, protocol) = (
  sym is.family ∙ family,
  prefix_too tuple.family one.source other.source tuple.source is.source_length
      (subst (λ (f : Family). counted f one.source ≡ counted f other.source) family is.source) source,
  prefix_too tuple.family one.dest other.dest tuple.dest is.dest_length
      (subst (λ (f : Family). counted f one.dest ≡ counted f other.dest) family is.dest) dest,
  elim protocol [
    | inl every ↦ inl (sym is.proto ∙ every)
    | inr some ↦ inr (sym is.proto ∙ some.0, fields_too one other tuple is packet family some.0 tuple.fields refl some.1)
  ],
)

-- in both directions
pub match_alike : (one other : RuleFacts) (tuple : TupleFacts) → same_rule one other ≡ true → IsPacket tuple → Matches one tuple ↔ Matches other tuple
match_alike one other tuple same packet =
    let is = alike_of one other same in
    (matches_too one other tuple is packet, matches_too other one tuple (alike_back is) packet)
