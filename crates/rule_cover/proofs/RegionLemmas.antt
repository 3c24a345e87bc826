-- The region of a rule has the packets that the rule matches.
use Rattle.std.proofs.Common.{◌≡◌, ◌≢◌, ◌<◌, ◌⊎◌, ◌↔◌, ℕ, ◌^◌, sym, subst, inl, inr}
use Rattle.std.proofs.lemmas.Bool.{cases_eq}
use Rattle.packet_view.specs.Addresses.{address_limit}
use Rattle.packet_view.specs.Tuples.{TupleFacts}
use Rattle.packet_view.specs.declared.tuple.Family.{Family}
use Rattle.packet_view.specs.declared.tuple.Fields.{Fields}
use Rattle.acl_policy.specs.Matching.{HasFields, HoldsPrefix, IsIn, Matches}
use Rattle.acl_policy.specs.Rules.{RuleFacts}
use Rattle.rule_cover.specs.Covers.{AreSmall, IsPacket}
use Rattle.rule_cover.specs.declared.region.Numbers.{Numbers}
use Rattle.rule_cover.specs.declared.region.Region.{Region}
use Rattle.rule_cover.specs.inner.Regions.{HasNumbers, IsInRegion, shown_of}

-- what the parts of a rule's region say
pub record AreParts (rule : RuleFacts) (region : Region) : Type 0 where
  pub family : rule.family ≡ region.family
  pub source : (a : ℕ) → a < address_limit rule.family → IsIn region.source a ↔ HoldsPrefix rule.family rule.source a
  pub dest : (a : ℕ) → a < address_limit rule.family → IsIn region.dest a ↔ HoldsPrefix rule.family rule.dest a
  pub proto : (n : ℕ) → n < 2 ^ 8 → IsIn region.proto n ↔ ((rule.proto ≡ 0) ⊎ (rule.proto ≡ n))
  pub any : rule.proto ≡ 0 → (fields : Fields) → AreSmall fields → HasNumbers region.numbers fields
  pub one : rule.proto ≢ 0 → (fields : Fields) → AreSmall fields → shown_of fields ≡ region.shown
      → HasNumbers region.numbers fields ↔ HasFields rule fields

region_matches : (rule : RuleFacts) (region : Region) → AreParts rule region → (tuple : TupleFacts) → IsPacket tuple
    → IsInRegion region tuple → Matches rule tuple
region_matches rule region parts tuple packet is =
    let same : rule.family ≡ tuple.family = cc (parts.family, is.0) in
    let source = (parts.source tuple.source (subst (λ (f : Family). tuple.source < address_limit f) (sym same) packet.source)).0 is.2 in
    let dest = (parts.dest tuple.dest (subst (λ (f : Family). tuple.dest < address_limit f) (sym same) packet.dest)).0 is.3 in (
      same,
      subst (λ (f : Family). HoldsPrefix f rule.source tuple.source) same source,
      subst (λ (f : Family). HoldsPrefix f rule.dest tuple.dest) same dest,
      elim (cases_eq rule.proto 0) [
        | inl every ↦ inl every
        | inr some ↦ inr (
          elim ((parts.proto tuple.proto packet.proto).0 is.4) [ inl every ↦ absurd (some every) | inr it ↦ it ],
          (parts.one some tuple.fields packet.small is.1).0 is.5,
        )
      ],
    )

rule_holds : (rule : RuleFacts) (region : Region) → AreParts rule region → (tuple : TupleFacts) → IsPacket tuple
    → Matches rule tuple → shown_of tuple.fields ≡ region.shown → IsInRegion region tuple
rule_holds rule region parts tuple packet has shown =
    let same : rule.family ≡ tuple.family = has.0 in
    let source = (parts.source tuple.source (subst (λ (f : Family). tuple.source < address_limit f) (sym same) packet.source)).1 (subst (λ (f : Family). HoldsPrefix f rule.source tuple.source) (sym same) has.1) in
    let dest = (parts.dest tuple.dest (subst (λ (f : Family). tuple.dest < address_limit f) (sym same) packet.dest)).1 (subst (λ (f : Family). HoldsPrefix f rule.dest tuple.dest) (sym same) has.2) in (
      cc (parts.family, same),
      shown,
      source,
      dest,
      (parts.proto tuple.proto packet.proto).1 (elim has.3 [ inl every ↦ inl every | inr both ↦ inr both.0 ]),
      elim has.3 [
        | inl every ↦ parts.any every tuple.fields packet.small
        | inr both ↦ elim (cases_eq rule.proto 0) [
          | inl every ↦ parts.any every tuple.fields packet.small
          | inr some ↦ (parts.one some tuple.fields packet.small shown).1 both.1
        ]
      ],
    )

pub region_is : (rule : RuleFacts) (region : Region) → AreParts rule region → (tuple : TupleFacts) → IsPacket tuple
    → IsInRegion region tuple ↔ (Matches rule tuple × (shown_of tuple.fields ≡ region.shown))
region_is rule region parts tuple packet = (
  λ is. (region_matches rule region parts tuple packet is, is.1),
  λ both. rule_holds rule region parts tuple packet both.0 both.1,
)

-- the packets of two regions of one family that show the same
pub both_regions : (one two : Region) (source dest proto : ℕ × ℕ) (numbers : Numbers)
    → ((n : ℕ) → IsIn source n ↔ (IsIn one.source n × IsIn two.source n))
    → ((n : ℕ) → IsIn dest n ↔ (IsIn one.dest n × IsIn two.dest n))
    → ((n : ℕ) → IsIn proto n ↔ (IsIn one.proto n × IsIn two.proto n))
    → ((fields : Fields) → HasNumbers numbers fields ↔ (HasNumbers one.numbers fields × HasNumbers two.numbers fields))
    → one.family ≡ two.family → one.shown ≡ two.shown → (tuple : TupleFacts)
    → IsInRegion (record { family = one.family; shown = one.shown; source = source; dest = dest; proto = proto; numbers = numbers }) tuple
    ↔ (IsInRegion one tuple × IsInRegion two tuple)
both_regions one two source dest proto numbers sources dests protos fields family shown tuple = (
  λ is.
      let s = (sources tuple.source).0 is.2 in
      let d = (dests tuple.dest).0 is.3 in
      let p = (protos tuple.proto).0 is.4 in
      let n = (fields tuple.fields).0 is.5 in
      ((is.0, is.1, s.0, d.0, p.0, n.0), (cc (family, is.0), cc (shown, is.1), s.1, d.1, p.1, n.1)),
  λ both. (
    both.0.0,
    both.0.1,
    (sources tuple.source).1 (both.0.2, both.1.2),
    (dests tuple.dest).1 (both.0.3, both.1.3),
    (protos tuple.proto).1 (both.0.4, both.1.4),
    (fields tuple.fields).1 (both.0.5, both.1.5),
  ),
)
