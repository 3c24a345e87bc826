-- What packets show suits their protocol.
use Rattle.std.proofs.Common.{◌≡◌, ◌<◌, ℕ, ◌^◌, refl, sym, subst}
use Rattle.std.specs.Prelude.{IsTrue}
use Rattle.std.proofs.lemmas.Bool.{eq-eqb}
use Rattle.packet_view.specs.Addresses.{fields_suit, icmp_of}
use Rattle.packet_view.specs.declared.tuple.Family.{Family}
use Rattle.packet_view.specs.declared.tuple.Fields.{Fields}
use Rattle.packet_view.specs.declared.tuple.Fields.TheVariants.{Absent, Ports, Tcp, Icmp}
use Rattle.rule_cover.specs.declared.region.Numbers.{Numbers}
use Rattle.rule_cover.specs.declared.region.Shown.{Shown}
use Rattle.rule_cover.specs.declared.region.Shown.TheVariants.{PortsAndFlags}
use Rattle.rule_cover.specs.inner.Regions.{AreFieldsOf, HasNumbers, IsBeside, shown_of}

suits_as_shown : (family : Family) (proto : ℕ) (fields : Fields) → IsBeside family (shown_of fields) proto → IsTrue (fields_suit family proto fields)
suits_as_shown family proto Absent beside = refl
suits_as_shown family proto (Ports from to) beside = eq-eqb proto 17 beside
suits_as_shown family proto (Tcp from to flags) beside = eq-eqb proto 6 beside
suits_as_shown family proto (Icmp kind code) beside = eq-eqb proto (icmp_of family) beside

pub suits : (family : Family) (proto : ℕ) (fields : Fields) (shown : Shown) → shown_of fields ≡ shown → IsBeside family shown proto
    → IsTrue (fields_suit family proto fields)
suits family proto fields shown is beside = suits_as_shown family proto fields (subst (λ (s : Shown). IsBeside family s proto) (sym is) beside)

pub none_segments : (numbers : Numbers) → ((from to flags : ℕ) → from < 2 ^ 16 → to < 2 ^ 16 → HasNumbers numbers (Tcp from to flags) → ⊥)
    → (fields : Fields) → AreFieldsOf PortsAndFlags numbers fields → ⊥
none_segments numbers none Absent are = let is = are.0 in cc
none_segments numbers none (Ports from to) are = let is = are.0 in cc
none_segments numbers none (Tcp from to flags) are = none from to flags are.1.0 are.1.1 are.2
none_segments numbers none (Icmp kind code) are = let is = are.0 in cc
