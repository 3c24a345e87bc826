-- The numbers of a rule, by what packets show.
use Rattle.std.proofs.Common.{◌≡◌, ◌↔◌, ℕ}
use Rattle.packet_view.specs.declared.tuple.Fields.{Fields}
use Rattle.packet_view.specs.declared.tuple.Fields.TheVariants.{Absent, Ports, Tcp, Icmp}
use Rattle.acl_policy.specs.Matching.{HasFields}
use Rattle.acl_policy.specs.Rules.{RuleFacts}
use Rattle.rule_cover.specs.declared.region.Numbers.{Numbers}
use Rattle.rule_cover.specs.declared.region.Shown.TheVariants.{PortPair, PortsAndFlags, TypeAndCode}
use Rattle.rule_cover.specs.inner.Regions.{HasNumbers, shown_of}

pub of_ports : (numbers : Numbers) (rule : RuleFacts) → ((from to : ℕ) → HasNumbers numbers (Ports from to) ↔ HasFields rule (Ports from to))
    → (fields : Fields) → shown_of fields ≡ PortPair → HasNumbers numbers fields ↔ HasFields rule fields
of_ports numbers rule each Absent is = let f : ⊥ = cc in absurd f
of_ports numbers rule each (Ports from to) is = each from to
of_ports numbers rule each (Tcp from to flags) is = let f : ⊥ = cc in absurd f
of_ports numbers rule each (Icmp kind code) is = let f : ⊥ = cc in absurd f

pub of_segments : (numbers : Numbers) (rule : RuleFacts) → ((from to flags : ℕ) → HasNumbers numbers (Tcp from to flags) ↔ HasFields rule (Tcp from to flags))
    → (fields : Fields) → shown_of fields ≡ PortsAndFlags → HasNumbers numbers fields ↔ HasFields rule fields
of_segments numbers rule each Absent is = let f : ⊥ = cc in absurd f
of_segments numbers rule each (Ports from to) is = let f : ⊥ = cc in absurd f
of_segments numbers rule each (Tcp from to flags) is = each from to flags
of_segments numbers rule each (Icmp kind code) is = let f : ⊥ = cc in absurd f

pub of_messages : (numbers : Numbers) (rule : RuleFacts) → ((kind code : ℕ) → HasNumbers numbers (Icmp kind code) ↔ HasFields rule (Icmp kind code))
    → (fields : Fields) → shown_of fields ≡ TypeAndCode → HasNumbers numbers fields ↔ HasFields rule fields
of_messages numbers rule each Absent is = let f : ⊥ = cc in absurd f
of_messages numbers rule each (Ports from to) is = let f : ⊥ = cc in absurd f
of_messages numbers rule each (Tcp from to flags) is = let f : ⊥ = cc in absurd f
of_messages numbers rule each (Icmp kind code) is = each kind code
