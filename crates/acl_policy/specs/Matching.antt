-- Which packets a rule matches, and which rule of a list decides: this project's profile of first match.
use Rattle.std.specs.Prelude.{◌≡◌, ◌≤◌, ◌<◌, ◌⊎◌, ℕ, ◌-◌, ◌/◌, ◌^◌, List, bit_and, slice_get, Option, Some, None}
use Rattle.packet_view.specs.declared.tuple.Family.{Family}
use Rattle.packet_view.specs.declared.tuple.Fields.{Fields}
use Rattle.packet_view.specs.declared.tuple.Fields.TheVariants.{Absent, Ports, Tcp, Icmp}
use Rattle.packet_view.specs.Tuples.{TupleFacts}
use Rattle.acl_policy.specs.declared.rule.Action.{Action}
use Rattle.acl_policy.specs.Rules.{RuleFacts}
use Rattle.acl_policy.specs.Widths.{width}

-- The address begins with the first bits of the prefix, as many as its length says.
abbrev pub HoldsPrefix : Family → ℕ × ℕ → ℕ → Type 0
HoldsPrefix family prefix address = prefix.0 / 2 ^ (width family - prefix.1) ≡ address / 2 ^ (width family - prefix.1)

abbrev pub IsIn : ℕ × ℕ → ℕ → Type 0
IsIn range n = (range.0 ≤ n) × (n ≤ range.1)

-- The fields are in the rule's ranges and have its flags. A later fragment has no fields to look at.
abbrev pub HasFields : RuleFacts → Fields → Type 0
HasFields rule Absent = Unit {0}
HasFields rule (Ports from to) = IsIn rule.first from × IsIn rule.second to
HasFields rule (Tcp from to flags) = IsIn rule.first from × IsIn rule.second to × (bit_and flags rule.mask ≡ rule.value)
HasFields rule (Icmp kind code) = IsIn rule.first kind × IsIn rule.second code

-- The protocol 0 of a rule is every protocol, whatever its fields are.
abbrev pub HoldsProtocol : RuleFacts → TupleFacts → Type 0
HoldsProtocol rule tuple = (rule.proto ≡ 0) ⊎ ((rule.proto ≡ tuple.proto) × HasFields rule tuple.fields)

abbrev pub Matches : RuleFacts → TupleFacts → Type 0
Matches rule tuple =
    (rule.family ≡ tuple.family) × HoldsPrefix tuple.family rule.source tuple.source × HoldsPrefix tuple.family rule.dest tuple.dest
    × HoldsProtocol rule tuple

-- The rule at a place, counted from 0, matches and has this action, and none before it matches.
abbrev pub Decides : List RuleFacts → TupleFacts → ℕ → Action → Type 0
Decides rules tuple i action =
    (rule : RuleFacts) × (slice_get rules i ≡ Some rule) × Matches rule tuple × (action ≡ rule.action)
    × ((k : ℕ) (other : RuleFacts) → k < i → slice_get rules k ≡ Some other → Matches other tuple → ⊥)

-- No rule matches, and so the packet is denied.
abbrev pub DecidesByDefault : List RuleFacts → TupleFacts → Type 0
DecidesByDefault rules tuple = (k : ℕ) (other : RuleFacts) → slice_get rules k ≡ Some other → Matches other tuple → ⊥

abbrev pub IsRuling : List RuleFacts → TupleFacts → Option (ℕ × Action) → Type 0
IsRuling rules tuple None = DecidesByDefault rules tuple
IsRuling rules tuple (Some ruling) = Decides rules tuple ruling.0 ruling.1
