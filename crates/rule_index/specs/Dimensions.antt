-- The numbers of a packet that ranges of a rule are about.
use Rattle.std.specs.Prelude.{◌≡◌, ◌<◌, ℕ, ◌+◌, ◌^◌, ◌-◌, ◌==◌, if◌then◌else◌, List, length, slice_get, Some}
use Rattle.packet_view.specs.declared.tuple.Family.{Family}
use Rattle.packet_view.specs.declared.tuple.Family.TheVariants.{V4, V6}
use Rattle.packet_view.specs.declared.tuple.Fields.{Fields}
use Rattle.packet_view.specs.declared.tuple.Fields.TheVariants.{Absent, Ports, Tcp, Icmp}
use Rattle.packet_view.specs.Tuples.{TupleFacts}
use Rattle.rule_index.specs.declared.ranges_of_rules.Dimension.{Dimension}
use Rattle.rule_index.specs.declared.ranges_of_rules.Dimension.TheVariants.{Source, Dest, Protocol, First, Second}
use Rattle.acl_policy.specs.Matching.{Matches}
use Rattle.rule_index.specs.Rows.{IsWithin}
use Rattle.acl_policy.specs.Rules.{RuleFacts}

-- protocols of one family beside those of the other
abbrev pub protocol_base : Family → ℕ
protocol_base V4 = 0
protocol_base V6 = 256

-- every protocol of the family for 0
abbrev pub protocol_range : Family → ℕ → ℕ × ℕ
protocol_range family proto =
    if proto == 0 then (protocol_base family, protocol_base family + 255) else (protocol_base family + proto, protocol_base family + proto)

-- every number where every protocol is meant
abbrev pub port_range : ℕ → ℕ × ℕ → ℕ × ℕ
port_range proto ports = if proto == 0 then (0, 2 ^ 128 - 1) else ports

abbrev pub IsFirst : Fields → ℕ → Type 0
IsFirst Absent x = ⊥
IsFirst (Ports from to) x = x ≡ from
IsFirst (Tcp from to flags) x = x ≡ from
IsFirst (Icmp kind code) x = x ≡ kind

abbrev pub IsSecond : Fields → ℕ → Type 0
IsSecond Absent x = ⊥
IsSecond (Ports from to) x = x ≡ to
IsSecond (Tcp from to flags) x = x ≡ to
IsSecond (Icmp kind code) x = x ≡ code

-- The number of a packet in a dimension.
abbrev pub IsAt : Dimension → TupleFacts → ℕ → Type 0
IsAt Source tuple x = x ≡ tuple.source
IsAt Dest tuple x = x ≡ tuple.dest
IsAt Protocol tuple x = (x ≡ protocol_base tuple.family + tuple.proto) × (tuple.proto < 256)
IsAt First tuple x = IsFirst tuple.fields x
IsAt Second tuple x = IsSecond tuple.fields x

-- A range holds the number of each packet that the rule matches.
abbrev pub Spans : Dimension → RuleFacts → ℕ × ℕ → Type 0
Spans dimension rule range = (tuple : TupleFacts) (x : ℕ) → x < 2 ^ 128 → IsAt dimension tuple x → Matches rule tuple → IsWithin range x

-- A range for each rule.
pub record Span (dimension : Dimension) (rules : List RuleFacts) (ranges : List (ℕ × ℕ)) : Type 0 where
  pub len : length ranges ≡ length rules
  pub each : (k : ℕ) (rule : RuleFacts) (range : ℕ × ℕ) → slice_get rules k ≡ Some rule → slice_get ranges k ≡ Some range → Spans dimension rule range
