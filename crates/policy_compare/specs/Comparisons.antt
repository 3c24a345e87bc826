-- Where two policies let different things become of a packet, by the first of their rules that matches it and without regard to
-- sessions that are there (this project's profile).
use Rattle.std.specs.Prelude.{◌≡◌, ◌≢◌, ◌<◌, ℕ, ◌+◌, ◌^◌, Bool, false, List, [], map, Option, Some, None, All, Contains, IsSome, if◌then◌else◌, option_map, slice_get, unwrap_or}
use Rattle.packet_view.specs.declared.tuple.Direction.{Direction}
use Rattle.packet_view.specs.declared.tuple.Direction.TheVariants.{Inbound, Outbound}
use Rattle.packet_view.specs.declared.tuple.Mac.{Mac}
use Rattle.packet_view.specs.declared.tuple.Tuple.{Tuple}
use Rattle.packet_view.specs.Tuples.{TupleFacts, tuple_facts}
use Rattle.session_state.specs.Flows.{flow_of}
use Rattle.acl_policy.specs.declared.rule.Action.{Action}
use Rattle.acl_policy.specs.declared.rule.Action.TheVariants.{Deny, Permit, Reflect}
use Rattle.acl_policy.specs.Matching.{Decides, DecidesByDefault}
use Rattle.acl_policy.specs.Policies.{PolicyFacts, rules_of, section_of}
use Rattle.acl_policy.specs.Rules.{RuleFacts}
use Rattle.rule_cover.specs.Covers.{IsPacket}
use Rattle.policy_compare.specs.declared.difference.Comparison.{Comparison}
use Rattle.policy_compare.specs.declared.difference.Difference.{Difference}
use Rattle.policy_compare.specs.declared.difference.Pair.{Pair}

-- the rules of a policy for packets of a direction at an interface
abbrev pub rules_at : PolicyFacts → ℕ → Direction → List RuleFacts
rules_at policy interface direction = rules_of direction (section_of interface policy)

-- The first rule that matches the packet has this number, from 1, and this action; or none matches.
abbrev pub IsDecider : List RuleFacts → TupleFacts → Option (ℕ × Action) → Type 0
IsDecider rules tuple None = DecidesByDefault rules tuple
IsDecider rules tuple (Some decider) = (place : ℕ) × (decider.0 ≡ place + 1) × Decides rules tuple place decider.1

-- the action of a decider: a packet that no rule matches is dropped
abbrev pub action_by : Option (ℕ × Action) → Action
action_by None = Deny
action_by (Some decider) = decider.1

-- what decides the packets that the rule at this place matches, and none before it; behind the last one no rule does
abbrev pub decider_at : List RuleFacts → ℕ → Option (ℕ × Action)
decider_at rules place = option_map (λ rule. (place + 1, rule.action)) (slice_get rules place)

-- the packet takes part in sessions, and may start one
unfoldable pub may_start : TupleFacts → Bool
may_start tuple = unwrap_or (option_map (λ flow. flow.starts) (flow_of tuple)) false

-- what becomes of a packet by an action: to reflect one that may start no session is to permit it
abbrev pub outcome : TupleFacts → Action → Action
outcome tuple Deny = Deny
outcome tuple Permit = Permit
outcome tuple Reflect = if may_start tuple then Reflect else Permit

-- This pair decides the packet by two lists of rules, and lets different things become of it.
pub record AreApart (before after : List RuleFacts) (pair : Pair) (tuple : TupleFacts) : Type 0 where
  pub packet : IsPacket tuple
  pub by_before : IsDecider before tuple pair.before
  pub by_after : IsDecider after tuple pair.after
  pub apart : outcome tuple (action_by pair.before) ≢ outcome tuple (action_by pair.after)

-- Packets go this way at an interface with this own address: out only where there is one, from which their frames come.
abbrev pub MayGo : Option Mac → Direction → Type 0
MayGo own Inbound = Unit {0}
MayGo own Outbound = IsSome own

-- They do by both policies.
abbrev pub GoByBoth : PolicyFacts → PolicyFacts → ℕ → Direction → Type 0
GoByBoth before after interface direction =
    MayGo (section_of interface before).own direction × MayGo (section_of interface after).own direction

-- So do two policies of a packet of the pair's interface and direction.
abbrev pub DifferBy : PolicyFacts → PolicyFacts → Pair → TupleFacts → Type 0
DifferBy before after pair tuple =
    GoByBoth before after pair.interface pair.direction
    × AreApart (rules_at before pair.interface pair.direction) (rules_at after pair.interface pair.direction) pair tuple

-- Two policies let different things become of a packet of this direction at this interface.
abbrev pub Differ : PolicyFacts → PolicyFacts → ℕ → Direction → TupleFacts → Type 0
Differ before after interface direction tuple =
    (pair : Pair) × (pair.interface ≡ interface) × (pair.direction ≡ direction) × DifferBy before after pair tuple

-- The packet of a difference is like this; it is unknown only where no test of a rule is left.
abbrev pub IsExample : ℕ → (Tuple → Type 0) → Option Tuple → Type 0
IsExample left Is None = left ≡ 0
IsExample left Is (Some tuple) = Is tuple

-- It is one of its interface that its pair decides differently.
abbrev pub IsDifference : PolicyFacts → PolicyFacts → ℕ → Difference → Type 0
IsDifference before after left difference =
    IsExample left (λ tuple. (tuple.interface ≡ difference.pair.interface) × DifferBy before after difference.pair (tuple_facts tuple)) difference.packet

-- the own addresses of an interface differ, which tell the direction of its frames
abbrev pub OwnDiffer : PolicyFacts → PolicyFacts → ℕ → Type 0
OwnDiffer before after interface = (section_of interface before).own ≢ (section_of interface after).own

-- What is told of two policies where so many tests of a rule are left. Each packet is an example of its pair, and each pair has
-- one where a test is left; each pair that decides a packet differently is told, at whichever interface; and where no pair is, no
-- packet is decided differently.
pub record IsComparison (before after : PolicyFacts) (left : ℕ) (told : Comparison) : Type 0 where
  pub sound : All (IsDifference before after left) told.differences.items
  pub complete : (pair : Pair) (tuple : TupleFacts) → pair.interface < 2 ^ 8 → DifferBy before after pair tuple
      → Contains (map (λ d. d.pair) told.differences.items) pair
  pub none : told.differences.items ≡ [] → (interface : ℕ) (direction : Direction) (tuple : TupleFacts) → interface < 2 ^ 8
      → Differ before after interface direction tuple → ⊥
  pub own : All (OwnDiffer before after) told.interfaces.items
  pub every_own : (interface : ℕ) → interface < 2 ^ 8 → OwnDiffer before after interface → Contains told.interfaces.items interface
