-- What is found of the packets of a pair.
use Rattle.std.specs.Prelude.{◌≢◌, List, Option, Some, None}
use Rattle.packet_view.specs.Tuples.{TupleFacts, tuple_facts}
use Rattle.acl_policy.specs.declared.rule.Action.{Action}
use Rattle.acl_policy.specs.declared.rule.Action.TheVariants.{Deny}
use Rattle.acl_policy.specs.Matching.{DecidesByDefault, Matches}
use Rattle.acl_policy.specs.Rules.{RuleFacts}
use Rattle.rule_cover.specs.Covers.{IsPacket}
use Rattle.rule_cover.specs.declared.uncovered_packets.Cover.{Cover}
use Rattle.rule_cover.specs.declared.uncovered_packets.Cover.TheVariants as cover
use Rattle.policy_compare.specs.Comparisons.{outcome}
use Rattle.policy_compare.specs.declared.finding.Finding.{Finding}
use Rattle.policy_compare.specs.declared.finding.Finding.TheVariants.{Packet, Nothing, Unknown}

-- A packet that is so was found, or there is none.
abbrev pub IsFinding : (TupleFacts → Type 0) → Finding → Type 0
IsFinding Is (Packet tuple) = Is (tuple_facts tuple)
IsFinding Is Nothing = (tuple : TupleFacts) → Is tuple → ⊥
IsFinding Is Unknown = Unit {0}

abbrev pub finding_of : Cover → Finding
finding_of (cover.Left tuple) = Packet tuple
finding_of (cover.Taken marks) = Nothing
finding_of cover.Unknown = Unknown

-- the packet that is found by the one search or else by the other
abbrev pub either : Finding → Finding → Finding
either (Packet tuple) other = Packet tuple
either Nothing other = other
either Unknown (Packet tuple) = Packet tuple
either Unknown Nothing = Unknown
either Unknown Unknown = Unknown

-- the rule matches the packet, where there is one
abbrev pub MatchesIf : Option RuleFacts → TupleFacts → Type 0
MatchesIf None tuple = Unit {0}
MatchesIf (Some rule) tuple = Matches rule tuple

-- Both match the packet, and no earlier rule does.
pub record IsFree (one two : Option RuleFacts) (earlier : List RuleFacts) (tuple : TupleFacts) : Type 0 where
  pub packet : IsPacket tuple
  pub by_one : MatchesIf one tuple
  pub by_two : MatchesIf two tuple
  pub none : DecidesByDefault earlier tuple

-- the action of a rule, and of none
abbrev pub action_of : Option RuleFacts → Action
action_of None = Deny
action_of (Some rule) = rule.action

-- And they let different things become of it.
abbrev pub IsFreeApart : Option RuleFacts → Option RuleFacts → List RuleFacts → TupleFacts → Type 0
IsFreeApart one two earlier tuple = IsFree one two earlier tuple × (outcome tuple (action_of one) ≢ outcome tuple (action_of two))
