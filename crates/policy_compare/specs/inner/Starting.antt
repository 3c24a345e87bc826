-- Packets that may start a session, told by rules.
use Rattle.std.specs.Prelude.{◌≡◌, ◌⊎◌, ◌↔◌, ℕ, ◌+◌, ◌-◌, Bool, true, false, ◌==◌, List, [], ◌∷◌, ◌++◌}
use Rattle.packet_view.specs.Addresses.{icmp_of}
use Rattle.packet_view.specs.declared.tuple.Family.{Family}
use Rattle.packet_view.specs.declared.tuple.Family.TheVariants.{V4, V6}
use Rattle.packet_view.specs.declared.tuple.Fields.{Fields}
use Rattle.packet_view.specs.declared.tuple.Fields.TheVariants.{Absent, Icmp, Ports, Tcp}
use Rattle.packet_view.specs.Tuples.{TupleFacts}
use Rattle.session_state.specs.Flows.{request_type}
use Rattle.acl_policy.specs.declared.rule.Action.TheVariants.{Deny}
use Rattle.acl_policy.specs.Matching.{Matches}
use Rattle.acl_policy.specs.Rules.{RuleFacts}
use Rattle.rule_cover.specs.Covers.{IsLeft, IsPacket}

-- fields of a packet that may start a session: ports, or the type of an echo request
abbrev pub start_fields : Family → Fields → Bool
start_fields family Absent = false
start_fields family (Ports from to) = true
start_fields family (Tcp from to flags) = true
start_fields family (Icmp kind code) = kind == request_type family

-- a rule for all addresses of a family, by the protocol and the source port or the type
abbrev pub idle_rule : Family → ℕ → ℕ × ℕ → RuleFacts
idle_rule family proto first = record {
  action = Deny;
  family = family;
  source = (0, 0);
  dest = (0, 0);
  proto = proto;
  first = first;
  second = (0, 65535);
  value = 0;
  mask = 0;
}

-- Of TCP, UDP and ICMP these rules match just what starts no session: later fragments, as no port is in the range from 1 to 0,
-- and messages that are no echo request.
unfoldable pub idle_of : Family → List RuleFacts
idle_of family =
    idle_rule family 6 (1, 0) ∷ idle_rule family 17 (1, 0) ∷ idle_rule family (icmp_of family) (0, request_type family - 1)
    ∷ idle_rule family (icmp_of family) (request_type family + 1, 65535) ∷ []

-- of both families
unfoldable pub idle_rules : List RuleFacts
idle_rules = idle_of V4 ++ idle_of V6

-- The rule matches just what another does of this protocol.
abbrev pub IsNarrowed : RuleFacts → ℕ → RuleFacts → Type 0
IsNarrowed rule proto narrowed = (tuple : TupleFacts) → IsPacket tuple → Matches narrowed tuple ↔ (Matches rule tuple × (tuple.proto ≡ proto))

-- What is left of both rules has this protocol, or one whose packets may start sessions.
abbrev pub IsLeftOf : ℕ → RuleFacts → RuleFacts → List RuleFacts → TupleFacts → Type 0
IsLeftOf proto one two earlier tuple = IsLeft one two earlier tuple × (tuple.proto ≡ proto)

abbrev pub IsLeftOfStarting : RuleFacts → RuleFacts → List RuleFacts → TupleFacts → Type 0
IsLeftOfStarting one two earlier tuple =
    IsLeft one two earlier tuple × ((tuple.proto ≡ 6) ⊎ ((tuple.proto ≡ 17) ⊎ (tuple.proto ≡ icmp_of one.family)))
