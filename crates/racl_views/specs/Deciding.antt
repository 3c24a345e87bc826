-- Which rule decided a packet (this project's profile).
use Rattle.std.specs.Prelude.{◌≡◌, ℕ, Bool, false, ◌==◌, ◌&&◌, List, [], ◌∷◌, Option, None, Some, count_by, option_map}
use Rattle.packet_view.specs.Captures.{PacketFacts}
use Rattle.packet_view.specs.Frames.{FrameFacts, Ip, Malformed, NotIp, Short}
use Rattle.acl_policy.specs.Policies.{PolicyFacts}
use Rattle.flow_filter.specs.Readings.{IsSeen}
use Rattle.session_state.specs.declared.verdict.Verdict.{Verdict}
use Rattle.packet_words.specs.VerdictKinds.{rule_number}
use Rattle.racl_views.specs.declared.rule_numbering.RuleName.{RuleName}
use Rattle.racl_views.specs.RuleLines.{same_way}

-- the rule of the way that a packet goes
abbrev pub rule_on : ℕ → FrameFacts → Verdict → Option RuleName
rule_on interface NotIp verdict = None
rule_on interface Malformed verdict = None
rule_on interface Short verdict = None
rule_on interface (Ip direction tuple) verdict =
    option_map (λ number. record { interface = interface; direction = direction; number = number }) (rule_number verdict)

-- the rule that decided a packet with this verdict, among those of its interface and its way
abbrev pub IsDecided : PolicyFacts → PacketFacts → Verdict → Option RuleName → Type 0
IsDecided policy packet verdict rule =
    (view : FrameFacts) × IsSeen policy packet view × (rule ≡ rule_on packet.interface view verdict)

-- each packet with its verdict was decided so
abbrev pub AreDecided : PolicyFacts → List PacketFacts → List Verdict → List (Option RuleName) → Type 0
AreDecided policy [] verdicts rules = rules ≡ []
AreDecided policy (packet ∷ packets) [] rules = rules ≡ []
AreDecided policy (packet ∷ packets) (verdict ∷ verdicts) [] = ⊥
AreDecided policy (packet ∷ packets) (verdict ∷ verdicts) (rule ∷ rules) =
    IsDecided policy packet verdict rule × AreDecided policy packets verdicts rules

-- ---- counts

abbrev pub same_rule : RuleName → RuleName → Bool
same_rule one two = (one.interface == two.interface) && (same_way one.direction two.direction && (one.number == two.number))

-- whether this rule decided, where one did
abbrev pub decided_by : RuleName → Option RuleName → Bool
decided_by name None = false
decided_by name (Some rule) = same_rule name rule

-- how many packets it decided
abbrev pub hits_on : RuleName → List (Option RuleName) → ℕ
hits_on name rules = count_by (decided_by name) rules
