-- Where the rules of a policy stand in its text (this project's profile).
use Rattle.std.specs.Prelude.{◌≡◌, ℕ, ◌+◌, Bool, true, false, List, [], ◌∷◌, ◌++◌, length, if◌then◌else◌}
use Rattle.std.specs.Str.Lines as split
use Rattle.packet_view.specs.declared.tuple.Direction.{Direction}
use Rattle.packet_view.specs.declared.tuple.Direction.TheVariants.{Inbound, Outbound}
use Rattle.acl_policy.specs.Lines.{Begins, Blank, LineFacts, Own, Ruled}
use Rattle.acl_policy.specs.Policies.{AreLines}
use Rattle.racl_views.specs.declared.rule_numbering.RuleLine.{RuleLine}

abbrev pub same_way : Direction → Direction → Bool
same_way Inbound Inbound = true
same_way Inbound Outbound = false
same_way Outbound Inbound = false
same_way Outbound Outbound = true

-- The interface to whose section a line belongs that stands behind these, the last of them first.
abbrev pub interface_behind : List LineFacts → ℕ
interface_behind [] = 0
interface_behind (Blank ∷ before) = interface_behind before
interface_behind (Begins number ∷ before) = number
interface_behind (Own mac ∷ before) = interface_behind before
interface_behind (Ruled direction rule ∷ before) = interface_behind before

-- how many rules of a direction that section has among these
abbrev pub rules_behind : Direction → List LineFacts → ℕ
rules_behind way [] = 0
rules_behind way (Blank ∷ before) = rules_behind way before
rules_behind way (Begins number ∷ before) = 0
rules_behind way (Own mac ∷ before) = rules_behind way before
rules_behind way (Ruled direction rule ∷ before) = (if same_way way direction then 1 else 0) + rules_behind way before

-- the rule of a line behind these
abbrev pub rule_here : List LineFacts → LineFacts → List RuleLine
rule_here before Blank = []
rule_here before (Begins number) = []
rule_here before (Own mac) = []
rule_here before (Ruled direction rule) = record {
  rule = record { interface = interface_behind before; direction = direction; number = rules_behind direction before + 1 };
  line = length before + 1;
} ∷ []

-- the rules of further lines, in their order
abbrev pub rules_from : List LineFacts → List LineFacts → List RuleLine
rules_from before [] = []
rules_from before (reading ∷ readings) = rule_here before reading ++ rules_from (reading ∷ before) readings

-- the rules of a policy's text, each with its line
pub record AreRules (text : List ℕ) (rules : List RuleLine) : Type 0 where
  pub readings : List LineFacts
  pub lines : AreLines (split.lines text) readings
  pub all : rules ≡ rules_from [] readings
