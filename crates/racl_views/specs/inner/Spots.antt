-- What the lines before a spot say.
use Rattle.std.specs.Prelude.{◌≡◌, ◌<◌, ℕ, List, [], ◌∷◌, Option, None, Some, unwrap_or}
use Rattle.packet_view.specs.declared.tuple.Direction.TheVariants.{Inbound, Outbound}
use Rattle.acl_policy.specs.Lines.{Blank, LineFacts}
use Rattle.acl_policy.specs.inner.Reading.Lines.{line_in}
use Rattle.racl_views.specs.RuleLines.{interface_behind, rules_behind}
use Rattle.racl_views.specs.declared.rule_numbering.RuleLine.{RuleLine}
use Rattle.racl_views.specs.declared.rule_numbering.Spot.{Spot}

-- what a line says, where it says something
unfoldable pub said : List ℕ → LineFacts
said line = unwrap_or (line_in line) Blank

-- the spot is behind these lines, of which the last stands first
pub record IsBehind (before : List LineFacts) (spot : Spot) : Type 0 where
  pub interface : spot.interface ≡ interface_behind before
  pub inbound : spot.inbound ≡ rules_behind Inbound before
  pub outbound : spot.outbound ≡ rules_behind Outbound before

-- its section has fewer rules than the next line's number
abbrev pub IsShort : Spot → ℕ → Type 0
IsShort spot line = (spot.inbound < line) × (spot.outbound < line)

-- one rule, or none
abbrev pub listed : Option RuleLine → List RuleLine
listed None = []
listed (Some rule) = rule ∷ []
