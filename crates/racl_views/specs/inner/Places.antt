-- Where the count of a rule's packets stands among all.
use Rattle.std.specs.Prelude.{ℕ, ◌+◌, ◌*◌}
use Rattle.packet_view.specs.declared.tuple.Direction.{Direction}
use Rattle.packet_view.specs.declared.tuple.Direction.TheVariants.{Inbound, Outbound}
use Rattle.racl_views.specs.declared.rule_numbering.RuleName.{RuleName}

abbrev pub way_place : Direction → ℕ
way_place Inbound = 0
way_place Outbound = 1

-- a row for each number, and in it a place for each interface and direction
abbrev pub place_of : RuleName → ℕ
place_of rule = rule.number * 512 + rule.interface * 2 + way_place rule.direction
