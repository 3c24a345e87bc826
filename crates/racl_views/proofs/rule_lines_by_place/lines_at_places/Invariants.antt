use Rattle.std.proofs.Common.{drop}
use Rattle.racl_views.specs.inner.EntryLists.{AreAtPlaces}
use Rattle.racl_views.proofs.rule_lines_by_place.lines_at_places.Given as goal

-- the lines of the rules from here on
abbrev pub invariant-loop-i : goal.invariant-loop-i
invariant-loop-i l = AreAtPlaces l.lines.items (drop l.i l.rules)
