use Rattle.std.proofs.Common.{◌≡◌, ◌+◌, ◌-◌, ℕ, get_or, length}
use Rattle.racl_views.proofs.place_of_rule.reach_rule_place.Given as goal

-- a place that isn't there has the count 0
abbrev pub invariant-room : goal.invariant-room
invariant-room l = (k : ℕ) → get_or l.numbers.items k 0 ≡ get_or l.fn.numbers.items k 0

abbrev pub decreases-room : goal.decreases-room
decreases-room l = l.place + 1 - length l.numbers.items
