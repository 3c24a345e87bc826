use Rattle.std.proofs.Common.{◌≤◌, ◌<◌, ◌-◌, length}
use Rattle.policy_check.proofs.remark_kinds.last_in_row.Given as goal

-- It is one of the places.
abbrev pub invariant-row : goal.invariant-row
invariant-row l = (l.first ≤ l.last) × (l.last < length l.places)

abbrev pub decreases-row : goal.decreases-row
decreases-row l = length l.places - l.last
