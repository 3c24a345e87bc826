use Rattle.std.proofs.Common.{◌≡◌, ◌≤◌, ◌-◌, length}
use Rattle.policy_check.proofs.remark_kinds.TakersDisplay.fmt.Given as goal

-- So many places were shown.
abbrev pub invariant-places : goal.invariant-places
invariant-places g l = (l.count ≡ length l.self.places.items) × (l.next ≤ l.count)

abbrev pub decreases-places : goal.decreases-places
decreases-places g l = l.count - l.next
