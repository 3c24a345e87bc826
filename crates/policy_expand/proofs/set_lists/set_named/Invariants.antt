use Rattle.std.proofs.Common.{◌≡◌, length}
use Rattle.policy_expand.specs.Lists.{find_set}
use Rattle.policy_expand.proofs.set_lists.set_named.Given as goal

-- what is left decides
abbrev pub invariant-sets : goal.invariant-sets
invariant-sets l = find_set l.name l.rest ≡ find_set l.name l.sets

abbrev pub decreases-sets : goal.decreases-sets
decreases-sets l = length l.rest
