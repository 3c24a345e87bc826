use Rattle.std.proofs.Common.{[]}
use Rattle.acl_policy.specs.Policies.{policy_facts}
use Rattle.policy_compare.specs.Comparisons.{OwnDiffer}
use Rattle.policy_compare.specs.inner.Found.{Adds, IsOtherBefore}
use Rattle.policy_compare.proofs.own_addresses.other_addresses.Given as goal

-- The interfaces so far were added.
abbrev pub invariant-loop-number : goal.invariant-loop-number
invariant-loop-number l =
    Adds (λ n. n) (OwnDiffer (policy_facts l.before) (policy_facts l.after)) (IsOtherBefore (policy_facts l.before) (policy_facts l.after) l.number) [] l.all.items
