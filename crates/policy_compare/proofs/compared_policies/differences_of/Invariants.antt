use Rattle.std.proofs.Common.{[]}
use Rattle.acl_policy.specs.Policies.{policy_facts}
use Rattle.policy_compare.specs.Comparisons.{IsDifference}
use Rattle.policy_compare.specs.inner.Found.{AddsDifferences, IsBeforeInterface}
use Rattle.policy_compare.proofs.compared_policies.differences_of.Given as goal

-- The interfaces so far were added.
abbrev pub invariant-loop-number : goal.invariant-loop-number
invariant-loop-number l =
    AddsDifferences (IsDifference (policy_facts l.before) (policy_facts l.after) l.tests) (IsBeforeInterface (policy_facts l.before) (policy_facts l.after) l.number)
    [] l.all.items
