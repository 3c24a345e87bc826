use Rattle.std.proofs.Common.{◌≡◌, ◌<◌, ℕ, Some}
use Rattle.std.specs.Prelude.{All, slice_get}
use Rattle.acl_policy.specs.Policies.{SectionFacts, policy_facts}
use Rattle.policy_check.specs.Remarks.{IsRemark, IsSectionTold}
use Rattle.policy_check.proofs.remarks_on_policy.remarks_on.Given as goal

-- What was added is true of the policy, and tells of each section so far.
abbrev pub invariant-loop-section : goal.invariant-loop-section
invariant-loop-section l = All (IsRemark (policy_facts l.policy)) l.all.items
    × ((k : ℕ) (section : SectionFacts) → k < l.section-index → slice_get (policy_facts l.policy).sections k ≡ Some section → IsSectionTold section l.all.items)
