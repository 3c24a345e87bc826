use Rattle.std.proofs.Common.{◌<◌, ℕ}
use Rattle.acl_policy.specs.Policies.{section_facts}
use Rattle.policy_check.specs.Remarks.{IsDecidingTold, IsSectionRemark}
use Rattle.policy_check.specs.inner.Added.{Adds}
use Rattle.policy_check.proofs.remarks_on_policy.add_rules.Given as goal

-- What was added is true of the section, and tells of each rule so far.
abbrev pub invariant-loop-place : goal.invariant-loop-place
invariant-loop-place l = Adds (IsSectionRemark (section_facts l.section)) l.initial.all.items l.all.items
    × ((k : ℕ) → k < l.place → IsDecidingTold (section_facts l.section) l.direction k l.all.items)
