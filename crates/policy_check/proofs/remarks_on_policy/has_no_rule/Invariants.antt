use Rattle.std.specs.Prelude.{All, take}
use Rattle.acl_policy.specs.Policies.{section_facts}
use Rattle.policy_check.specs.Remarks.{HasNoRule}
use Rattle.policy_check.proofs.remarks_on_policy.has_no_rule.Given as goal

-- The sections so far have none.
abbrev pub invariant-loop-section : goal.invariant-loop-section
invariant-loop-section l = All (λ s. HasNoRule (section_facts s)) (take l.section-index l.section-items)
