use Rattle.std.proofs.Common.{◌==◌, ◌∙◌, ℕ, ap}
use Rattle.acl_policy.specs.Policies.{policy_facts}
use Rattle.policy_check.proofs.CheckLaws.{decided}
use Rattle.policy_check.proofs.told_lines.tell.Goals as goal

pub returns : goal.returns
returns c =
    let checked = c.in_ok-checked.checked in
    decided c.args.text.now (policy_facts checked.policy) checked.complaints.items c.is_empty-is_policy.result c.in_ok-checked.ensures
    (c.is_empty-is_policy.ensures ∙ ap (λ (n : ℕ). n == 0) checked.complaints.ok.0)
