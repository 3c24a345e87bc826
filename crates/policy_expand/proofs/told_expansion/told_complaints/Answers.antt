use Rattle.std.proofs.Common.{◌==◌, ◌∙◌, ap, subst, sym, ℕ, List}
use Rattle.acl_policy.specs.Policies.{IsPolicyText, policy_facts}
use Rattle.policy_check.proofs.CheckLaws.{decided}
use Rattle.policy_expand.proofs.told_expansion.told_complaints.Goals as goal

pub returns-clause-some : goal.returns-clause-some
returns-clause-some c policy is =
    let checked = c.in_ok-checked.checked in
    let same : IsPolicyText c.as_slice.result.now policy = subst (λ (t : List ℕ). IsPolicyText t policy) (sym c.as_slice.ensures.value) is in
    let yes = (decided c.as_slice.result.now (policy_facts checked.policy) checked.complaints.items c.is_empty.result c.in_ok-checked.ensures
    (c.is_empty.ensures ∙ ap (λ (n : ℕ). n == 0) checked.complaints.ok.0)).1 (policy, same) in
    let no = c.if-is_empty.false in
    absurd (cc)
