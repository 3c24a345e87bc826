use Rattle.std.proofs.Common.{refl}
use Rattle.acl_policy.specs.Rules.{rule_facts}
use Rattle.policy_check.proofs.remarks_on_policy.mask.Goals as goal

pub returns : goal.returns
returns c = (refl, refl, refl, (rule_facts c.rule_for_remarks-rule.result, c.rule_for_remarks-rule.ensures, c.in-Some.ensures))
