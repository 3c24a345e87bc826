use Rattle.std.proofs.Common.{refl}
use Rattle.acl_policy.specs.Rules.{rule_facts}
use Rattle.policy_check.proofs.remarks_on_policy.unmatched_flags.Goals as goal

pub returns-then-has_no_flags : goal.returns-then-has_no_flags
returns-then-has_no_flags c = (refl, refl, refl, (rule_facts c.rule_for_remarks-rule.result, c.rule_for_remarks-rule.ensures, c.has_no_flags.ensures c.if-has_no_flags.true))
