use Rattle.std.proofs.Common.{refl}
use Rattle.acl_policy.specs.Rules.{rule_facts}
use Rattle.policy_check.proofs.remarks_on_policy.source_bits.Goals as goal

pub returns-then-has_bits : goal.returns-then-has_bits
returns-then-has_bits c = (refl, refl, refl, (rule_facts c.rule_for_remarks-rule.result, c.rule_for_remarks-rule.ensures, c.has_bits.ensures c.if-has_bits.true))
