use Rattle.std.proofs.Common.{◌∙◌}
use Rattle.acl_policy.specs.Rules.{rule_facts}
use Rattle.rule_cover.proofs.NumberLemmas.{of_messages, of_ports, of_segments}
use Rattle.rule_cover.proofs.numbers_of_rule.numbers_shown.Goals as goal

pub returns-in-PortPair : goal.returns-in-PortPair
returns-in-PortPair c = λ fields small is.
    of_ports c.numbers_alone.result (rule_facts c.args.rule.now) c.numbers_alone.ensures.ports fields (is ∙ c.in-PortPair.is)

pub returns-in-PortsAndFlags : goal.returns-in-PortsAndFlags
returns-in-PortsAndFlags c = λ fields small is.
    of_segments c.numbers_with_flags.result (rule_facts c.args.rule.now) c.numbers_with_flags.ensures fields (is ∙ c.in-PortsAndFlags.is)

pub returns-in-TypeAndCode : goal.returns-in-TypeAndCode
returns-in-TypeAndCode c = λ fields small is.
    of_messages c.numbers_alone-in-TypeAndCode.result (rule_facts c.args.rule.now) c.numbers_alone-in-TypeAndCode.ensures.icmp fields (is ∙ c.in-TypeAndCode.is)
