use Rattle.acl_policy.specs.Rules.{rule_facts}
use Rattle.policy_compare.proofs.StartingLemmas.{any_protocol, other_protocol, same_protocol}
use Rattle.policy_compare.proofs.starting_packets.narrowed.Goals as goal

pub returns-then-rule-proto-clause-some : goal.returns-then-rule-proto-clause-some
returns-then-rule-proto-clause-some c = same_protocol (rule_facts c.args.rule.now) c.args.proto c.if-rule-proto.true c.requires

pub returns-then-rule-ne0-clause-none : goal.returns-then-rule-ne0-clause-none
returns-then-rule-ne0-clause-none c = λ same packet matches. other_protocol (rule_facts c.args.rule.now) c.args.proto c.if-rule-proto.false c.if-rule-ne0.true packet matches

pub returns-clause-some : goal.returns-clause-some
returns-clause-some c = any_protocol (rule_facts c.args.rule.now) c.args.proto c.if-rule-ne0.false c.requires
