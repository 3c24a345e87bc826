use Rattle.acl_policy.specs.Policies.{policy_facts}
use Rattle.acl_policy.proofs.TextLaws.{answered, wanting}
use Rattle.acl_policy.proofs.policy_reading.read_policy.Goals as goal

pub returns-in-Ok-clause-accepts : goal.returns-in-Ok-clause-accepts
returns-in-Ok-clause-accepts c =
    (answered policy_facts c.args.text.now _ c.read_lines.result c.in-Ok.ensures.cases c.read_lines.ensures.ok c.read_lines.ensures.fault).0

pub returns-in-Ok-clause-refuses : goal.returns-in-Ok-clause-refuses
returns-in-Ok-clause-refuses c =
    (answered policy_facts c.args.text.now _ c.read_lines.result c.in-Ok.ensures.cases c.read_lines.ensures.ok c.read_lines.ensures.fault).1

pub returns-in-Ok-clause-memory : goal.returns-in-Ok-clause-memory
returns-in-Ok-clause-memory c =
    wanting c.args.text.now c.read_lines.result c.in-Ok.ensures.cases.1
