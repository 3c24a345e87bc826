use Rattle.policy_check.proofs.prefix_findings.prefix_reason.Goals as goal

pub returns-in-Some : goal.returns-in-Some
returns-in-Some c = (c.in-None.ensures, (c.other_family_of_prefix.result, c.in-Some.field-0, c.in-Some.ensures))
