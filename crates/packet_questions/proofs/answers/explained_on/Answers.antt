use Rattle.std.proofs.Common.{ap}
use Rattle.acl_policy.specs.Policies.{policy_facts}
use Rattle.packet_questions.proofs.AnswerLaws.{explained_answers}
use Rattle.packet_questions.proofs.answers.explained_on.Goals as goal

pub returns-in-Ok-told_by-clause-told : goal.returns-in-Ok-told_by-clause-told
returns-in-Ok-told_by-clause-told c =
    let made = c.in-Ok.ensures in
    explained_answers (policy_facts c.args.policy.now) c.args.text.now _ c.args.verdicts.now c.requires.each _ c.in-Ok.lines c.requires.says made.0 (ap policy_facts made.1) made.2 made.3
    c.in-Ok-told_by.ensures.told
