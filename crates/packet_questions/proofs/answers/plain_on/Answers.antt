use Rattle.std.proofs.Common.{◌∙◌}
use Rattle.packet_questions.proofs.AnswerLaws.{plain_answers}
use Rattle.packet_questions.proofs.answers.plain_on.Goals as goal

pub returns-in-Ok-told_by-clause-told : goal.returns-in-Ok-told_by-clause-told
returns-in-Ok-told_by-clause-told c =
    let made = c.in-Ok.ensures in
    plain_answers _ c.args.verdicts.now c.requires _ c.in-Ok.lines.shown c.in-Ok.lines.names made.0 made.1 c.in-Ok-told_by.ensures.told
