use Rattle.std.proofs.Common.{◌∙◌}
use Rattle.packet_questions.proofs.QuestionLaws.{question-complete, question_found}
use Rattle.packet_questions.proofs.question_words.question_of.Goals as goal

pub returns-clause-found : goal.returns-clause-found
returns-clause-found c = question_found _ _ _ c.question_read.ensures

pub returns-clause-accepts : goal.returns-clause-accepts
returns-clause-accepts c q is = c.question_read.ensures ∙ question-complete _ _ q is
