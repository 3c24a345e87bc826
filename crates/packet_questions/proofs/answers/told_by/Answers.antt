use Rattle.std.proofs.Common.{◌≡◌, ◌∙◌, [], ap, refl}
use Rattle.packet_questions.specs.Answers.{answered_of}
use Rattle.packet_questions.proofs.AnswerLaws.{told_held}
use Rattle.packet_questions.proofs.answers.told_by.Goals as goal

pub returns-in-Ok-tell_end-clause-told : goal.returns-in-Ok-tell_end-clause-told
returns-in-Ok-tell_end-clause-told g c =
    let none : c.new-held.result.inner.items ≡ [] = ap (λ d. d.inner.items) c.new-held.ensures ∙ c.new.ensures.items in
    told_held _ _ _ c.args.verdicts.now (answered_of c.args.verdicts.now) _ _ _ c.totals_on-totals.result none c.in-Ok.ensures.same c.requires refl c.totals_on-totals.ensures
    c.in-Ok.ensures.told.0 c.in-Ok-tell_end.ensures.told.0
