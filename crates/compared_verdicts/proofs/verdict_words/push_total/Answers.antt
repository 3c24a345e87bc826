use Rattle.std.proofs.Common.{◌∙◌, ◌++◌, ap}
use Rattle.std.specs.Prelude.{decimal}
use Rattle.compared_verdicts.proofs.MeetingLemmas.{five_pushed}
use Rattle.compared_verdicts.proofs.verdict_words.push_total.Goals as goal

pub returns : goal.returns
returns c =
    five_pushed _ _ _ _ _ _ _ _ _ _ _ c.push_line_number.ensures.text c.push_total_word.ensures.text c.push.ensures (c.push-2.ensures.text ∙ ap (λ n. c.push.new.self ++ decimal n) c.of.ensures)
    c.push_was.ensures
