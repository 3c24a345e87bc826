use Rattle.std.proofs.Common.{◌∙◌, ◌++◌, ap}
use Rattle.std.specs.Prelude.{decimal}
use Rattle.compared_verdicts.proofs.MeetingLemmas.{five_pushed}
use Rattle.compared_verdicts.proofs.verdict_words.push_packet_head.Goals as goal

pub returns-clause-text : goal.returns-clause-text
returns-clause-text c =
    five_pushed _ _ _ _ _ _ _ _ _ _ _ c.push_line_number.ensures.text (c.push.ensures.text ∙ ap (λ n. c.push_line_number.new.piece ++ decimal n) c.of.ensures) c.push-2.ensures
    c.push_wanted.ensures.text c.push-3.ensures
