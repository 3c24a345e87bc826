use Rattle.std.proofs.Common.{◌∙◌, ◌++◌, ap}
use Rattle.std.specs.Prelude.{decimal}
use Rattle.packet_words.proofs.TextLemmas.{five}
use Rattle.compared_verdicts.proofs.change_totals.push_kinds.Goals as goal

pub returns : goal.returns
returns c =
    five _ _ _ _ _ _ _ _ _ _ _ c.push.ensures (c.push-2.ensures.text ∙ ap (λ n. c.push.new.self ++ decimal n) c.of.ensures) c.push-3.ensures
    (c.push-4.ensures.text ∙ ap (λ n. c.push-3.new.self ++ decimal n) c.of-2.ensures) c.push_other.ensures
