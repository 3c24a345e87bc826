use Rattle.packet_words.proofs.TextLemmas.{five}
use Rattle.packet_words.proofs.packet_text.push_tuple.Goals as goal

pub returns-clause-text : goal.returns-clause-text
returns-clause-text c = five _ _ _ _ _ _ _ _ _ _ _ c.push_line_protocol.ensures.text c.push_end.ensures.text c.push_from.ensures.text
    c.push_end-2.ensures.text c.push_to.ensures.text
