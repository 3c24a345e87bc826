use Rattle.packet_words.proofs.TextLemmas.{three}
use Rattle.compared_verdicts.proofs.change_lines.push_change.Goals as goal

pub returns-clause-text : goal.returns-clause-text
returns-clause-text c = three _ _ _ _ _ _ _ c.push_verdicts.ensures.text (rw c.packet_as_seen-frame.ensures.only at c.push_packet.ensures.text) c.push.ensures
