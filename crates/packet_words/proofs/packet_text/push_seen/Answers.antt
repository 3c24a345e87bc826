use Rattle.packet_words.proofs.TextLemmas.{three}
use Rattle.packet_words.proofs.packet_text.push_seen.Goals as goal

pub returns-clause-text : goal.returns-clause-text
returns-clause-text c = three _ _ _ _ _ _ _ (rw c.from.ensures at c.push_numbered.ensures.text) c.push_way.ensures.text
    (rw c.from-2.ensures at c.push_numbered-2.ensures.text)
