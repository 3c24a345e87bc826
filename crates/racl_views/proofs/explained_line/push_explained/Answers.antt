use Rattle.packet_words.proofs.TextLemmas.{four}
use Rattle.racl_views.proofs.explained_line.push_explained.Goals as goal

pub returns-clause-text : goal.returns-clause-text
returns-clause-text c =
    four _ _ _ _ _ _ _ _ _ c.push_explained_head.ensures.text c.push_packet.ensures.text c.push_explained_rule.ensures.text c.push.ensures
