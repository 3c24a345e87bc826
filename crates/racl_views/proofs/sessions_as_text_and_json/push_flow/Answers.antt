use Rattle.packet_words.proofs.TextLemmas.{behind}
use Rattle.racl_views.proofs.sessions_as_text_and_json.push_flow.Goals as goal

pub returns-clause-text : goal.returns-clause-text
returns-clause-text c = behind _ _ _ _ _ (rw c.from.ensures at c.push_numbered.ensures.text) c.push_line_protocol.ensures.text
