use Rattle.packet_words.proofs.TextLemmas.{three}
use Rattle.racl_views.proofs.sessions_as_text_and_json.push_flow_end.Goals as goal

pub returns-clause-text : goal.returns-clause-text
returns-clause-text c = three _ _ _ _ _ _ _ c.push_address.ensures.text c.push_flow_end_port.ensures.text c.push_flow_end_flags.ensures.text
