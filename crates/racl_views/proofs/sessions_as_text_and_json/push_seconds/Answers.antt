use Rattle.packet_words.proofs.TextLemmas.{three}
use Rattle.racl_views.proofs.sessions_as_text_and_json.push_seconds.Goals as goal

pub returns-clause-text : goal.returns-clause-text
returns-clause-text c = three _ _ _ _ _ _ _ (rw (c.from.ensures, c.last.ensures) at c.push_numbered.ensures.text)
    (rw c.session_live_until.ensures at c.push_numbered-2.ensures.text) c.push.ensures
