use Rattle.std.proofs.Common.{codes}
use Rattle.racl_views.specs.SessionLines.{end_told, flow_facts, flow_told, seconds_told}
use Rattle.packet_words.proofs.TextLemmas.{behind, five}
use Rattle.racl_views.proofs.sessions_as_text_and_json.push_session.Goals as goal

pub returns : goal.returns
returns c =
    let session = c.args.session.now in
    let flow = flow_facts c.args.flow.now in
    let more = five c.push_flow.new.piece c.push.new.self c.push_flow_end.new.piece c.push-2.new.self c.push_flow_end-2.new.piece c.push_seconds.new.piece
    (codes " ") (end_told flow flow.first session.first_flags) (codes " and ") (end_told flow flow.second session.second_flags) (seconds_told c.args.times.now session)
    c.push.ensures (rw c.flags_seen.ensures at c.push_flow_end.ensures.text) c.push-2.ensures
    (rw c.flags_seen-2.ensures at c.push_flow_end-2.ensures.text) c.push_seconds.ensures.text in
    behind c.args.piece.now c.push_flow.new.piece c.push_seconds.new.piece (flow_told flow) _ c.push_flow.ensures.text more
