use Rattle.std.proofs.Common.{◌∙◌, ◌++◌, ℕ, List, ap, append-nil, append_assoc, sym}
use Rattle.packet_view.specs.Captures.{packet_facts}
use Rattle.racl_io.proofs.lines_one_by_one.tell_in_line.Goals as goal

pub returns-in-Ok : goal.returns-in-Ok
returns-in-Ok g c =
    let before = c.args.piece.now in
    let text = g.L.PacketLine.line c.args.line.now c.args.number (packet_facts c.args.packet) c.args.verdict in
    let room = c.in-Ok.ensures.pushed in
    let mid = c.make_room_for_line.new.piece in (
      (
        room.0.0,
        room.0.1,
        ap (λ (t : List ℕ). t ++ text) (sym (append-nil before) ∙ room.0.2) ∙ append_assoc room.0.0 mid text
            ∙ ap (λ (t : List ℕ). room.0.0 ++ t) (sym c.push.ensures),
      ),
      room.1,
      tt,
      tt,
      tt,
    )
