use Rattle.std.proofs.Common.{◌∙◌, sym}
use Rattle.packet_view.proofs.RecordLemmas.{part_only, part_shown}
use Rattle.packet_view.proofs.records_at_front.next_record.Goals as goal

pub returns-clause-shown : goal.returns-clause-shown
returns-clause-shown c = rw c.front_piece.ensures (part_shown c.args.order c.args.rest.now)

pub returns-clause-only : goal.returns-clause-only
returns-clause-only c = λ other h. part_only c.args.order c.args.rest.now other h ∙ sym c.front_piece.ensures
