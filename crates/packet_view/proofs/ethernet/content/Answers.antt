use Rattle.packet_view.proofs.Steps.{content_after}
use Rattle.packet_view.proofs.ethernet.content.Goals as goal

pub returns : goal.returns
returns c = content_after _ _ _ _ _ c.if-frame-lt14.false c.read_u16-kind.ensures c.in_ok-kind.ensures c.past_tag-2.ensures
