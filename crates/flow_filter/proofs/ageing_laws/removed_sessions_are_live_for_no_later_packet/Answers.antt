use Rattle.flow_filter.proofs.AgeingLemmas.{removed_not_live}
use Rattle.flow_filter.proofs.ageing_laws.removed_sessions_are_live_for_no_later_packet.Goals as goal

pub returns : goal.returns
returns c = removed_not_live
