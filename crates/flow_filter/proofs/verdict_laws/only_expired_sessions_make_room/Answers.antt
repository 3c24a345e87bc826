use Rattle.flow_filter.proofs.RecyclingLemmas.{made_room}
use Rattle.flow_filter.proofs.verdict_laws.only_expired_sessions_make_room.Goals as goal

pub returns : goal.returns
returns c = made_room
