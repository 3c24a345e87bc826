use Rattle.flow_dealing.proofs.KeptSessions.{live_is_kept}
use Rattle.flow_dealing.proofs.worker_record_laws.ageing_workers_keep_what_is_live.Goals as goal

pub returns : goal.returns
returns c = live_is_kept
