use Rattle.flow_filter.proofs.LiveLemmas.{live_at_end}
use Rattle.flow_filter.proofs.ageing_laws.ageing_filter_keeps_what_is_live.Goals as goal

pub returns : goal.returns
returns c = live_at_end
