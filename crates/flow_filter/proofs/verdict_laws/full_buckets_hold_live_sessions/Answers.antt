use Rattle.flow_filter.proofs.FullLemmas.{full_by_reading}
use Rattle.flow_filter.proofs.RowLemmas.{full_in_order}
use Rattle.flow_filter.proofs.verdict_laws.full_buckets_hold_live_sessions.Goals as goal

pub returns : goal.returns
returns c = record { flow = full_by_reading; in_order = full_in_order }
