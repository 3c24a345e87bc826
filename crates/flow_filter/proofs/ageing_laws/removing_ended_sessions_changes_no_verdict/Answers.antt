use Rattle.flow_filter.proofs.AgeingLemmas.{removals_change_no_verdict}
use Rattle.flow_filter.proofs.ageing_laws.removing_ended_sessions_changes_no_verdict.Goals as goal

pub returns : goal.returns
returns c = removals_change_no_verdict
