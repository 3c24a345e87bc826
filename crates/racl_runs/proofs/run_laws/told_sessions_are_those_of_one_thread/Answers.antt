use Rattle.racl_runs.proofs.StoredLaws.{left_by_run}
use Rattle.racl_runs.proofs.run_laws.told_sessions_are_those_of_one_thread.Goals as goal

pub returns : goal.returns
returns c = left_by_run
