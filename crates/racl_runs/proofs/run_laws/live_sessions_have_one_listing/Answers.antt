use Rattle.racl_runs.proofs.StoredLaws.{one_listing}
use Rattle.racl_runs.proofs.run_laws.live_sessions_have_one_listing.Goals as goal

pub returns : goal.returns
returns c = one_listing
