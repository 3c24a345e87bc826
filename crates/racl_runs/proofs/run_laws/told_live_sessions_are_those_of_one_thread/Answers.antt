use Rattle.std.proofs.Common.{◌≤◌}
use Rattle.capture_shards.proofs.PickedLists.{own_all}
use Rattle.racl_views.specs.Hits.{latest_second}
use Rattle.racl_runs.proofs.StoredLaws.{live_by_one, until_latest}
use Rattle.racl_runs.proofs.run_laws.told_live_sessions_are_those_of_one_thread.Goals as goal
use Rattle.racl_runs.specs.Runs.{ages_in}

pub returns-clause-run : goal.returns-clause-run
returns-clause-run c options given old new totals run aged paged in_time asked =
    live_by_one options (ages_in options) run.policy run.packets run.outcome.verdicts (latest_second run.packets) run.stored run.by_workers aged paged in_time
    (until_latest run.packets) (run.kept asked)

pub returns-clause-behind : goal.returns-clause-behind
returns-clause-behind c options text policy packets verdicts latest behind is aged paged in_time until asked =
    live_by_one options (ages_in options) policy packets verdicts latest is.stored is.by_live.by_workers aged paged in_time until (is.kept asked)

pub returns-clause-until : goal.returns-clause-until
returns-clause-until c = until_latest

pub returns-clause-own : goal.returns-clause-own
returns-clause-own c own packets = own_all own (λ p. p.moment ≤ latest_second packets) 1 packets packets (until_latest packets)
