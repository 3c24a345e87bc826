use Rattle.racl_runs.proofs.CountedLemmas.{crew_end}
use Rattle.racl_runs.proofs.workers_as_judges.HandingCrew.end.Goals as goal

pub end-requires : goal.end-requires
end-requires g c = let (orders, packets, said, has, each) = c.requires in (packets, said, has.rest)

pub returns-in-Ok : goal.returns-in-Ok
returns-in-Ok g c = crew_end c.args.self.workers _ _ c.in-Ok.ensures
