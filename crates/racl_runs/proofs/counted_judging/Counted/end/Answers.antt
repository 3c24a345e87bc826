use Rattle.racl_runs.proofs.CountedLemmas.{counted_end}
use Rattle.racl_runs.proofs.counted_judging.Counted.end.Goals as goal

pub end-requires : goal.end-requires
end-requires g c = let (orders, asked, packets, said, has) = c.requires in (orders, packets, said, has.after, has.each)

pub returns-in-Ok : goal.returns-in-Ok
returns-in-Ok g c = λ orders asked packets said has. counted_end orders asked packets said c.args.self _ has c.in-Ok.ensures
