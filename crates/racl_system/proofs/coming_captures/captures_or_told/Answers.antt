use Rattle.racl_system.proofs.ApartLemmas.{status_of_twice}
use Rattle.racl_system.proofs.coming_captures.captures_or_told.Goals as goal

pub returns-in-Ok-clause-status : goal.returns-in-Ok-clause-status
returns-in-Ok-clause-status g c = status_of_twice c.args.captures.now c.in-Some.number c.in-Ok.status c.in-Ok.ensures c.in-Some.ensures.some
