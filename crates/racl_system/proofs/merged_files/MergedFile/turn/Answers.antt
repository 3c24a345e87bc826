use Rattle.racl_system.proofs.MergeLemmas.{no_next}
use Rattle.racl_system.proofs.merged_files.MergedFile.turn.Goals as goal

pub returns-clause-none : goal.returns-clause-none
returns-clause-none g c = no_next c.args.self.now c.in_ok-self.field-0 c.rest.result.now c.turn_at.result c.in_ok-self.was c.rest.ensures c.turn_at.ensures.none
