use Rattle.bihash_laws.proofs.TwoCallers.{at_rest}
use Rattle.bihash_laws.proofs.call_time_laws.two_callers_come_to_rest.Goals as goal

pub returns : goal.returns
returns c = at_rest
