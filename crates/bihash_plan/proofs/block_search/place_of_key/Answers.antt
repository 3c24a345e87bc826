use Rattle.std.proofs.Common.{arith}
use Rattle.bihash_plan.proofs.block_search.place_of_key.Goals as goal

pub returns-clause-none : goal.returns-clause-none
returns-clause-none g c = λ i low high h. c.loop-i.invariant i low (omega arith) h
