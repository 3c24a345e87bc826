-- What a reader is told of the writes of an answered call.
use Rattle.bihash_laws.proofs.AnsweredCalls.{last_write, no_write, one_write}
use Rattle.bihash_laws.proofs.caller_laws.changed_alone_writes.Goals as goal

pub returns-clause-last : goal.returns-clause-last
returns-clause-last c = last_write

pub returns-clause-once : goal.returns-clause-once
returns-clause-once c = one_write

pub returns-clause-none : goal.returns-clause-none
returns-clause-none c = no_write
