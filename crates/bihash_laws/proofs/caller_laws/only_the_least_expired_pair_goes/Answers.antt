-- What a reader is told of expired pairs.
use Rattle.bihash_laws.proofs.ExpiredPairs.{full_none, gone_recycled}
use Rattle.bihash_laws.proofs.caller_laws.only_the_least_expired_pair_goes.Goals as goal

pub returns-clause-full : goal.returns-clause-full
returns-clause-full c = full_none

pub returns-clause-gone : goal.returns-clause-gone
returns-clause-gone c = gone_recycled
