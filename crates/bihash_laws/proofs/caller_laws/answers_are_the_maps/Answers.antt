-- What a reader is told of an answered call.
use Rattle.bihash_laws.proofs.AnsweredCalls.{acting_more, continues, found_there, legal}
use Rattle.bihash_laws.proofs.caller_laws.answers_are_the_maps.Goals as goal

pub returns-clause-continues : goal.returns-clause-continues
returns-clause-continues c = continues

pub returns-clause-legal : goal.returns-clause-legal
returns-clause-legal c = legal

pub returns-clause-found : goal.returns-clause-found
returns-clause-found c = found_there

pub returns-clause-entered : goal.returns-clause-entered
returns-clause-entered c = acting_more
