use Rattle.bihash_laws.proofs.RealTime.{yet_before, yet_begins, yet_earlier}
use Rattle.bihash_laws.proofs.call_time_laws.callers_are_yet_to_call.Goals as goal

pub returns-clause-begins : goal.returns-clause-begins
returns-clause-begins c = yet_begins

pub returns-clause-before : goal.returns-clause-before
returns-clause-before c = yet_before

pub returns-clause-earlier : goal.returns-clause-earlier
returns-clause-earlier c = yet_earlier
