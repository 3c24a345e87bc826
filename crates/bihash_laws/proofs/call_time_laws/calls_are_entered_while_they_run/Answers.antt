use Rattle.bihash_laws.proofs.RealTime.{entered_alone, entered_within}
use Rattle.bihash_laws.proofs.call_time_laws.calls_are_entered_while_they_run.Goals as goal

pub returns-clause-alone : goal.returns-clause-alone
returns-clause-alone c = entered_alone

pub returns-clause-within : goal.returns-clause-within
returns-clause-within c = entered_within
