use Rattle.bihash_laws.proofs.RealTime.{told_expire, told_sweep, tried_expire}
use Rattle.bihash_laws.proofs.call_time_laws.looks_are_answers.Goals as goal

pub returns-clause-expire : goal.returns-clause-expire
returns-clause-expire c = told_expire

pub returns-clause-expire_try : goal.returns-clause-expire_try
returns-clause-expire_try c = tried_expire

pub returns-clause-sweep : goal.returns-clause-sweep
returns-clause-sweep c = told_sweep
