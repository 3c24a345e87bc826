use Rattle.bihash_laws.proofs.RealTime.{told_recycle, told_search, told_update, tried_recycle, tried_search, tried_update}
use Rattle.bihash_laws.proofs.call_time_laws.calls_are_answers.Goals as goal

pub returns-clause-search : goal.returns-clause-search
returns-clause-search c o s t found m = told_search found m

pub returns-clause-update : goal.returns-clause-update
returns-clause-update c o s t decision reply m = told_update decision reply m

pub returns-clause-recycle : goal.returns-clause-recycle
returns-clause-recycle c o s t decision is_expired reply m = told_recycle decision is_expired reply m

pub returns-clause-search_try : goal.returns-clause-search_try
returns-clause-search_try c o s t r m = tried_search r m

pub returns-clause-update_try : goal.returns-clause-update_try
returns-clause-update_try c o s t decision r m = tried_update decision r m

pub returns-clause-recycle_try : goal.returns-clause-recycle_try
returns-clause-recycle_try c o s t decision is_expired r m = tried_recycle decision is_expired r m
