use Rattle.bihash_laws.proofs.RealTime.{step_cut, step_entered, step_keeps, step_load_bucket, step_load_count, step_lock_from, step_pool_lock, step_release, step_take_number, step_validate}
use Rattle.bihash_laws.proofs.call_time_laws.steps_go_on.Goals as goal

pub returns-clause-keeps : goal.returns-clause-keeps
returns-clause-keeps c = step_keeps

pub returns-clause-load_bucket : goal.returns-clause-load_bucket
returns-clause-load_bucket c = step_load_bucket

pub returns-clause-lock_from : goal.returns-clause-lock_from
returns-clause-lock_from c = step_lock_from

pub returns-clause-validate : goal.returns-clause-validate
returns-clause-validate c = step_validate

pub returns-clause-enters : goal.returns-clause-enters
returns-clause-enters c = step_entered

pub returns-clause-release : goal.returns-clause-release
returns-clause-release c = step_release

pub returns-clause-pool_lock : goal.returns-clause-pool_lock
returns-clause-pool_lock c = step_pool_lock

pub returns-clause-load_count : goal.returns-clause-load_count
returns-clause-load_count c = step_load_count

pub returns-clause-take_number : goal.returns-clause-take_number
returns-clause-take_number c = step_take_number

pub returns-clause-cut : goal.returns-clause-cut
returns-clause-cut c = step_cut
