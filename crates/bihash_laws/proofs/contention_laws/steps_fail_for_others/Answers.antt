use Rattle.bihash_laws.proofs.Contention.{found_changed, found_locked, found_store_locked}
use Rattle.bihash_laws.proofs.contention_laws.steps_fail_for_others.Goals as goal

pub returns-clause-locked : goal.returns-clause-locked
returns-clause-locked c z s r id b v w at = found_locked z s r id v at b w

pub returns-clause-changed : goal.returns-clause-changed
returns-clause-changed c z s r id v o at = found_changed z s r id v at o

pub returns-clause-store : goal.returns-clause-store
returns-clause-store c = found_store_locked
