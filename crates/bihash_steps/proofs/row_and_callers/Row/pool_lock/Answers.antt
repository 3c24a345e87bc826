use Rattle.std.proofs.Common.{rules}
use Rattle.bihash_steps.proofs.Bounds.{some_front}
use Rattle.bihash_steps.proofs.SeatCounts.{can_act}
use Rattle.bihash_steps.proofs.pool_steps.PoolLock.{locks_store}
use Rattle.bihash_steps.proofs.row_and_callers.Row.pool_lock.Goals as goal

pub compare_exchange-requires : goal.compare_exchange-requires
compare_exchange-requires g c = (search rules, rw c.self.invariant.wide (some_front _).0, locks_store _ _ _ _ (can_act _ _ c.caller.invariant.1))
