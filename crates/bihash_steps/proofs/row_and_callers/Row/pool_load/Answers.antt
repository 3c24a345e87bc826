use Rattle.std.proofs.Common.{rules, refl}
use Rattle.bihash_steps.proofs.SeatCounts.{counted_next}
use Rattle.bihash_steps.proofs.pool_steps.PoolLoad.{loads_pool}
use Rattle.bihash_steps.proofs.row_and_callers.Row.pool_load.Goals as goal

pub load-requires : goal.load-requires
load-requires g c = (
  search rules,
  search rules,
  loads_pool _ _ _ _ _,
)

pub invariant_of-caller : goal.invariant_of-caller
invariant_of-caller g c =
    counted_next (λ v. v) c.caller.inside.seat.me _ _ _ c.load.ensures.2.same refl c.caller.invariant
