use Rattle.std.proofs.Common.{rules, ◌∙◌, ap}
use Rattle.bihash_steps.specs.Seats.{CallerState}
use Rattle.bihash_steps.proofs.Bounds.{some_front}
use Rattle.bihash_steps.proofs.SeatCounts.{can_act}
use Rattle.bihash_steps.proofs.pool_steps.PoolLock.{opens_store}
use Rattle.bihash_steps.proofs.row_and_callers.Row.pool_unlock.Goals as goal

pub store-requires : goal.store-requires
store-requires g c =
    let may = c.requires.may in (
      search rules,
      rw c.self.invariant.wide (some_front _).0,
      opens_store _ _ _ _ may.locked
          (ap (λ (k : CallerState). k.view.holds.store) c.caller.view_is ∙ may.held) may.settled (can_act _ _ c.caller.invariant.1),
    )
