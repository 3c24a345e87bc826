use Rattle.std.proofs.Common.{rules}
use Rattle.bihash_words.specs.Sizes.{sizes_of}
use Rattle.bihash_steps.specs.StoreSteps.{MayTakeReturned}
use Rattle.bihash_steps.proofs.SeatCounts.{can_act, counted_returned, of_seat}
use Rattle.bihash_steps.proofs.pool_steps.PoolTake.{takes_returned_block}
use Rattle.bihash_steps.proofs.row_and_callers.Row.pool_take_returned.Goals as goal

pub store-requires : goal.store-requires
store-requires g c = (
  search rules,
  search rules,
  takes_returned_block _ _ _ _ _ _ _ (of_seat (λ v. MayTakeReturned (sizes_of g.S.Shape) v c.args.log2 c.args.count) c.caller.view_is c.requires.may)
      c.returned_count_at.ensures.place (can_act _ _ c.caller.invariant.1),
)

pub invariant_of-caller : goal.invariant_of-caller
invariant_of-caller g c =
    let may = of_seat (λ v. MayTakeReturned (sizes_of g.S.Shape) v c.args.log2 c.args.count) c.caller.view_is c.requires.may in
    counted_returned (sizes_of g.S.Shape) _ _ _ c.caller.inside.seat.me _ _ _ may c.returned_count_at.ensures.place c.store.ensures.2 c.caller.invariant
