use Rattle.std.proofs.Common.{rules, refl, ◌∙◌, ap, Some}
use Rattle.bihash_words.specs.Sizes.{sizes_of}
use Rattle.bihash_steps.specs.Seats.{CallerState}
use Rattle.bihash_steps.specs.StoreSteps.{MayList, holding, listing}
use Rattle.bihash_steps.proofs.SeatCounts.{can_act, counted_next, state_next, of_seat}
use Rattle.bihash_steps.proofs.pool_steps.PoolReturn.{lists_page}
use Rattle.bihash_steps.proofs.row_and_callers.Row.pool_list.Goals as goal

pub store-requires : goal.store-requires
store-requires g c = (
  search rules,
  search rules,
  lists_page _ _ _ _ _ _ _ _ (of_seat (λ v. MayList (sizes_of g.S.Shape) v c.args.log2 c.args.count) c.caller.view_is c.requires.may)
      c.list_at.ensures.place (can_act _ _ c.caller.invariant.1),
)

pub invariant_of-caller : goal.invariant_of-caller
invariant_of-caller g c =
    let may = of_seat (λ v. MayList (sizes_of g.S.Shape) v c.args.log2 c.args.count) c.caller.view_is c.requires.may in
    let is = c.store.ensures.2 _ _ may.locked may c.list_at.ensures.place may.store in
    counted_next (λ v. holding v (Some (listing may.locked c.args.log2 c.args.page)) v.holds.block) c.caller.inside.seat.me _ _ _
    is refl c.caller.invariant

pub returns : goal.returns
returns g c n e =
    let may = of_seat (λ v. MayList (sizes_of g.S.Shape) v c.args.log2 c.args.count) c.caller.view_is c.requires.may in
    let is = c.store.ensures.2 _ _ n may c.list_at.ensures.place (ap (λ (k : CallerState). k.view.holds.store) c.caller.view_is ∙ e) in
    state_next (λ v. holding v (Some (listing n c.args.log2 c.args.page)) v.holds.block) _ _ _ _ c.caller.inside.seat.me _ c.args.caller.now
    c.store.ensures.0 c.store.ensures.1 is c.caller.view_is
