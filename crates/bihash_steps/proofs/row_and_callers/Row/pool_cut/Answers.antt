use Rattle.std.proofs.Math.Nat.{div-le_self}
use Rattle.std.proofs.Common.{rules, arith, ℕ, ◌+◌, ◌^◌, ◌≤◌, ◌∙◌, refl, ap}
use Rattle.bihash_words.specs.Sizes.{sizes_of}
use Rattle.bihash_rule.specs.Words.{list_words}
use Rattle.bihash_steps.specs.Seats.{CallerState}
use Rattle.bihash_steps.specs.StoreSteps.{MayCut, halved}
use Rattle.bihash_steps.proofs.SeatCounts.{can_act, counted_next, state_next, of_seat}
use Rattle.bihash_steps.proofs.pool_steps.PoolCut.{cuts_block}
use Rattle.bihash_steps.proofs.row_and_callers.Row.pool_cut.Goals as goal

pub overflow_add-count : goal.overflow_add-count
overflow_add-count g c =
    let z = sizes_of g.S.Shape in
    let room = c.requires.may.room in
    let few = div-le_self z.pages (2 ^ c.args.log2) in
    let sound = c.self.invariant.sound.few_pages in
    let words : ℕ = list_words z c.args.log2 in let all : words ≤ z.pages = few in omega arith

pub store-requires : goal.store-requires
store-requires g c = (
  search rules,
  search rules,
  cuts_block _ _ _ _ _ _ _ _ (of_seat (λ v. MayCut (sizes_of g.S.Shape) v c.args.log2 c.args.count) c.caller.view_is c.requires.may)
      c.returned_count_at.ensures.place (refl {a = c.args.count + 1}) (can_act _ _ c.caller.invariant.1),
)

pub invariant_of-caller : goal.invariant_of-caller
invariant_of-caller g c =
    let may = of_seat (λ v. MayCut (sizes_of g.S.Shape) v c.args.log2 c.args.count) c.caller.view_is c.requires.may in
    let is = c.store.ensures.2 _ _ may.locked may.block may c.returned_count_at.ensures.place (refl {a = c.args.count + 1}) may.store may.held in
    counted_next (λ v. halved (sizes_of g.S.Shape) v may.locked may.block c.args.log2) c.caller.inside.seat.me _ _ _ is refl c.caller.invariant

pub returns : goal.returns
returns g c n h e f =
    let may = of_seat (λ v. MayCut (sizes_of g.S.Shape) v c.args.log2 c.args.count) c.caller.view_is c.requires.may in
    let is = c.store.ensures.2 _ _ n h may c.returned_count_at.ensures.place (refl {a = c.args.count + 1})
    (ap (λ (k : CallerState). k.view.holds.store) c.caller.view_is ∙ e) (ap (λ (k : CallerState). k.view.holds.block) c.caller.view_is ∙ f) in
    state_next (λ v. halved (sizes_of g.S.Shape) v n h c.args.log2) _ _ _ _ c.caller.inside.seat.me _
    c.args.caller.now c.store.ensures.0 c.store.ensures.1 is c.caller.view_is
