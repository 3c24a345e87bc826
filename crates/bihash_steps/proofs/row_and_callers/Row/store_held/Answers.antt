use Rattle.std.proofs.Common.{rules, refl, ◌∙◌, ap, Some}
use Rattle.bihash_words.specs.Sizes.{sizes_of}
use Rattle.bihash_steps.specs.Seats.{CallerState}
use Rattle.bihash_steps.specs.StoreSteps.{IsHeldWord, holding, stored_at}
use Rattle.bihash_steps.proofs.Addresses.{stores_held_at}
use Rattle.bihash_steps.proofs.OwnedWords.{word_of_block}
use Rattle.bihash_steps.proofs.SeatCounts.{can_act, counted_next, state_next, of_seat}
use Rattle.bihash_steps.proofs.row_and_callers.Row.store_held.Goals as goal

pub page_at-requires-clause-inside : goal.page_at-requires-clause-inside
page_at-requires-clause-inside g c = word_of_block _ _ _ _ c.requires.word.near c.requires.word.inside

pub store-requires : goal.store-requires
store-requires g c = (
  search rules,
  search rules,
  stores_held_at _ _ _ _ _ _ _ _ c.page_at.ensures.place
      (of_seat (λ v. IsHeldWord (sizes_of g.S.Shape) v c.args.page c.args.k) c.caller.view_is c.requires.word) (can_act _ _ c.caller.invariant.1),
)

pub invariant_of-caller : goal.invariant_of-caller
invariant_of-caller g c =
    let word = of_seat (λ v. IsHeldWord (sizes_of g.S.Shape) v c.args.page c.args.k) c.caller.view_is c.requires.word in
    let is = c.store.ensures.2 _ _ word.block word c.page_at.ensures.place word.held in
    counted_next (λ v. holding v v.holds.store (Some (stored_at word.block c.args.k c.args.word))) c.caller.inside.seat.me _ _ _
    is refl c.caller.invariant

pub returns : goal.returns
returns g c h e =
    let word = of_seat (λ v. IsHeldWord (sizes_of g.S.Shape) v c.args.page c.args.k) c.caller.view_is c.requires.word in
    let is = c.store.ensures.2 _ _ h word c.page_at.ensures.place (ap (λ (k : CallerState). k.view.holds.block) c.caller.view_is ∙ e) in
    state_next (λ v. holding v v.holds.store (Some (stored_at h c.args.k c.args.word))) _ _ _ _ c.caller.inside.seat.me _ c.args.caller.now
    c.store.ensures.0 c.store.ensures.1 is c.caller.view_is
