use Rattle.std.proofs.Common.{rules, refl, ◌∙◌, ap, Some}
use Rattle.bihash_words.specs.Sizes.{sizes_of}
use Rattle.bihash_steps.specs.Seats.{CallerState}
use Rattle.bihash_steps.specs.BucketSteps.{IsLockedWord, with_lock, stored_in}
use Rattle.bihash_steps.proofs.Addresses.{stores_at}
use Rattle.bihash_steps.proofs.OwnedWords.{word_of_block}
use Rattle.bihash_steps.proofs.SeatCounts.{counted_next, state_next, of_seat}
use Rattle.bihash_steps.proofs.row_and_callers.Row.store_locked.Goals as goal

pub page_at-requires-clause-inside : goal.page_at-requires-clause-inside
page_at-requires-clause-inside g c = word_of_block _ _ _ _ c.requires.word.near c.requires.word.inside

pub store-requires : goal.store-requires
store-requires g c = (
  search rules,
  search rules,
  stores_at _ _ _ _ _ _ _ _ c.page_at.ensures.place
      (of_seat (λ v. IsLockedWord (sizes_of g.S.Shape) v c.args.page c.args.k) c.caller.view_is c.requires.word),
)

pub invariant_of-caller : goal.invariant_of-caller
invariant_of-caller g c =
    let word = of_seat (λ v. IsLockedWord (sizes_of g.S.Shape) v c.args.page c.args.k) c.caller.view_is c.requires.word in
    let is = c.store.ensures.2 _ _ word c.page_at.ensures.place word.lock word.held in
    counted_next (λ v. with_lock v (Some (stored_in word.lock c.args.k c.args.word))) c.caller.inside.seat.me _ _ _
    is refl c.caller.invariant

pub returns : goal.returns
returns g c l e =
    let word = of_seat (λ v. IsLockedWord (sizes_of g.S.Shape) v c.args.page c.args.k) c.caller.view_is c.requires.word in
    let is = c.store.ensures.2 _ _ word c.page_at.ensures.place l (ap (λ (k : CallerState). k.view.holds.bucket) c.caller.view_is ∙ e) in
    state_next (λ v. with_lock v (Some (stored_in l c.args.k c.args.word))) _ _ _ _ c.caller.inside.seat.me _ c.args.caller.now c.store.ensures.0
    c.store.ensures.1 is c.caller.view_is
