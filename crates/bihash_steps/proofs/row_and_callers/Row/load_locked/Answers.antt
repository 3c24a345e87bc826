use Rattle.std.proofs.Common.{rules, refl, ◌∙◌, ap}
use Rattle.bihash_words.specs.Sizes.{sizes_of}
use Rattle.bihash_steps.specs.Seats.{CallerState}
use Rattle.bihash_steps.specs.BucketSteps.{IsLockedWord}
use Rattle.bihash_steps.proofs.Addresses.{loads_at}
use Rattle.bihash_steps.proofs.OwnedWords.{word_of_block}
use Rattle.bihash_steps.proofs.SeatCounts.{counted_next, state_same, of_seat}
use Rattle.bihash_steps.proofs.row_and_callers.Row.load_locked.Goals as goal

pub page_at-requires-clause-inside : goal.page_at-requires-clause-inside
page_at-requires-clause-inside g c = word_of_block _ _ _ _ c.requires.word.near c.requires.word.inside

pub load-requires : goal.load-requires
load-requires g c = (
  search rules,
  search rules,
  loads_at _ _ _ _ _ _ _ c.page_at.ensures.place
      (of_seat (λ v. IsLockedWord (sizes_of g.S.Shape) v c.args.page c.args.k) c.caller.view_is c.requires.word),
)

pub invariant_of-caller : goal.invariant_of-caller
invariant_of-caller g c =
    let word = of_seat (λ v. IsLockedWord (sizes_of g.S.Shape) v c.args.page c.args.k) c.caller.view_is c.requires.word in
    let told = c.load.ensures.2 _ _ word c.page_at.ensures.place in
    counted_next (λ v. v) c.caller.inside.seat.me _ _ _ told.same refl c.caller.invariant

pub returns-clause-same : goal.returns-clause-same
returns-clause-same g c =
    let word = of_seat (λ v. IsLockedWord (sizes_of g.S.Shape) v c.args.page c.args.k) c.caller.view_is c.requires.word in
    let told = c.load.ensures.2 _ _ word c.page_at.ensures.place in
    state_same _ _ _ _ c.caller.inside.seat.me _ c.args.caller.now c.load.ensures.0 c.load.ensures.1 told.same c.caller.view_is

pub returns-clause-value : goal.returns-clause-value
returns-clause-value g c l e =
    let word = of_seat (λ v. IsLockedWord (sizes_of g.S.Shape) v c.args.page c.args.k) c.caller.view_is c.requires.word in
    (c.load.ensures.2 _ _ word c.page_at.ensures.place).value l (ap (λ (k : CallerState). k.view.holds.bucket) c.caller.view_is ∙ e)
