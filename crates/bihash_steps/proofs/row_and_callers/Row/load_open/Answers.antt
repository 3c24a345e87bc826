use Rattle.std.proofs.Common.{rules, refl, [], ◌∷◌}
use Rattle.bihash_words.specs.Sizes.{sizes_of}
use Rattle.bihash_steps.specs.BucketSteps.{IsOpenWord, with_reading}
use Rattle.bihash_steps.proofs.Addresses.{loads_open_at}
use Rattle.bihash_steps.proofs.OwnedWords.{word_of_block}
use Rattle.bihash_steps.proofs.SeatCounts.{counted_next, state_next, of_seat}
use Rattle.bihash_steps.proofs.row_and_callers.Row.load_open.Goals as goal

pub page_at-requires-clause-inside : goal.page_at-requires-clause-inside
page_at-requires-clause-inside g c = word_of_block _ _ _ _ c.requires.word.near c.requires.word.inside

pub load-requires : goal.load-requires
load-requires g c = (
  search rules,
  search rules,
  loads_open_at _ _ _ _ _ _ _ c.page_at.ensures.place
      (of_seat (λ v. IsOpenWord (sizes_of g.S.Shape) v c.args.page c.args.k) c.caller.view_is c.requires.word),
)

pub invariant_of-caller : goal.invariant_of-caller
invariant_of-caller g c =
    let word = of_seat (λ v. IsOpenWord (sizes_of g.S.Shape) v c.args.page c.args.k) c.caller.view_is c.requires.word in
    counted_next (λ v. with_reading v ((c.args.k, c.load.result) ∷ [])) c.caller.inside.seat.me _ _ _
    (c.load.ensures.2 _ _ word c.page_at.ensures.place) refl c.caller.invariant

pub returns : goal.returns
returns g c =
    let word = of_seat (λ v. IsOpenWord (sizes_of g.S.Shape) v c.args.page c.args.k) c.caller.view_is c.requires.word in
    state_next (λ v. with_reading v ((c.args.k, c.load.result) ∷ [])) _ _ _ _ c.caller.inside.seat.me _ c.args.caller.now c.load.ensures.0
    c.load.ensures.1 (c.load.ensures.2 _ _ word c.page_at.ensures.place) c.caller.view_is
