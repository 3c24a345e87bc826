use Rattle.std.proofs.Common.{rules}
use Rattle.bihash_words.specs.Sizes.{sizes_of}
use Rattle.bihash_steps.specs.BucketSteps.{MayAnswer, view_after_answer}
use Rattle.bihash_steps.proofs.Addresses.{answers_at}
use Rattle.bihash_steps.proofs.bucket_steps.NextWords.{counted_answer}
use Rattle.bihash_steps.proofs.SeatCounts.{entered_state, of_seat}
use Rattle.bihash_steps.proofs.row_and_callers.Row.cancel.Goals as goal

pub store-requires : goal.store-requires
store-requires g c = (
  search rules,
  search rules,
  rw c.to_word.ensures (answers_at _ _ _ _ _ _ _ _ c.bucket_at.ensures.place
      (of_seat (λ v. MayAnswer (sizes_of g.S.Shape) v c.args.bucket c.args.word g.E.Calling.call) c.caller.view_is c.requires.may)),
)

pub invariant_of-caller : goal.invariant_of-caller
invariant_of-caller g c =
    let may = of_seat (λ v. MayAnswer (sizes_of g.S.Shape) v c.args.bucket c.args.word g.E.Calling.call) c.caller.view_is c.requires.may in
    counted_answer (sizes_of g.S.Shape) c.caller.inside.seat.me _ _ _ _ _ _ _ may c.store.ensures.2.1 c.version.ensures
    c.store.ensures.2.0 c.caller.invariant

pub returns : goal.returns
returns g c = entered_state _ (λ v. view_after_answer v g.E.Calling.call) _ _ _ _ _ c.caller.inside.seat.me _ c.args.caller.now c.store.ensures.0 c.store.ensures.1
    c.caller.view_is c.store.ensures.2.0
