use Rattle.std.proofs.Common.{rules, refl, arith, ◌∙◌}
use Rattle.bihash_words.specs.Sizes.{sizes_of}
use Rattle.bihash_steps.specs.BucketSteps.{MayMark, marked, view_after_write}
use Rattle.bihash_steps.proofs.Addresses.{publishes_at}
use Rattle.bihash_steps.proofs.bucket_steps.NextWords.{next_is, version_rises, counted_write}
use Rattle.bihash_steps.proofs.SeatCounts.{entered_state, can_act, of_seat}
use Rattle.bihash_steps.proofs.row_and_callers.Row.publish.Goals as goal

pub next-next-requires-clause-page : goal.next-next-requires-clause-page
next-next-requires-clause-page g c =
    let may = c.requires.may.write in let is = c.page.ensures _ may.fits may.stood in let fits = may.fits.page in omega arith

pub next-next-requires-clause-log2 : goal.next-next-requires-clause-log2
next-next-requires-clause-log2 g c =
    let may = c.requires.may.write in let is = c.log2.ensures _ may.fits may.stood in let fits = may.fits.log2 in omega arith

pub next-next-requires-clause-version : goal.next-next-requires-clause-version
next-next-requires-clause-version g c = version_rises _ _ _ _ _ c.requires.may.write c.is_sound.ensures

pub store-requires : goal.store-requires
store-requires g c =
    let may = of_seat (λ v. MayMark (sizes_of g.S.Shape) v c.args.bucket c.args.word c.args.linear g.E.Calling.call) c.caller.view_is c.requires.may in
    let fits = may.write.fits in
    let stood = may.write.stood in (
      search rules,
      search rules,
      publishes_at _ _ _ _ _ _ _ _ _ _ may c.bucket_at.ensures.place (can_act _ _ c.caller.invariant.1)
          (c.to_word.ensures ∙ next_is (marked may.write.lock.extent c.args.linear) _ _ _ _ (c.page.ensures _ fits stood)
          (λ i. record { log2 = c.log2.ensures _ fits stood i; linear = c.args.linear })
          (c.next-next.ensures _ fits stood)),
    )

pub overflow_add-caller : goal.overflow_add-caller
overflow_add-caller g c =
    let may = c.requires.may.write in let is = c.version.ensures _ may.fits may.stood in let fits = may.fits.version in omega arith

pub invariant_of-caller : goal.invariant_of-caller
invariant_of-caller g c =
    let may = of_seat (λ v. MayMark (sizes_of g.S.Shape) v c.args.bucket c.args.word c.args.linear g.E.Calling.call) c.caller.view_is
    c.requires.may in
    counted_write (sizes_of g.S.Shape) (λ v. view_after_write v g.E.Calling.call) c.caller.inside.seat.me _ _ _ _ _ _ _ may.write c.version.ensures
    c.store.ensures.2 refl c.caller.invariant

pub returns : goal.returns
returns g c = entered_state _ (λ v. view_after_write v g.E.Calling.call) _ _ _ _ _ c.caller.inside.seat.me _ c.args.caller.now c.store.ensures.0 c.store.ensures.1
    c.caller.view_is c.store.ensures.2
