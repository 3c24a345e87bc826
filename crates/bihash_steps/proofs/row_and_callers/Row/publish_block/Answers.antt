use Rattle.std.proofs.Common.{rules, false, arith, refl}
use Rattle.std.proofs.lemmas.Nat.{pow_pos}
use Rattle.bihash_words.specs.Sizes.{sizes_of}
use Rattle.bihash_rule.specs.Buckets.{word_of}
use Rattle.bihash_steps.specs.StoreSteps.{MayReplace, view_after_replace}
use Rattle.bihash_steps.proofs.Addresses.{replaces_at}
use Rattle.bihash_steps.proofs.bucket_steps.NextWords.{version_rises, counted_write}
use Rattle.bihash_steps.proofs.SeatCounts.{entered_state, can_act, of_seat}
use Rattle.bihash_steps.proofs.row_and_callers.Row.publish_block.Goals as goal

pub next-next-requires-clause-page : goal.next-next-requires-clause-page
next-next-requires-clause-page g c =
    let near = c.requires.may.near in let few = c.self.invariant.sound.few_pages in let some = pow_pos c.args.extent.size.log2 in omega arith

pub next-next-requires-clause-log2 : goal.next-next-requires-clause-log2
next-next-requires-clause-log2 g c =
    let small = c.requires.may.pairs.rule.small in let few = c.self.invariant.sound.few_buckets in omega arith

pub next-next-requires-clause-version : goal.next-next-requires-clause-version
next-next-requires-clause-version g c = version_rises _ _ _ _ _ c.requires.may.write c.self.invariant.sound

pub store-requires : goal.store-requires
store-requires g c =
    let may = of_seat (λ v. MayReplace (sizes_of g.S.Shape) v c.args.bucket c.args.word c.args.extent g.E.Calling.call) c.caller.view_is
    c.requires.may in (
      search rules,
      search rules,
      rw c.to_word.ensures (replaces_at (sizes_of g.S.Shape) _ _ _ c.args.bucket c.args.word c.next-next.result c.args.extent
          g.E.Calling.call c.caller.inside.seat.me may c.bucket_at.ensures.place (can_act _ _ c.caller.invariant.1)
          (c.next-next.ensures (word_of may.write.lock.extent false may.write.lock.version) may.write.fits may.write.stood)),
    )

pub overflow_add-caller : goal.overflow_add-caller
overflow_add-caller g c =
    let may = c.requires.may.write in let is = c.version.ensures _ may.fits may.stood in let fits = may.fits.version in omega arith

pub invariant_of-caller : goal.invariant_of-caller
invariant_of-caller g c =
    let may = of_seat (λ v. MayReplace (sizes_of g.S.Shape) v c.args.bucket c.args.word c.args.extent g.E.Calling.call) c.caller.view_is
    c.requires.may in
    counted_write (sizes_of g.S.Shape) (λ v. view_after_replace v g.E.Calling.call) c.caller.inside.seat.me _ _ _ _ _ _ _ may.write c.version.ensures
    c.store.ensures.2 refl c.caller.invariant

pub returns : goal.returns
returns g c = entered_state _ (λ v. view_after_replace v g.E.Calling.call) _ _ _ _ _ c.caller.inside.seat.me _ c.args.caller.now c.store.ensures.0 c.store.ensures.1
    c.caller.view_is c.store.ensures.2
