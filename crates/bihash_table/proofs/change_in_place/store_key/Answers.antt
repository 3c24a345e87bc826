use Rattle.std.proofs.Common.{◌≡◌, ◌∙◌, ◌+◌, ◌*◌, ◌<◌, ℕ, Some, arith, refl, subst, sym}
use Rattle.std.specs.Prelude.{slice_index}
use Rattle.bihash_words.specs.Sizes.{sizes_of}
use Rattle.bihash_rule.specs.Words.{place_words}
use Rattle.bihash_rule.specs.Blocks.{places}
use Rattle.bihash_steps.specs.BucketSteps.{with_lock, stored_in}
use Rattle.bihash_steps.specs.Seats.{CallerState, with_view}
use Rattle.bihash_rule.specs.declared.view.LockedBucket.{LockedBucket}
use Rattle.bihash_table.specs.inner.Stores.{HasStored, HoldsWord}
use Rattle.bihash_table.proofs.PlaceReads.{same_lock}
use Rattle.bihash_table.proofs.SameCallers.{own_through, same_through}
use Rattle.bihash_table.proofs.StoredWords.{held_now, holds_stored, stored_more, stored_none, stored_same, view_stored}
use Rattle.bihash_table.proofs.change_in_place.store_key.Goals as goal

pub word_before_change-requires : goal.word_before_change-requires
word_before_change-requires g c =
    let h = c.requires in let key = g.S.Shape.words_of c.args.seen.now.hashed.key.now in
    record {
      own = own_through c.args.seat.now _ _ c.loop-i.invariant.0 c.requires.own;
      held = holds_stored (sizes_of g.S.Shape) c.args.seat.now.view c.args.seen.now.hashed.bucket c.args.seen.now.word h.lock h.has
          c.loop-i.seat.view c.args.place h.inside key c.loop-i.i (c.loop-i.invariant.1 h.lock h.has);
      inside = let below = c.loop-i-test.true in let same = c.WORDS-i-end.ensures in omega arith;
    }

pub store_word-requires : goal.store_word-requires
store_word-requires g c =
    let z = sizes_of g.S.Shape in
    let h = c.requires in let key = g.S.Shape.words_of c.args.seen.now.hashed.key.now in
    subst (λ (s : CallerState). HoldsWord z c.args.row.now s c.args.seen.now.word c.args.place c.loop-i.i) (sym c.word_before_change.ensures.same)
    record {
      own = own_through c.args.seat.now _ _ c.loop-i.invariant.0 c.requires.own;
      held = holds_stored z c.args.seat.now.view c.args.seen.now.hashed.bucket c.args.seen.now.word h.lock h.has c.loop-i.seat.view
          c.args.place h.inside key c.loop-i.i (c.loop-i.invariant.1 h.lock h.has);
      inside = let below = c.loop-i-test.true in let same = c.WORDS-i-end.ensures in omega arith;
    }

pub loop-i-init : goal.loop-i-init
loop-i-init g c = (
  refl,
  λ lock has. stored_none (sizes_of g.S.Shape) c.args.seat.now.view c.args.seen.now.hashed.bucket c.args.seen.now.word lock has c.args.place
      (g.S.Shape.words_of c.args.seen.now.hashed.key.now),
)

pub loop-i-preserved-then-word_before_change-part : goal.loop-i-preserved-then-word_before_change-part
loop-i-preserved-then-word_before_change-part g c =
    let z = sizes_of g.S.Shape in let v = c.args.seat.now.view in let w = c.loop-i.seat.view in
    let key = g.S.Shape.words_of c.args.seen.now.hashed.key.now in let b = c.args.seen.now.hashed.bucket in
    let word = c.args.seen.now.word in let i = c.args.place in
    let back = sym c.word_before_change.ensures.same in (
      subst (λ (s : CallerState). s ≡ with_view c.args.seat.now s.view) back c.loop-i.invariant.0,
      λ lock has.
          let inside : i < places lock.extent.page lock.extent.size.log2 =
          subst (λ (l : LockedBucket). i < places l.extent.page l.extent.size.log2)
          (same_lock z v b word c.requires.lock lock c.requires.has has) c.requires.inside in
          let h = c.loop-i.invariant.1 lock has in
          subst (λ (s : CallerState). HasStored z v s.view lock i key (c.loop-i.i + 1)) back
          (stored_same z v b word lock has w i inside key c.loop-i.i h c.word_before_change.result
          (c.word_before_change.ensures.value (record lock { now = h.now; stored = h.stored }) (held_now z v b word lock has w i inside key c.loop-i.i h))
          (c.if-word_before_change-part.true ∙ c.word-part.ensures.word)),
    )

pub loop-i-preserved : goal.loop-i-preserved
loop-i-preserved g c =
    let z = sizes_of g.S.Shape in let v = c.args.seat.now.view in let w = c.loop-i.seat.view in
    let key = g.S.Shape.words_of c.args.seen.now.hashed.key.now in let b = c.args.seen.now.hashed.bucket in
    let word = c.args.seen.now.word in let i = c.args.place in
    let own = c.requires in let mine = c.loop-i.invariant.1 own.lock own.has in
    let small : c.loop-i.i < g.S.Shape.WORDS =
    let below = c.loop-i-test.true in let same = c.WORDS-i-end.ensures in omega arith in
    let at : ℕ = i * place_words z + c.loop-i.i in
    let stores = subst (λ (s : CallerState). (l : LockedBucket) → s.view.holds.bucket ≡ Some l
    → c.store_word.new.seat ≡ with_view s (with_lock s.view (Some (stored_in l at c.word-part.result)))) c.word_before_change.ensures.same
    c.store_word.ensures in (
      same_through c.args.seat.now c.loop-i.seat c.store_word.new.seat _ c.loop-i.invariant.0
          (stores _ (held_now z v b word own.lock own.has w i own.inside key c.loop-i.i mine)),
      λ lock has.
          let inside : i < places lock.extent.page lock.extent.size.log2 =
          subst (λ (l : LockedBucket). i < places l.extent.page l.extent.size.log2) (same_lock z v b word own.lock lock own.has has) own.inside in
          let h = c.loop-i.invariant.1 lock has in
          let now : LockedBucket = record lock { now = h.now; stored = h.stored } in
          stored_more z v b word lock has w i inside key c.loop-i.i h c.store_word.new.seat.view small
          (view_stored c.loop-i.seat c.store_word.new.seat now at at c.word-part.result (slice_index key c.loop-i.i) refl
          c.word-part.ensures.word (stores now (held_now z v b word lock has w i inside key c.loop-i.i h))),
    )
