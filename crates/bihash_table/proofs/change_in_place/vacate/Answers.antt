use Rattle.std.proofs.Common.{◌∙◌, Some, ap, arith, sym}
use Rattle.bihash_words.specs.Sizes.{sizes_of}
use Rattle.bihash_words.specs.declared.patch.Change.TheVariants.{Remove}
use Rattle.bihash_steps.specs.Seats.{CallerState}
use Rattle.bihash_rule.specs.declared.view.Holdings.{Holdings}
use Rattle.bihash_table.specs.Answers.{locks_of}
use Rattle.bihash_table.proofs.PlaceWrites.{may_remove, removed, value_is_stored}
use Rattle.bihash_table.proofs.LockCounts.{locks_pushed}
use Rattle.bihash_table.proofs.SameCallers.{entered_as, own_through, same_but_view, same_through}
use Rattle.bihash_table.proofs.StoredWords.{holds_place}
use Rattle.bihash_table.proofs.Tries.{finished_write}
use Rattle.bihash_table.proofs.change_in_place.vacate.Goals as goal

pub store_word-requires : goal.store_word-requires
store_word-requires g c = let h = c.requires in record {
  own = h.own;
  held = holds_place (sizes_of g.S.Shape) c.args.seat.now.view c.args.seen.now.hashed.bucket c.args.seen.now.word h.lock h.has
      c.args.pair.0 h.told.0.pair.0;
  inside = let same = c.WORDS.ensures in omega arith;
}

pub publish-requires-clause-at : goal.publish-requires-clause-at
publish-requires-clause-at g c =
    let h = c.requires in
    record { own = own_through c.args.seat.now _ _ (c.store_word.ensures h.lock (ap (λ (k : Holdings). k.bucket) h.has.held)) h.own; inside = h.has.inside }

pub publish-requires-clause-may : goal.publish-requires-clause-may
publish-requires-clause-may g c =
    let z = sizes_of g.S.Shape in
    let hashed = c.args.seen.now.hashed in
    let h = c.requires in
    let step = c.store_word.ensures h.lock (ap (λ (k : Holdings). k.bucket) h.has.held) in
    may_remove z c.args.seat.now.view hashed.bucket c.args.seen.now.word h.lock h.has
    (g.S.Shape.words_of hashed.key.now) hashed.counted (sym hashed.home) h.unworn
    c.args.pair.0 c.args.pair.1 h.told.0 h.told.1.0 h.told.1.1 h.told.1.2 c.store_word.new.seat.view
    (value_is_stored z c.args.seat.now c.store_word.new.seat h.lock c.args.pair.0 _ c.WORDS.result c.WORDS.ensures step)
    c.linear.result c.linear.ensures

pub returns-clause-told : goal.returns-clause-told
returns-clause-told g c =
    let z = sizes_of g.S.Shape in
    let hashed = c.args.seen.now.hashed in
    let h = c.requires in
    let step = c.store_word.ensures h.lock (ap (λ (k : Holdings). k.bucket) h.has.held) in
    let done = entered_as c.publish.ensures in
    finished_write g.S.Shape c.args.seat.now c.publish.new.caller hashed.key.now (Some c.args.pair.1) Remove
    (same_through c.args.seat.now c.store_word.new.seat c.publish.new.caller _ (same_but_view c.args.seat.now c.store_word.new.seat _ step) done)
    c.publish.ensures.lawful
    (locks_pushed _ _ _ (ap (λ (k : CallerState). k.view.records) done) ∙ ap (λ (k : CallerState). locks_of k.view.records) step)
    (removed z c.args.seat.now.view hashed.bucket c.args.seen.now.word h.lock h.has
    (g.S.Shape.words_of hashed.key.now) hashed.counted (sym hashed.home) h.unworn
    c.args.pair.0 c.args.pair.1 h.told.0 h.told.1.0 h.told.1.1 h.told.1.2 c.store_word.new.seat.view
    (value_is_stored z c.args.seat.now c.store_word.new.seat h.lock c.args.pair.0 _ c.WORDS.result c.WORDS.ensures step)
    c.publish.new.caller.view c.publish.ensures.entered)
