use Rattle.std.proofs.Common.{◌∙◌, None, ap, arith, refl, sym}
use Rattle.bihash_words.specs.Sizes.{sizes_of}
use Rattle.bihash_words.specs.declared.patch.Change.TheVariants.{Set}
use Rattle.bihash_steps.specs.BucketSteps.{map_now}
use Rattle.bihash_rule.specs.declared.view.View.{View}
use Rattle.bihash_steps.specs.Seats.{CallerState}
use Rattle.bihash_table.specs.Answers.{locks_of}
use Rattle.bihash_table.proofs.PlaceWrites.{filled, may_fill, value_is_stored}
use Rattle.bihash_table.proofs.PairReads.{pair_value}
use Rattle.bihash_table.proofs.LockCounts.{locks_pushed}
use Rattle.bihash_table.proofs.SameCallers.{entered_as, own_through, same_through}
use Rattle.bihash_table.proofs.StoredWords.{holds_stored, store_told}
use Rattle.bihash_table.proofs.Tries.{finished_write}
use Rattle.bihash_table.proofs.change_in_place.fill.Goals as goal

pub store_key-requires : goal.store_key-requires
store_key-requires g c = let h = c.requires in record { own = h.own; lock = h.lock; has = h.has; inside = h.told.1.inside }

pub store_word-requires : goal.store_word-requires
store_word-requires g c = let h = c.requires in record {
  own = own_through c.args.seat.now _ _ c.store_key.ensures.same h.own;
  held = holds_stored (sizes_of g.S.Shape) c.args.seat.now.view c.args.seen.now.hashed.bucket c.args.seen.now.word h.lock h.has
      c.store_key.new.seat.view c.args.place h.told.1.inside (g.S.Shape.words_of c.args.seen.now.hashed.key.now) g.S.Shape.WORDS
      (c.store_key.ensures.stored h.lock h.has);
  inside = let same = c.WORDS.ensures in omega arith;
}

pub publish-requires-clause-at : goal.publish-requires-clause-at
publish-requires-clause-at g c =
    let z = sizes_of g.S.Shape in let v = c.args.seat.now.view in let hashed = c.args.seen.now.hashed in
    let h = c.requires in
    let k = c.store_key.ensures.stored h.lock h.has in
    let step = store_told z v hashed.bucket c.args.seen.now.word h.lock h.has c.store_key.new.seat.view c.args.place h.told.1.inside _ _ k
    c.store_key.new.seat c.store_word.new.seat refl _ _ c.store_word.ensures in
    record { own = own_through c.store_key.new.seat _ _ step (own_through c.args.seat.now _ _ c.store_key.ensures.same h.own); inside = h.has.inside }

pub publish-requires-clause-may : goal.publish-requires-clause-may
publish-requires-clause-may g c =
    let z = sizes_of g.S.Shape in let v = c.args.seat.now.view in let hashed = c.args.seen.now.hashed in
    let h = c.requires in
    let k = c.store_key.ensures.stored h.lock h.has in
    let step = store_told z v hashed.bucket c.args.seen.now.word h.lock h.has c.store_key.new.seat.view c.args.place h.told.1.inside _ _ k
    c.store_key.new.seat c.store_word.new.seat refl _ _ c.store_word.ensures in
    may_fill z v hashed.bucket c.args.seen.now.word h.lock h.has (g.S.Shape.words_of hashed.key.now) hashed.counted (sym hashed.home) h.unworn
    c.args.place c.args.value h.told.1
    (sym (pair_value z h.lock.extent h.lock.now (g.S.Shape.words_of hashed.key.now) (map_now v hashed.bucket) None h.told.0 h.has.pairs))
    h.storable c.store_key.new.seat.view k c.store_word.new.seat.view
    (value_is_stored z c.store_key.new.seat c.store_word.new.seat (record h.lock { now = k.now; stored = k.stored })
    c.args.place c.args.value c.WORDS.result c.WORDS.ensures step)
    c.linear.result c.linear.ensures

pub returns-clause-told : goal.returns-clause-told
returns-clause-told g c =
    let z = sizes_of g.S.Shape in let v = c.args.seat.now.view in let hashed = c.args.seen.now.hashed in
    let h = c.requires in
    let k = c.store_key.ensures.stored h.lock h.has in
    let step = store_told z v hashed.bucket c.args.seen.now.word h.lock h.has c.store_key.new.seat.view c.args.place h.told.1.inside _ _ k
    c.store_key.new.seat c.store_word.new.seat refl _ _ c.store_word.ensures in
    let done = entered_as c.publish.ensures in
    finished_write g.S.Shape c.args.seat.now c.publish.new.caller hashed.key.now None (Set c.args.value)
    (same_through c.args.seat.now c.store_word.new.seat c.publish.new.caller _
    (same_through c.args.seat.now c.store_key.new.seat c.store_word.new.seat _ c.store_key.ensures.same step) done)
    c.publish.ensures.lawful
    (locks_pushed _ _ _ (ap (λ (c : CallerState). c.view.records) done)
    ∙ (ap (λ (c : CallerState). locks_of c.view.records) step ∙ ap (λ (v : View). locks_of v.records) k.is))
    (filled z v hashed.bucket c.args.seen.now.word h.lock h.has (g.S.Shape.words_of hashed.key.now) hashed.counted (sym hashed.home) h.unworn
    c.args.place c.args.value h.told.1
    (sym (pair_value z h.lock.extent h.lock.now (g.S.Shape.words_of hashed.key.now) (map_now v hashed.bucket) None h.told.0 h.has.pairs))
    h.storable c.store_key.new.seat.view k c.store_word.new.seat.view
    (value_is_stored z c.store_key.new.seat c.store_word.new.seat (record h.lock { now = k.now; stored = k.stored })
    c.args.place c.args.value c.WORDS.result c.WORDS.ensures step)
    c.publish.new.caller.view c.publish.ensures.entered)
