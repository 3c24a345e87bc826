use Rattle.std.proofs.Common.{◌∙◌, ap, arith, refl, sym}
use Rattle.bihash_words.specs.Sizes.{sizes_of}
use Rattle.bihash_steps.specs.Seats.{CallerState}
use Rattle.bihash_rule.specs.declared.view.View.{View}
use Rattle.bihash_table.specs.Answers.{locks_of}
use Rattle.bihash_table.proofs.PlaceWrites.{value_is_stored}
use Rattle.bihash_table.proofs.LockCounts.{locks_pushed}
use Rattle.bihash_table.proofs.ExpiredPairs.{finished_recycled, may_recycle, recycled}
use Rattle.bihash_table.proofs.SameCallers.{entered_as, own_through, same_through}
use Rattle.bihash_table.proofs.StoredWords.{holds_stored, store_told}
use Rattle.bihash_table.proofs.recycling.recycle_place.Goals as goal

pub store_key-requires : goal.store_key-requires
store_key-requires g c = let h = c.requires in record { own = h.own; lock = h.lock; has = h.has; inside = h.told.2.pair.pair.0 }

pub store_word-requires : goal.store_word-requires
store_word-requires g c = let h = c.requires in record {
  own = own_through c.args.seat.now _ _ c.store_key.ensures.same h.own;
  held = holds_stored (sizes_of g.S.Shape) c.args.seat.now.view c.args.seen.now.hashed.bucket c.args.seen.now.word h.lock h.has
      c.store_key.new.seat.view c.args.going.now.place h.told.2.pair.pair.0 (g.S.Shape.words_of c.args.seen.now.hashed.key.now) g.S.Shape.WORDS
      (c.store_key.ensures.stored h.lock h.has);
  inside = let same = c.WORDS.ensures in omega arith;
}

pub publish-requires-clause-at : goal.publish-requires-clause-at
publish-requires-clause-at g c =
    let z = sizes_of g.S.Shape in let v = c.args.seat.now.view in let hashed = c.args.seen.now.hashed in
    let h = c.requires in
    let k = c.store_key.ensures.stored h.lock h.has in
    let step = store_told z v hashed.bucket c.args.seen.now.word h.lock h.has c.store_key.new.seat.view c.args.going.now.place h.told.2.pair.pair.0 _ _ k
    c.store_key.new.seat c.store_word.new.seat refl _ _ c.store_word.ensures in
    record { own = own_through c.store_key.new.seat _ _ step (own_through c.args.seat.now _ _ c.store_key.ensures.same h.own); inside = h.has.inside }

pub publish-requires-clause-may : goal.publish-requires-clause-may
publish-requires-clause-may g c =
    let z = sizes_of g.S.Shape in let v = c.args.seat.now.view in let hashed = c.args.seen.now.hashed in
    let h = c.requires in
    let k = c.store_key.ensures.stored h.lock h.has in
    let step = store_told z v hashed.bucket c.args.seen.now.word h.lock h.has c.store_key.new.seat.view c.args.going.now.place h.told.2.pair.pair.0 _ _ k
    c.store_key.new.seat c.store_word.new.seat refl _ _ c.store_word.ensures in
    may_recycle z v hashed.bucket c.args.seen.now.word h.lock h.has (g.S.Shape.words_of hashed.key.now) hashed.counted (sym hashed.home) h.unworn
    (g.S.Shape.words_of c.args.going.now.key.now) (g.E.Expiry.is_expired c.args.entrant.now.expiry.now) c.args.going.now.linear
    c.args.going.now.place c.args.entrant.now.value h.told h.storable c.store_key.new.seat.view k c.store_word.new.seat.view
    (value_is_stored z c.store_key.new.seat c.store_word.new.seat (record h.lock { now = k.now; stored = k.stored })
    c.args.going.now.place c.args.entrant.now.value c.WORDS.result c.WORDS.ensures step)

pub returns-clause-told : goal.returns-clause-told
returns-clause-told g c =
    let z = sizes_of g.S.Shape in let v = c.args.seat.now.view in let hashed = c.args.seen.now.hashed in
    let h = c.requires in
    let k = c.store_key.ensures.stored h.lock h.has in
    let step = store_told z v hashed.bucket c.args.seen.now.word h.lock h.has c.store_key.new.seat.view c.args.going.now.place h.told.2.pair.pair.0 _ _ k
    c.store_key.new.seat c.store_word.new.seat refl _ _ c.store_word.ensures in
    let done = entered_as c.publish.ensures in
    finished_recycled g.S.Shape c.args.seat.now c.publish.new.caller hashed.key.now c.args.entrant.now.value
    (g.E.Expiry.is_expired c.args.entrant.now.expiry.now) (g.S.Shape.words_of c.args.going.now.key.now)
    h.told.2.value h.told.2.expired
    (same_through c.args.seat.now c.store_word.new.seat c.publish.new.caller _
    (same_through c.args.seat.now c.store_key.new.seat c.store_word.new.seat _ c.store_key.ensures.same step) done)
    c.publish.ensures.lawful
    (locks_pushed _ _ _ (ap (λ (c : CallerState). c.view.records) done)
    ∙ (ap (λ (c : CallerState). locks_of c.view.records) step ∙ ap (λ (v : View). locks_of v.records) k.is))
    (recycled z v hashed.bucket c.args.seen.now.word h.lock h.has (g.S.Shape.words_of hashed.key.now) hashed.counted (sym hashed.home) h.unworn
    (g.S.Shape.words_of c.args.going.now.key.now) (g.E.Expiry.is_expired c.args.entrant.now.expiry.now) c.args.going.now.linear
    c.args.going.now.place c.args.entrant.now.value h.told h.storable c.store_key.new.seat.view k c.store_word.new.seat.view
    (value_is_stored z c.store_key.new.seat c.store_word.new.seat (record h.lock { now = k.now; stored = k.stored })
    c.args.going.now.place c.args.entrant.now.value c.WORDS.result c.WORDS.ensures step)
    c.publish.new.caller.view c.publish.ensures.entered)
