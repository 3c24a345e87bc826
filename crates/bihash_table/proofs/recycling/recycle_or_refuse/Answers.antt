use Rattle.std.proofs.Common.{◌≡◌, ◌∙◌, ◌/◌, ◌==◌, None, Err, ap, arith, length, not, sym}
use Rattle.std.specs.Prelude.{◌||◌}
use Rattle.std.proofs.lemmas.Option.{get_or_from_slice_get}
use Rattle.bihash_words.specs.Pages.{page_of, paging_of}
use Rattle.bihash_words.specs.Sizes.{sizes_of}
use Rattle.bihash_words.specs.declared.block_size.BlockSize.{BlockSize}
use Rattle.bihash_words.specs.declared.patch.Change.TheVariants.{Set}
use Rattle.bihash_plan.proofs.Places.{pair_inside}
use Rattle.bihash_rule.specs.Blocks.{places}
use Rattle.bihash_rule.specs.Histories.{bounds_of}
use Rattle.bihash_table.proofs.Bridge.{sized}
use Rattle.bihash_table.proofs.PairReads.{pair_value}
use Rattle.bihash_table.proofs.OpenPlaces.{word_tells}
use Rattle.bihash_table.proofs.ExpiredPairs.{none_goes, refuses, spare_for}
use Rattle.bihash_table.proofs.OpenReadLemmas.{word_notes}
use Rattle.bihash_table.proofs.SeenBuckets.{seen_as}
use Rattle.bihash_table.proofs.StoreLemmas.{linear_is, log2_is}
use Rattle.bihash_table.proofs.Tries.{over, over_locked, tried_not, under_lock}
use Rattle.bihash_table.proofs.recycling.recycle_or_refuse.Goals as goal

pub recycle-requires : goal.recycle-requires
recycle-requires g c =
    let z = sizes_of g.S.Shape in
    let h = c.requires.seen.seen in
    let e = h.extent in
    let tells = word_notes z c.args.seat.now.view c.args.seen.now.word e h.block in
    let log2_at = log2_is z c.args.seen.now.word e tells c.block_size-size.result.log2
    (λ x fits is. ap (λ (s : BlockSize). s.log2) (c.block_size-size.ensures x fits is)) in
    record {
      pages = record { shape = c.is_sound.ensures; small = omega (arith, tells.small, log2_at) };
      sized = sized e.page c.block_size-size.result.log2 (length c.args.places.now)
          (c.requires.count ∙ ap (places e.page) (sym log2_at));
    }

pub refuse_to_recycle-requires : goal.refuse_to_recycle-requires
refuse_to_recycle-requires g c =
    let z = sizes_of g.S.Shape in
    let h = c.requires.seen in
    let e = h.seen.extent in
    let block = h.seen.block.open_bucket.block in
    let key = c.args.seen.now.hashed.key.now in record {
      own = c.requires.own;
      seen = seen_as z _ _ _ h (λ told m pairs. (
        m,
        refuses (bounds_of z) m _ (g.S.Shape.words_of key) c.args.entrant.now.value
            (g.E.Expiry.is_expired c.args.entrant.now.expiry.now) c.requires.unworn (told.2 m pairs)
            (sym (pair_value z e block (g.S.Shape.words_of key) m None told.0.0 pairs))
            (none_goes g.S.Shape e block c.args.places.now told.1 told.3 key
            (g.E.Expiry.is_expired c.args.entrant.now.expiry.now) m pairs c.in_default.ensures.none),
      ));
    }

pub returns-then-not-lock_if_unchanged-clause-told : goal.returns-then-not-lock_if_unchanged-clause-told
returns-then-not-lock_if_unchanged-clause-told g c = over g.S.Shape _ _ _ _ _ _ (Err _)
    (tried_not g.S.Shape _ _ _ _ _ _ (sym c.args.seen.now.hashed.home) _ c.lock_if_unchanged.ensures c.if-not-lock_if_unchanged.true)

pub offset_bounds-places-spare : goal.offset_bounds-places-spare
offset_bounds-places-spare g c = let inside = pair_inside c.in-Some.ensures.place.pair in omega arith

pub bounds-places-spare : goal.bounds-places-spare
bounds-places-spare g c = pair_inside c.in-Some.ensures.place.pair

pub recycle_place-requires : goal.recycle_place-requires
recycle_place-requires g c =
    let z = sizes_of g.S.Shape in
    let hashed = c.args.seen.now.hashed in
    let word = c.args.seen.now.word in
    let u = c.lock_if_unchanged.new.seat in
    let h = c.requires in
    let r = c.in-Some.spare in
    let least = c.in-Some.ensures.place in
    let k = c.lock_if_unchanged.ensures.locked c.if-not-lock_if_unchanged.false in
    let e = k.locked.lock.extent in
    let size = c.block_size-size.result in
    let tells = word_tells z u.view hashed.bucket word k.locked.lock k.locked.has in
    let log2_at : size.log2 ≡ e.size.log2 = log2_is z word e tells size.log2
    (λ x fits is. ap (λ (s : BlockSize). s.log2) (c.block_size-size.ensures x fits is)) in
    let linear_at : size.linear ≡ e.size.linear = linear_is z word e tells size.linear
    (λ x fits is. ap (λ (s : BlockSize). s.linear) (c.block_size-size.ensures x fits is)) in
    under_lock g.S.Shape c.args.seat.now u c.args.seen.now (Set c.args.entrant.now.value) h.own h.unworn h.storable h.seen
    c.lock_if_unchanged.ensures c.if-not-lock_if_unchanged.false (λ told. (
      told.0.0,
      told.2,
      spare_for g.S.Shape e k.locked.lock.now c.args.places.now told.1 told.3 hashed.key.now
          (g.E.Expiry.is_expired c.args.entrant.now.expiry.now) r _ least
          (c.in-Some.ensures.mark
          ∙ (λ i. linear_at i || not (r.place / 4 == page_of (paging_of g.S.Shape) (log2_at i) hashed.key.now)))
          (ap (λ p. p.0) (get_or_from_slice_get c.args.places.now r.place (least.key, least.value) c.index-places-spare.result least.pair.at)),
    ))

pub returns-clause-told : goal.returns-clause-told
returns-clause-told g c =
    let hashed = c.args.seen.now.hashed in
    over_locked g.S.Shape c.args.seat.now c.lock_if_unchanged.new.seat c.recycle_place.new.seat hashed.bucket c.args.seen.now.word hashed.key.now None
    (Set c.args.entrant.now.value) (g.E.Expiry.is_expired c.args.entrant.now.expiry.now) c.lock_if_unchanged.ensures c.if-not-lock_if_unchanged.false
    (sym hashed.home) c.recycle_place.result c.recycle_place.ensures.told
