use Rattle.std.proofs.Common.{◌≡◌, ◌≤◌, ◌∙◌, ◌^◌, Some, Ok, Err, ap, arith, length, length-take, length-take-le, pow_mono, refl, subst, sym}
use Rattle.bihash_words.specs.Sizes.{sizes_of}
use Rattle.bihash_words.specs.declared.patch.Change.TheVariants.{Remove}
use Rattle.bihash_rule.specs.Blocks.{places}
use Rattle.bihash_steps.specs.BucketSteps.{map_now}
use Rattle.bihash_table.specs.inner.Scans.{CountsPlaces}
use Rattle.bihash_table.proofs.Bridge.{AreKeyWords, sized}
use Rattle.bihash_table.proofs.BlockPlans.{places_read}
use Rattle.bihash_table.proofs.KeptPairs.{another, kept_block, kept_lawful, smaller_fits}
use Rattle.bihash_table.proofs.OpenReadLemmas.{may_read, names_block, word_notes}
use Rattle.bihash_table.proofs.SameCallers.{own_through}
use Rattle.bihash_table.proofs.SeenBuckets.{seen_as, seen_more, told_locked}
use Rattle.bihash_table.proofs.StoreLemmas.{log2_is}
use Rattle.bihash_table.proofs.Tries.{tried_locked, tried_not, tried_read, under_lock, unworn_read}
use Rattle.bihash_table.proofs.shrinking.remove_by_plan.Goals as goal

pub place_count-requires : goal.place_count-requires
place_count-requires g c = names_block c.is_sound.ensures (may_read {s = c.args.seat.now} c.requires.wants.own c.requires.wants.seen.seen)

pub read_block-requires-clause-read : goal.read_block-requires-clause-read
read_block-requires-clause-read g c = may_read c.requires.wants.own c.requires.wants.seen.seen

pub read_block-requires-clause-sized : goal.read_block-requires-clause-sized
read_block-requires-clause-sized g c = subst (CountsPlaces (sizes_of g.S.Shape) c.args.seen.now.word) (sym (length-take-le c.place_count.result
    c.args.old.now (omega (arith, c.place_count.ensures.few, c.requires.room.0)))) c.place_count.ensures

pub smaller-requires : goal.smaller-requires
smaller-requires g c =
    let z = sizes_of g.S.Shape in
    let v = c.args.seat.now.view in
    let h = c.requires.wants.seen.seen in
    let e = h.extent in
    let tells = word_notes z v c.args.seen.now.word e h.block in
    let log2_at = log2_is z c.args.seen.now.word e tells c.log2.result c.log2.ensures in
    let count : length c.read_block.new.out ≡ places e.page e.size.log2 = c.read_block.ensures.sized
    ∙ places_read e.page e.page e.size.log2 c.place_count.result _ c.args.old.now refl
    (c.place_count.ensures.count e tells) c.place_count.ensures.few c.requires.room.0 in
    record {
      pages = record { shape = c.is_sound.ensures; small = omega (arith, tells.small, log2_at) };
      sized = sized e.page c.log2.result (length c.leave_out.new.places)
          (c.leave_out.auto.places ∙ count ∙ ap (places e.page) (sym log2_at));
    }

pub remove-requires : goal.remove-requires
remove-requires g c =
    let z = sizes_of g.S.Shape in
    let read = c.read_block.ensures.read in
    let w = c.requires.wants in record {
      own = own_through c.args.seat.now _ _ read.same w.own;
      seen = seen_as z _ _ _ (seen_more z _ _ _ _ read.saw w.seen) (λ told. told.0);
      unworn = unworn_read g.S.Shape c.args.seat.now _ _ read w.unworn;
      wanted = w.wanted;
      storable = w.storable;
    }

pub returns-in_default : goal.returns-in_default
returns-in_default g c = let hashed = c.args.seen.now.hashed in
    tried_read g.S.Shape c.args.seat.now c.read_block.new.seat c.remove.new.seat hashed.bucket hashed.key.now (Some c.args.pair.1)
    Remove c.read_block.ensures.read (sym hashed.home) c.remove.result c.remove.ensures.told

pub places_of-requires : goal.places_of-requires
places_of-requires g c =
    let h = c.requires.wants.seen.seen in
    let small : c.in-Some.log2 ≤ g.S.Shape.MAX_LOG2 = smaller_fits (sizes_of g.S.Shape) c.args.seat.now.view _ c.args.seen.now.word h
    c.log2.result c.in-Some.log2 c.log2.ensures c.in-Some.ensures.found.less in
    let sound = c.is_sound.ensures.few_buckets in omega arith

pub slice_bounds-new-end : goal.slice_bounds-new-end
slice_bounds-new-end g c =
    let h = c.requires.wants.seen.seen in
    let small : c.in-Some.log2 ≤ g.S.Shape.MAX_LOG2 = smaller_fits (sizes_of g.S.Shape) c.args.seat.now.view _ c.args.seen.now.word h
    c.log2.result c.in-Some.log2 c.log2.ensures c.in-Some.ensures.found.less in
    let few : 2 ^ c.in-Some.log2 ≤ 2 ^ g.S.Shape.MAX_LOG2 = pow_mono small in
    omega (arith, c.places_of.ensures, c.requires.room.1)

pub slice_bounds-new-end-2 : goal.slice_bounds-new-end-2
slice_bounds-new-end-2 g c =
    let h = c.requires.wants.seen.seen in
    let small : c.in-Some.log2 ≤ g.S.Shape.MAX_LOG2 = smaller_fits (sizes_of g.S.Shape) c.args.seat.now.view _ c.args.seen.now.word h
    c.log2.result c.in-Some.log2 c.log2.ensures c.in-Some.ensures.found.less in
    let few : 2 ^ c.in-Some.log2 ≤ 2 ^ g.S.Shape.MAX_LOG2 = pow_mono small in
    omega (arith, c.places_of.ensures, c.requires.room.1, length-take c.places_of.result c.args.new.now)

pub lay_kept-requires : goal.lay_kept-requires
lay_kept-requires g c =
    let h = c.requires.wants.seen.seen in
    let small : c.in-Some.log2 ≤ g.S.Shape.MAX_LOG2 = smaller_fits (sizes_of g.S.Shape) c.args.seat.now.view _ c.args.seen.now.word h
    c.log2.result c.in-Some.log2 c.log2.ensures c.in-Some.ensures.found.less in
    let few : 2 ^ c.in-Some.log2 ≤ 2 ^ g.S.Shape.MAX_LOG2 = pow_mono small in
    record {
      pages = record { shape = c.is_sound.ensures; small = small };
      sized = omega (arith, c.places_of.ensures, c.requires.room.1, length-take c.places_of.result c.args.new.now);
    }

pub lock_if_unchanged-requires-clause-own : goal.lock_if_unchanged-requires-clause-own
lock_if_unchanged-requires-clause-own g c = own_through c.args.seat.now _ _ c.read_block.ensures.read.same c.requires.wants.own

pub lock_if_unchanged-requires-clause-seen : goal.lock_if_unchanged-requires-clause-seen
lock_if_unchanged-requires-clause-seen g c =
    (seen_more (sizes_of g.S.Shape) _ _ _ _ c.read_block.ensures.read.saw c.requires.wants.seen).seen

pub returns-then-not-lock_if_unchanged : goal.returns-then-not-lock_if_unchanged
returns-then-not-lock_if_unchanged g c =
    let hashed = c.args.seen.now.hashed in
    tried_read g.S.Shape c.args.seat.now c.read_block.new.seat c.lock_if_unchanged.new.seat hashed.bucket hashed.key.now (Some c.args.pair.1) Remove
    c.read_block.ensures.read (sym hashed.home) (Err _)
    (tried_not g.S.Shape _ _ _ _ _ _ (sym hashed.home) _ c.lock_if_unchanged.ensures c.if-not-lock_if_unchanged.true)

pub shrink_or_vacate-requires : goal.shrink_or_vacate-requires
shrink_or_vacate-requires g c =
    let z = sizes_of g.S.Shape in
    let hashed = c.args.seen.now.hashed in
    let word = c.args.seen.now.word in
    let y = c.read_block.new.seat in
    let u = c.lock_if_unchanged.new.seat in
    let read = c.read_block.ensures.read in
    let w = c.requires.wants in
    let seen = seen_more z c.args.seat.now.view y.view hashed.bucket word read.saw w.seen in
    let keys : AreKeyWords g.S.Shape = record { law = g.met.S.Shape.key_of_words } in
    let k = c.lock_if_unchanged.ensures.locked c.if-not-lock_if_unchanged.false in
    let e = k.locked.lock.extent in
    let there = told_locked z y.view u.view hashed.bucket word seen k in
    let found = c.in-Some.ensures.found in
    let h = c.requires.wants.seen.seen in
    let small : c.in-Some.log2 ≤ g.S.Shape.MAX_LOG2 = smaller_fits (sizes_of g.S.Shape) c.args.seat.now.view _ c.args.seen.now.word h
    c.log2.result c.in-Some.log2 c.log2.ensures c.in-Some.ensures.found.less in
    let few : 2 ^ c.in-Some.log2 ≤ 2 ^ g.S.Shape.MAX_LOG2 = pow_mono small in
    record {
      held = under_lock g.S.Shape y u c.args.seen.now Remove (own_through c.args.seat.now _ _ read.same w.own)
          (unworn_read g.S.Shape c.args.seat.now y hashed.bucket read w.unworn) w.storable seen c.lock_if_unchanged.ensures
          c.if-not-lock_if_unchanged.false (λ told. (
            told.0,
            another g.S.Shape keys e k.locked.lock.now (map_now u.view hashed.bucket)
                hashed.key.now c.args.pair.1 c.args.pair.0 k.locked.has.size k.locked.has.pairs told.0 c.read_block.new.out
                c.leave_out.new.places told.1 c.leave_out.ensures found.some,
          ));
      small = small;
      sized = omega (arith, c.lay_kept.auto.out, c.places_of.ensures, c.requires.room.1, length-take c.places_of.result c.args.new.now);
      laid = kept_block g.S.Shape keys e k.locked.lock.now (map_now u.view hashed.bucket)
          hashed.key.now c.args.pair.1 c.args.pair.0 k.locked.has.size k.locked.has.pairs there.0 c.read_block.new.out
          c.leave_out.new.places there.1 c.leave_out.ensures found.some c.in-Some.log2 c.lay_kept.new.out
          (c.lay_kept.ensures e.size (kept_lawful g.S.Shape keys e k.locked.lock.now (map_now u.view hashed.bucket)
          hashed.key.now c.args.pair.1 c.args.pair.0 k.locked.has.size k.locked.has.pairs there.0 c.read_block.new.out
          c.leave_out.new.places there.1 c.leave_out.ensures) found.fits);
    }

pub returns : goal.returns
returns g c =
    let hashed = c.args.seen.now.hashed in
    let y = c.read_block.new.seat in
    tried_read g.S.Shape c.args.seat.now y c.shrink_or_vacate.new.seat hashed.bucket hashed.key.now (Some c.args.pair.1) Remove
    c.read_block.ensures.read (sym hashed.home) (Ok c.shrink_or_vacate.result)
    (tried_locked g.S.Shape y c.lock_if_unchanged.new.seat c.shrink_or_vacate.new.seat hashed.bucket c.args.seen.now.word hashed.key.now (Some c.args.pair.1) Remove
    c.lock_if_unchanged.ensures c.if-not-lock_if_unchanged.false (sym hashed.home) (Ok c.shrink_or_vacate.result) c.shrink_or_vacate.ensures)
