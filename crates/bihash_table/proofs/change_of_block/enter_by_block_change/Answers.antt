use Rattle.std.proofs.Common.{◌≡◌, ◌≤◌, ◌∙◌, ◌^◌, None, Err, ap, arith, length, length-take, length-take-le, pow_mono, refl, subst, sym}
use Rattle.bihash_words.specs.Sizes.{sizes_of}
use Rattle.bihash_words.specs.declared.block_size.BlockSize.{BlockSize}
use Rattle.bihash_words.specs.declared.patch.Change.TheVariants.{Set}
use Rattle.bihash_plan.specs.declared.plan_answer.Plan.TheVariants.{Grow}
use Rattle.bihash_rule.specs.Blocks.{places}
use Rattle.bihash_table.specs.inner.Scans.{CountsPlaces}
use Rattle.bihash_table.proofs.Bridge.{AreKeyWords, sized}
use Rattle.bihash_table.proofs.LargerBlocks.{full_extent, full_seen, wants_place, laid_there, planned_there, room_there}
use Rattle.bihash_table.proofs.SameCallers.{own_through}
use Rattle.bihash_table.proofs.OpenReadLemmas.{may_read, names_block, word_notes}
use Rattle.bihash_table.proofs.SeenBuckets.{seen_more}
use Rattle.bihash_table.proofs.StoreLemmas.{log2_is}
use Rattle.bihash_table.proofs.BlockPlans.{places_read}
use Rattle.bihash_table.proofs.Tries.{over, over_read, tried_locked, tried_not, tried_read, under_lock, unworn_read, wants_no_pages}
use Rattle.bihash_table.proofs.change_of_block.enter_by_block_change.Goals as goal

pub place_count-requires : goal.place_count-requires
place_count-requires g c = names_block c.is_sound.ensures (may_read {s = c.args.seat.now} c.requires.wants.own c.requires.wants.seen.seen)

pub read_block-requires-clause-read : goal.read_block-requires-clause-read
read_block-requires-clause-read g c = may_read c.requires.wants.own c.requires.wants.seen.seen

pub read_block-requires-clause-sized : goal.read_block-requires-clause-sized
read_block-requires-clause-sized g c = subst (CountsPlaces (sizes_of g.S.Shape) c.args.seen.now.word) (sym (length-take-le c.place_count.result
    c.args.old.now (omega (arith, c.place_count.ensures.few, c.requires.room.0)))) c.place_count.ensures

pub larger-requires : goal.larger-requires
larger-requires g c =
    let z = sizes_of g.S.Shape in
    let v = c.args.seat.now.view in
    let h = c.requires.wants.seen.seen in
    let e = h.extent in
    let tells = word_notes z v c.args.seen.now.word e h.block in
    let log2_at = log2_is z c.args.seen.now.word e tells c.block_size.result.log2
    (λ x fits is. ap (λ (s : BlockSize). s.log2) (c.block_size.ensures x fits is)) in
    record {
      pages = record { shape = c.is_sound.ensures; small = omega (arith, tells.small, log2_at) };
      sized = sized e.page c.block_size.result.log2 (length c.read_block.new.out) (c.read_block.ensures.sized
          ∙ places_read e.page e.page e.size.log2 c.place_count.result _ c.args.old.now refl
          (c.place_count.ensures.count e tells) c.place_count.ensures.few c.requires.room.0
          ∙ ap (places e.page) (sym log2_at));
    }

pub recycle_or_refuse-requires : goal.recycle_or_refuse-requires
recycle_or_refuse-requires g c =
    let z = sizes_of g.S.Shape in
    let hashed = c.args.seen.now.hashed in
    let y = c.read_block.new.seat in
    let read = c.read_block.ensures.read in
    let w = c.requires.wants in
    let h = seen_more z c.args.seat.now.view y.view hashed.bucket c.args.seen.now.word read.saw w.seen in
    let e = h.seen.extent in
    let tells = word_notes z y.view c.args.seen.now.word e h.seen.block in
    let count : length c.read_block.new.out ≡ places e.page e.size.log2 = c.read_block.ensures.sized
    ∙ places_read e.page e.page e.size.log2 c.place_count.result _ c.args.old.now refl
    (c.place_count.ensures.count e tells) c.place_count.ensures.few c.requires.room.0 in
    let keys : AreKeyWords g.S.Shape = record { law = g.met.S.Shape.key_of_words } in
    let full = full_seen g.S.Shape keys y.view hashed.bucket c.args.seen.now.word hashed.key.now c.read_block.new.out h c.block_size.result
    c.block_size.ensures c.larger.result c.larger.ensures.lawful c.in_default.not-Grow count in
    wants_place g.S.Shape _ y c.args.seen.now c.args.entrant.now.value c.read_block.new.out
    (own_through c.args.seat.now _ _ read.same w.own) full
    (full_extent g.S.Shape keys y.view hashed.bucket c.args.seen.now.word hashed.key.now c.read_block.new.out h c.block_size.result
    c.block_size.ensures c.larger.result c.larger.ensures.lawful c.in_default.not-Grow count)
    (unworn_read g.S.Shape c.args.seat.now y hashed.bucket read w.unworn) w.storable

pub returns-in_default-clause-told : goal.returns-in_default-clause-told
returns-in_default-clause-told g c =
    let hashed = c.args.seen.now.hashed in
    over_read g.S.Shape c.args.seat.now c.read_block.new.seat c.recycle_or_refuse.new.seat hashed.bucket hashed.key.now None
    (Set c.args.entrant.now.value) (g.E.Expiry.is_expired c.args.entrant.now.expiry.now)
    c.read_block.ensures.read (sym hashed.home) c.recycle_or_refuse.result c.recycle_or_refuse.ensures.told

pub slice_bounds-new-end : goal.slice_bounds-new-end
slice_bounds-new-end g c =
    let small : c.in-Grow.size.log2 ≤ g.S.Shape.MAX_LOG2 = c.in-Grow.ensures.safe in
    let few : 2 ^ c.in-Grow.size.log2 ≤ 2 ^ g.S.Shape.MAX_LOG2 = pow_mono small in
    omega (arith, c.places_of.ensures, c.requires.room.1)

pub slice_bounds-new-end-2 : goal.slice_bounds-new-end-2
slice_bounds-new-end-2 g c =
    let small : c.in-Grow.size.log2 ≤ g.S.Shape.MAX_LOG2 = c.in-Grow.ensures.safe in
    let few : 2 ^ c.in-Grow.size.log2 ≤ 2 ^ g.S.Shape.MAX_LOG2 = pow_mono small in
    omega (arith, c.places_of.ensures, c.requires.room.1, length-take c.places_of.result c.args.new.now)

pub lay-requires : goal.lay-requires
lay-requires g c =
    let small : c.in-Grow.size.log2 ≤ g.S.Shape.MAX_LOG2 = c.in-Grow.ensures.safe in
    let few : 2 ^ c.in-Grow.size.log2 ≤ 2 ^ g.S.Shape.MAX_LOG2 = pow_mono small in
    record {
      pages = record { shape = c.is_sound.ensures; small = small };
      sized = omega (arith, c.places_of.ensures, c.requires.room.1, length-take c.places_of.result c.args.new.now);
    }

pub lock_if_unchanged-requires-clause-own : goal.lock_if_unchanged-requires-clause-own
lock_if_unchanged-requires-clause-own g c = own_through c.args.seat.now _ _ c.read_block.ensures.read.same c.requires.wants.own

pub lock_if_unchanged-requires-clause-seen : goal.lock_if_unchanged-requires-clause-seen
lock_if_unchanged-requires-clause-seen g c =
    (seen_more (sizes_of g.S.Shape) _ _ _ _ c.read_block.ensures.read.saw c.requires.wants.seen).seen

pub returns-then-not-lock_if_unchanged-clause-told : goal.returns-then-not-lock_if_unchanged-clause-told
returns-then-not-lock_if_unchanged-clause-told g c =
    let hashed = c.args.seen.now.hashed in
    over g.S.Shape _ _ _ _ _ _ (Err _)
    (tried_read g.S.Shape c.args.seat.now c.read_block.new.seat c.lock_if_unchanged.new.seat hashed.bucket hashed.key.now None (Set c.args.entrant.now.value)
    c.read_block.ensures.read (sym hashed.home) (Err _)
    (tried_not g.S.Shape _ _ _ _ _ _ (sym hashed.home) _ c.lock_if_unchanged.ensures c.if-not-lock_if_unchanged.true))

pub enter_in_new_block-requires : goal.enter_in_new_block-requires
enter_in_new_block-requires g c =
    let z = sizes_of g.S.Shape in
    let hashed = c.args.seen.now.hashed in
    let y = c.read_block.new.seat in
    let read = c.read_block.ensures.read in
    let w = c.requires.wants in
    let h = seen_more z c.args.seat.now.view y.view hashed.bucket c.args.seen.now.word read.saw w.seen in
    let keys : AreKeyWords g.S.Shape = record { law = g.met.S.Shape.key_of_words } in
    let small : c.in-Grow.size.log2 ≤ g.S.Shape.MAX_LOG2 = c.in-Grow.ensures.safe in
    let few : 2 ^ c.in-Grow.size.log2 ≤ 2 ^ g.S.Shape.MAX_LOG2 = pow_mono small in
    let k = c.lock_if_unchanged.ensures.locked c.if-not-lock_if_unchanged.false in record {
      held = under_lock g.S.Shape y _ c.args.seen.now (Set c.args.entrant.now.value) (own_through c.args.seat.now _ _ read.same w.own)
          (unworn_read g.S.Shape c.args.seat.now y hashed.bucket read w.unworn) w.storable h c.lock_if_unchanged.ensures c.if-not-lock_if_unchanged.false
          (λ told. told.0.0);
      room = room_there g.S.Shape keys y.view hashed.bucket c.args.seen.now.word hashed.key.now c.read_block.new.out h c.block_size.result
          c.block_size.ensures (Grow c.in-Grow.size) c.in-Grow.ensures.lawful c.lock_if_unchanged.new.seat.view k c.in-Grow.size refl;
      small = small;
      sized = omega (arith, c.lay.auto.out, c.places_of.ensures, c.requires.room.1, length-take c.places_of.result c.args.new.now);
      laid = laid_there g.S.Shape keys y.view hashed.bucket c.args.seen.now.word hashed.key.now c.read_block.new.out h c.block_size.result
          c.block_size.ensures (Grow c.in-Grow.size) c.in-Grow.ensures.lawful c.lock_if_unchanged.new.seat.view k c.in-Grow.size refl
          c.args.entrant.now.value c.lay.new.out w.storable c.lay.ensures;
      planned = planned_there g.S.Shape keys y.view hashed.bucket c.args.seen.now.word hashed.key.now c.read_block.new.out h c.block_size.result
          c.block_size.ensures (Grow c.in-Grow.size) c.in-Grow.ensures.lawful c.lock_if_unchanged.new.seat.view k c.in-Grow.size refl;
    }

pub returns-clause-told : goal.returns-clause-told
returns-clause-told g c =
    let hashed = c.args.seen.now.hashed in
    let y = c.read_block.new.seat in
    over g.S.Shape _ _ _ _ _ _ c.enter_in_new_block.result
    (tried_read g.S.Shape c.args.seat.now y c.enter_in_new_block.new.seat hashed.bucket hashed.key.now None (Set c.args.entrant.now.value)
    c.read_block.ensures.read (sym hashed.home) c.enter_in_new_block.result
    (tried_locked g.S.Shape y c.lock_if_unchanged.new.seat c.enter_in_new_block.new.seat hashed.bucket c.args.seen.now.word hashed.key.now None (Set c.args.entrant.now.value)
    c.lock_if_unchanged.ensures c.if-not-lock_if_unchanged.false (sym hashed.home) c.enter_in_new_block.result c.enter_in_new_block.ensures.told))

pub returns-in_default-clause-no_larger : goal.returns-in_default-clause-no_larger
returns-in_default-clause-no_larger g c = λ cuts. wants_no_pages (sizes_of g.S.Shape) c.recycle_or_refuse.new.seat.view c.recycle_or_refuse.result
    c.recycle_or_refuse.ensures.made
