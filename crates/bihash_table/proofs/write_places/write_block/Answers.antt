use Rattle.std.proofs.Common.{◌∙◌, ap, arith, length, refl}
use Rattle.std.proofs.lemmas.Option.{slice_get_read}
use Rattle.bihash_words.specs.Sizes.{sizes_of}
use Rattle.bihash_steps.specs.Seats.{CallerState}
use Rattle.bihash_table.proofs.Copies.{all_placed, placed_more, placed_none, still_held}
use Rattle.bihash_table.proofs.write_places.write_block.Goals as goal

pub loop-place-init : goal.loop-place-init
loop-place-init g c = record {
  placed = λ h has. placed_none g.S.Shape c.args.seat.now c.args.page h c.args.block.now has;
}

pub write_place-requires : goal.write_place-requires
write_place-requires g c =
    let b = c.requires.held in
    let p = c.loop-place.invariant.placed b.block b.has in
    record {
      own = ap (λ (k : CallerState). k.row) p.is ∙ b.own;
      sound = b.sound;
      block = record b.block { words = p.words };
      has = still_held (sizes_of g.S.Shape) c.args.seat.now c.loop-place.seat c.args.page b.block p.words b.has p.is p.long;
      inside = omega (arith, c.requires.whole b.block b.has);
    }

pub loop-place-preserved : goal.loop-place-preserved
loop-place-preserved g c = record {
  placed = λ h has.
      let p = c.loop-place.invariant.placed h has in
      placed_more g.S.Shape c.args.seat.now c.loop-place.seat c.write_place.new.seat c.args.page c.loop-place.place h
      c.args.block.now c.index-block-place.result has (omega (arith, c.requires.whole h has))
      (slice_get_read c.args.block.now (length c.args.block.now) c.loop-place.place c.index-block-place.result refl
      (omega arith) c.index-block-place.is) p
      (c.write_place.ensures (record h { words = p.words })
      (still_held (sizes_of g.S.Shape) c.args.seat.now c.loop-place.seat c.args.page h p.words has p.is p.long));
}

pub returns : goal.returns
returns g c = λ h has. all_placed g.S.Shape c.args.seat.now c.loop-place.seat c.args.page c.loop-place.place h c.args.block.now
    has (c.requires.whole h has) (omega arith) (c.loop-place.invariant.placed h has)
