use Rattle.std.proofs.Common.{◌∙◌, ◌*◌, ◌^◌, false, Some, Ok, ap, arith, refl, sym}
use Rattle.bihash_words.specs.Sizes.{sizes_of}
use Rattle.bihash_words.specs.declared.patch.Change.TheVariants.{Remove}
use Rattle.bihash_words.specs.declared.patch.Reply.TheVariants.{Changed}
use Rattle.bihash_steps.specs.BucketCalls.{event}
use Rattle.bihash_steps.specs.BucketSteps.{call_of}
use Rattle.bihash_steps.specs.Seats.{CallerState}
use Rattle.bihash_rule.specs.declared.view.HeldBlock.{HeldBlock}
use Rattle.bihash_rule.specs.declared.view.Holdings.{Holdings}
use Rattle.bihash_rule.specs.declared.view.View.{View}
use Rattle.bihash_table.specs.Answers.{locks_of}
use Rattle.bihash_table.proofs.BlockExchange.{block_of, locked_on, may_shrink, published, published_log, ready_same, ready_taken, same_through, seen_same}
use Rattle.bihash_table.proofs.Copies.{same_block}
use Rattle.bihash_table.proofs.LockCounts.{locks_pushed}
use Rattle.bihash_table.proofs.OpenPlaces.{some_places, word_tells}
use Rattle.bihash_table.proofs.SameCallers.{entered_as, own_through}
use Rattle.bihash_table.proofs.StoreLemmas.{has_taken, holds_old, left_written, still_lawful}
use Rattle.bihash_table.proofs.Tries.{finished_noted, finished_write, under_noted}
use Rattle.bihash_table.proofs.shrinking.shrink_or_vacate.Goals as goal

pub try_take_block-requires : goal.try_take_block-requires
try_take_block-requires g c = let h = c.requires.held in record {
  own = h.own;
  open_store = ap (λ (k : Holdings). k.store) h.has.held;
  bare = ap (λ (k : Holdings). k.block) h.has.held;
  small = c.requires.small;
}

pub vacate-requires : goal.vacate-requires
vacate-requires g c = let told = c.in_default.ensures in
    under_noted g.S.Shape c.args.seat.now c.try_take_block.new.seat c.args.seen.now Remove told.same told.none c.requires.held

pub returns-in_default : goal.returns-in_default
returns-in_default g c = let told = c.in_default.ensures in let hashed = c.args.seen.now.hashed in
    finished_noted g.S.Shape c.args.seat.now c.try_take_block.new.seat c.vacate.new.seat hashed.bucket hashed.key.now
    (Some c.args.pair.1) Remove told.same told.none (sym hashed.home) (Ok c.vacate.result) c.vacate.ensures.told

pub write_block-requires-clause-held : goal.write_block-requires-clause-held
write_block-requires-clause-held g c =
    let told = c.in-Some.ensures in let t = told.taken in record {
      own = own_through c.args.seat.now _ _ told.same c.requires.held.own;
      sound = c.is_sound.ensures;
      block = block_of c.in-Some.page c.args.log2 t.1.words;
      has = has_taken (sizes_of g.S.Shape) c.args.seat.now.view c.try_take_block.new.seat.view t.0 c.in-Some.page c.args.log2 t.1;
      inside = omega arith;
    }

pub write_block-requires-clause-whole : goal.write_block-requires-clause-whole
write_block-requires-clause-whole g c = λ h has.
    let t = c.in-Some.ensures.taken in
    let some = t.1.some_page in
    let first = has_taken (sizes_of g.S.Shape) c.args.seat.now.view c.try_take_block.new.seat.view t.0 c.in-Some.page c.args.log2 t.1 in
    c.requires.sized ∙ ap (λ n. 4 * 2 ^ n) (ap (λ (b : HeldBlock). b.log2) (same_block first has))
    ∙ sym (some_places c.in-Some.page h.log2 (λ none. absurd (omega arith)))

pub publish_block-requires-clause-at : goal.publish_block-requires-clause-at
publish_block-requires-clause-at g c =
    let told = c.in-Some.ensures in
    let ready = ready_taken g.S.Shape c.args.seat.now c.try_take_block.new.seat c.write_block.new.seat c.in-Some.page c.args.log2
    told.taken.0 c.args.block.now told.same told.taken.1 c.write_block.ensures in
    record { own = ap (λ (s : CallerState). s.row) ready.is ∙ c.requires.held.own; inside = c.requires.held.has.inside }

pub publish_block-requires-clause-may : goal.publish_block-requires-clause-may
publish_block-requires-clause-may g c =
    let z = sizes_of g.S.Shape in let hashed = c.args.seen.now.hashed in let h = c.requires.held in
    let key = g.S.Shape.words_of hashed.key.now in
    let told = c.in-Some.ensures in
    let ready = ready_taken g.S.Shape c.args.seat.now c.try_take_block.new.seat c.write_block.new.seat c.in-Some.page c.args.log2
    told.taken.0 c.args.block.now told.same told.taken.1 c.write_block.ensures in
    may_shrink z c.args.seat.now.view hashed.bucket c.args.seen.now.word h.lock key h.has
    (record { long = hashed.counted; home = sym hashed.home }) h.unworn c.args.pair.1 (locked_on ready.left) c.in-Some.page
    (record { log2 = c.args.log2; linear = false }) ready.words (h.has.pairs.map.mapped key c.args.pair.1 c.args.pair.0 h.told.0)
    ready.near (c.requires.laid c.in-Some.page ready.words ready.some_page ready.places) c.write_block.new.seat.view
    (ap (λ (s : CallerState). s.view) ready.is)

pub end_block_change-requires : goal.end_block_change-requires
end_block_change-requires g c =
    let z = sizes_of g.S.Shape in let s = c.args.seat.now in let hashed = c.args.seen.now.hashed in
    let key = g.S.Shape.words_of hashed.key.now in
    let h = c.requires.held in
    let told = c.in-Some.ensures in
    let ready = ready_taken g.S.Shape s c.try_take_block.new.seat c.write_block.new.seat c.in-Some.page c.args.log2
    told.taken.0 c.args.block.now told.same told.taken.1 c.write_block.ensures in
    let n = locked_on ready.left in
    let block = Some (block_of c.in-Some.page c.args.log2 ready.words) in
    let done = published s c.write_block.new.seat c.publish_block.new.caller n block hashed.bucket key (Some c.args.pair.1) Remove
    ready.is (entered_as c.publish_block.ensures) in record {
      own = own_through c.write_block.new.seat _ _ (entered_as c.publish_block.ensures) (own_through s _ _ ready.is h.own);
      sound = c.is_sound.ensures;
      store = record n { store = record n.store { unpublished = false } };
      extent = h.lock.extent;
      words = h.lock.now;
      names = word_tells z s.view hashed.bucket c.args.seen.now.word h.lock h.has;
      holds = holds_old z s.view c.publish_block.new.caller.view hashed.bucket c.args.seen.now.word h.lock n block
          (call_of s.view hashed.bucket 1 (event key (Some c.args.pair.1) Remove (Changed (Some c.args.pair.1)))) h.has done;
    }

pub returns : goal.returns
returns g c =
    let z = sizes_of g.S.Shape in let s = c.args.seat.now in let hashed = c.args.seen.now.hashed in
    let key = g.S.Shape.words_of hashed.key.now in
    let h = c.requires.held in
    let told = c.in-Some.ensures in
    let ready = ready_taken g.S.Shape s c.try_take_block.new.seat c.write_block.new.seat c.in-Some.page c.args.log2
    told.taken.0 c.args.block.now told.same told.taken.1 c.write_block.ensures in
    let n = locked_on ready.left in
    let block = Some (block_of c.in-Some.page c.args.log2 ready.words) in
    let done = published s c.write_block.new.seat c.publish_block.new.caller n block hashed.bucket key (Some c.args.pair.1) Remove
    ready.is (entered_as c.publish_block.ensures) in
    finished_write g.S.Shape s c.end_block_change.new.seat hashed.key.now (Some c.args.pair.1) Remove
    (same_through s c.write_block.new.seat c.publish_block.new.caller c.end_block_change.new.seat
    (ready_same g.S.Shape s c.write_block.new.seat c.in-Some.page c.args.log2 c.args.block.now ready)
    (seen_same c.write_block.new.seat c.publish_block.new.caller (entered_as c.publish_block.ensures)) c.end_block_change.ensures.same)
    (still_lawful z c.publish_block.new.caller.view c.end_block_change.new.seat.view c.end_block_change.ensures.left c.publish_block.ensures.lawful)
    (ap (λ (v : View). locks_of v.records) c.end_block_change.ensures.left.is
    ∙ (locks_pushed _ _ _ (ap (λ (s : CallerState). s.view.records) (entered_as c.publish_block.ensures))
    ∙ ap (λ (s : CallerState). locks_of s.view.records) ready.is))
    (left_written z s.view c.publish_block.new.caller.view c.end_block_change.new.seat.view hashed.bucket c.args.seen.now.word h.lock n block
    (event key (Some c.args.pair.1) Remove (Changed (Some c.args.pair.1))) h.has (sym hashed.home) refl done c.end_block_change.ensures.left
    (published_log z s c.write_block.new.seat c.publish_block.new.caller n block hashed.bucket key (Some c.args.pair.1) Remove
    ready.is c.publish_block.ensures.entered))
