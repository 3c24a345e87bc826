use Rattle.std.proofs.Common.{arith}
use Rattle.bihash_words.specs.Sizes.{sizes_of}
use Rattle.bihash_table.proofs.PairReads.{none_free_yet, none_free_more, first_free, all_taken, read_value}
use Rattle.bihash_table.proofs.OpenReadLemmas.{may_still, names_block, word_notes}
use Rattle.bihash_table.proofs.open_bucket_search.room_in_open_bucket.Goals as goal

pub open_pages-from-requires : goal.open_pages-from-requires
open_pages-from-requires g c = names_block c.is_sound.ensures c.requires

pub loop-place-init : goal.loop-place-init
loop-place-init g c = record {
  behind = omega arith;
  read = none_free_yet (sizes_of g.S.Shape) _ _ _ (omega arith);
}

pub load_word-requires-clause-read : goal.load_word-requires-clause-read
load_word-requires-clause-read g c =
    let h = c.requires in
    let pages = c.open_pages-from.ensures.pages h.extent (word_notes (sizes_of g.S.Shape) _ _ _ h.block) in
    let room = pages.within in
    let low = c.loop-place-test.true in may_still c.loop-place.invariant.read h (omega arith)

pub returns-then-load_word : goal.returns-then-load_word
returns-then-load_word g c =
    let z = sizes_of g.S.Shape in
    let h = c.requires in
    let low = c.loop-place-test.true in
    first_free z _ _ _ _ _ _ c.loop-place.invariant.read (read_value z _ _ _ _ _ c.WORDS.ensures c.load_word.ensures)
    (g.S.Shape.words_of c.args.hashed.now.key.now) _ _ h.extent h.block
    (c.open_pages-from.ensures.pages h.extent (word_notes z _ _ _ h.block)) c.loop-place.invariant.behind low c.if-load_word.true

pub loop-place-preserved : goal.loop-place-preserved
loop-place-preserved g c = record {
  behind = let before = c.loop-place.invariant.behind in omega arith;
  read = none_free_more (sizes_of g.S.Shape) _ _ _ _ _ _ c.loop-place.invariant.read
      (read_value (sizes_of g.S.Shape) _ _ _ _ _ c.WORDS.ensures c.load_word.ensures) c.if-load_word.false;
}

pub returns : goal.returns
returns g c =
    let z = sizes_of g.S.Shape in
    let h = c.requires in
    let past = c.loop-place-test.false in
    all_taken z _ _ (g.S.Shape.words_of c.args.hashed.now.key.now) _ _ _ _ h.extent h.block
    (c.open_pages-from.ensures.pages h.extent (word_notes z _ _ _ h.block)) (omega arith) c.loop-place.invariant.read
