use Rattle.std.proofs.Common.{arith}
use Rattle.bihash_words.specs.Sizes.{sizes_of}
use Rattle.bihash_table.proofs.PairReads.{no_other_yet, no_other_here, no_other_free, other_there, no_other, read_value}
use Rattle.bihash_table.proofs.OpenReadLemmas.{may_still, names_block, word_notes}
use Rattle.bihash_table.proofs.open_bucket_search.has_other_in_open_bucket.Goals as goal

pub place_count-k-end-requires : goal.place_count-k-end-requires
place_count-k-end-requires g c = names_block c.is_sound.ensures c.requires

pub loop-k-init : goal.loop-k-init
loop-k-init g c = no_other_yet (sizes_of g.S.Shape) c.args.place _

pub load_word-requires-clause-read : goal.load_word-requires-clause-read
load_word-requires-clause-read g c =
    let h = c.requires in
    let count = c.place_count-k-end.ensures.count h.extent (word_notes (sizes_of g.S.Shape) _ _ _ h.block) in
    let low = c.loop-k-test.true in may_still c.loop-k.invariant h (omega arith)

pub returns : goal.returns
returns g c =
    let z = sizes_of g.S.Shape in
    let h = c.requires in
    let count = c.place_count-k-end.ensures.count h.extent (word_notes z _ _ _ h.block) in
    let past = c.loop-k-test.false in
    no_other z _ _ c.args.place _ _ h.extent h.block (omega arith) c.loop-k.invariant

pub loop-k-preserved-then-k-place : goal.loop-k-preserved-then-k-place
loop-k-preserved-then-k-place g c = no_other_here (sizes_of g.S.Shape) c.args.place c.loop-k.k _ _ c.if-k-place.true c.loop-k.invariant

pub returns-then-load_word : goal.returns-then-load_word
returns-then-load_word g c =
    let z = sizes_of g.S.Shape in
    let h = c.requires in
    let count = c.place_count-k-end.ensures.count h.extent (word_notes z _ _ _ h.block) in
    let low = c.loop-k-test.true in
    other_there z _ _ _ c.args.place c.loop-k.k c.load_word.result c.loop-k.invariant
    (read_value z _ _ _ _ _ c.WORDS.ensures c.load_word.ensures) _ h.extent h.block (omega arith) c.if-k-place.false c.if-load_word.true

pub loop-k-preserved : goal.loop-k-preserved
loop-k-preserved g c = no_other_free (sizes_of g.S.Shape) _ _ _ c.args.place c.loop-k.k c.load_word.result c.loop-k.invariant
    (read_value (sizes_of g.S.Shape) _ _ _ _ _ c.WORDS.ensures c.load_word.ensures) c.if-load_word.false
