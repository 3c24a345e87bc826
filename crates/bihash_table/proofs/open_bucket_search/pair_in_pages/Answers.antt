use Rattle.std.proofs.Common.{◌+◌, ◌*◌, arith}
use Rattle.bihash_words.specs.Sizes.{sizes_of}
use Rattle.bihash_table.proofs.PairReads.{none_among, pair_among, absent_among}
use Rattle.bihash_table.proofs.OpenReadLemmas.{may_still, names_block, read_nothing, word_notes}
use Rattle.bihash_table.proofs.open_bucket_search.pair_in_pages.Goals as goal

pub open_pages-from-requires : goal.open_pages-from-requires
open_pages-from-requires g c = names_block c.is_sound.ensures c.requires

pub loop-page-init : goal.loop-page-init
loop-page-init g c = read_nothing _ (λ e block i low high. absurd (omega arith))

pub pair_in_page-requires-clause-read : goal.pair_in_page-requires-clause-read
pair_in_page-requires-clause-read g c =
    let h = c.requires in
    let pages = c.open_pages-from.ensures.pages h.extent (word_notes (sizes_of g.S.Shape) _ _ _ h.block) in
    let room = pages.within in
    let before = c.loop-page-test.true in may_still c.loop-page.invariant h (omega arith)

pub returns-in-Some : goal.returns-in-Some
returns-in-Some g c = pair_among (sizes_of g.S.Shape) (g.S.Shape.words_of c.args.hashed.now.key.now) _ _ _ _ _ (4 * (c.loop-page.page + 1))
    c.loop-page.invariant c.in-Some.pair c.in-Some.ensures

pub loop-page-preserved : goal.loop-page-preserved
loop-page-preserved g c = none_among (sizes_of g.S.Shape) (g.S.Shape.words_of c.args.hashed.now.key.now) _ _ _ _ _ _
    c.loop-page.invariant c.in_default.ensures

pub returns : goal.returns
returns g c =
    let z = sizes_of g.S.Shape in
    let h = c.requires in
    let past = c.loop-page-test.false in
    absent_among z (g.S.Shape.words_of c.args.hashed.now.key.now) _ _ _ _ _ _ h.extent h.block
    (c.open_pages-from.ensures.pages h.extent (word_notes z _ _ _ h.block)) (omega arith) c.loop-page.invariant
