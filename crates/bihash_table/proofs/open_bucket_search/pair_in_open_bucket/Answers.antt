use Rattle.std.proofs.Common.{◌*◌, ℕ, None, arith, subst}
use Rattle.bihash_words.specs.Sizes.{sizes_of}
use Rattle.bihash_table.specs.inner.OpenReads.{HasRead, IsPairAmong}
use Rattle.bihash_table.proofs.PairReads.{nothing_among, pair_among_open}
use Rattle.bihash_table.proofs.OpenReadLemmas.{may_all, names_block, word_notes}
use Rattle.bihash_table.proofs.open_bucket_search.pair_in_open_bucket.Goals as goal

pub open_pages-from-requires : goal.open_pages-from-requires
open_pages-from-requires g c = names_block c.is_sound.ensures c.requires

pub returns-then-from-to : goal.returns-then-from-to
returns-then-from-to g c = let z = sizes_of g.S.Shape in let h = c.requires in
    pair_among_open z (g.S.Shape.words_of c.args.hashed.now.key.now) _ _ _ _ _ h.extent h.block
    (c.open_pages-from.ensures.pages h.extent (word_notes z _ _ _ h.block)) None
    (nothing_among z (g.S.Shape.words_of c.args.hashed.now.key.now) _ _ _ (let same = c.if-from-to.true in omega arith))

pub pair_in_page-requires-clause-read : goal.pair_in_page-requires-clause-read
pair_in_page-requires-clause-read g c = let h = c.requires in
    let room = (c.open_pages-from.ensures.pages h.extent (word_notes (sizes_of g.S.Shape) _ _ _ h.block)).within in
    may_all h (let one = c.if-from-to-2.true in omega arith)

pub returns-then-from-to-2 : goal.returns-then-from-to-2
returns-then-from-to-2 g c = let z = sizes_of g.S.Shape in let h = c.requires in
    pair_among_open z (g.S.Shape.words_of c.args.hashed.now.key.now) _ _ _ _ _ h.extent h.block
    (c.open_pages-from.ensures.pages h.extent (word_notes z _ _ _ h.block)) _
    (subst (λ (to : ℕ). HasRead c.args.seat.now c.pair_in_page.new.seat (IsPairAmong z (g.S.Shape.words_of c.args.hashed.now.key.now)
    (4 * c.open_pages-from.result.0) (4 * to) c.pair_in_page.result)) c.if-from-to-2.true c.pair_in_page.ensures)
