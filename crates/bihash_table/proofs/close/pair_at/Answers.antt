use Rattle.std.proofs.Common.{◌≡◌, ◌∙◌, ◌+◌, ◌-◌, ◌*◌, ℕ, drop, ap, arith, slice_index}
use Rattle.std.proofs.Math.ListN.{take}
use Rattle.bihash_words.specs.Sizes.{sizes_of}
use Rattle.bihash_rule.specs.Words.{page_at}
use Rattle.bihash_table.proofs.BlockPairs.{last_in_row, place_there, some_page}
use Rattle.bihash_table.proofs.StoreLemmas.{page_is}
use Rattle.bihash_table.proofs.close.pair_at.Goals as goal

pub page_at-at-requires-clause-some_page : goal.page_at-at-requires-clause-some_page
page_at-at-requires-clause-some_page g c =
    let h = c.requires in
    let is = page_is (sizes_of g.S.Shape) c.args.word h.extent h.lies.names c.page.result c.page.ensures in
    let some = some_page h.extent.page h.extent.size.log2 c.args.place (h.inside h.extent h.lies.names) in omega arith

pub overflow_mul-place : goal.overflow_mul-place
overflow_mul-place g c =
    let last = last_in_row (sizes_of g.S.Shape) _ _ _ c.page.result c.WORDS.result c.requires c.page.ensures c.WORDS.ensures in
    let x : ℕ = c.args.place * (c.WORDS.result + 1) in
    let y : ℕ = page_at (sizes_of g.S.Shape) c.page.result in omega arith

pub page_at-at-requires-clause-inside : goal.page_at-at-requires-clause-inside
page_at-at-requires-clause-inside g c =
    let last = last_in_row (sizes_of g.S.Shape) _ _ _ c.page.result c.WORDS.result c.requires c.page.ensures c.WORDS.ensures in
    let wide = c.requires.wide in
    let x : ℕ = c.args.place * (c.WORDS.result + 1) in
    let y : ℕ = page_at (sizes_of g.S.Shape) c.page.result in omega arith

pub overflow_add-end : goal.overflow_add-end
overflow_add-end g c =
    let last = last_in_row (sizes_of g.S.Shape) _ _ _ c.page.result c.WORDS.result c.requires c.page.ensures c.WORDS.ensures in
    let at = c.page_at-at.ensures.place in
    let one = c.WORDS.ensures in
    let other = c.WORDS-2.ensures in
    let x : ℕ = c.args.place * (c.WORDS.result + 1) in
    let y : ℕ = page_at (sizes_of g.S.Shape) c.page.result in omega arith

pub offset_bounds-words-at : goal.offset_bounds-words-at
offset_bounds-words-at g c =
    let last = last_in_row (sizes_of g.S.Shape) _ _ _ c.page.result c.WORDS.result c.requires c.page.ensures c.WORDS.ensures in
    let at = c.page_at-at.ensures.place in
    let x : ℕ = c.args.place * (c.WORDS.result + 1) in
    let y : ℕ = page_at (sizes_of g.S.Shape) c.page.result in omega arith

pub slice_bounds-key-end : goal.slice_bounds-key-end
slice_bounds-key-end g c =
    let last = last_in_row (sizes_of g.S.Shape) _ _ _ c.page.result c.WORDS.result c.requires c.page.ensures c.WORDS.ensures in
    let at = c.page_at-at.ensures.place in
    let one = c.WORDS.ensures in
    let other = c.WORDS-2.ensures in
    let x : ℕ = c.args.place * (c.WORDS.result + 1) in
    let y : ℕ = page_at (sizes_of g.S.Shape) c.page.result in omega arith

pub bounds-words-end : goal.bounds-words-end
bounds-words-end g c =
    let last = last_in_row (sizes_of g.S.Shape) _ _ _ c.page.result c.WORDS.result c.requires c.page.ensures c.WORDS.ensures in
    let at = c.page_at-at.ensures.place in
    let one = c.WORDS.ensures in
    let other = c.WORDS-2.ensures in
    let x : ℕ = c.args.place * (c.WORDS.result + 1) in
    let y : ℕ = page_at (sizes_of g.S.Shape) c.page.result in omega arith

pub returns : goal.returns
returns g c e block lies =
    let z = sizes_of g.S.Shape in
    let at : c.page_at-at.result ≡ page_at z e.page + c.args.place * (g.S.Shape.WORDS + 1) =
    c.page_at-at.ensures.place
    ∙ (λ i. page_at z (page_is z c.args.word e lies.names c.page.result c.page.ensures i) + c.args.place * (c.WORDS.ensures i + 1)) in
    let counted : c.page_at-at.result + c.WORDS-2.result - c.page_at-at.result ≡ g.S.Shape.WORDS = let other = c.WORDS-2.ensures in omega arith in
    place_there g.S.Shape c.args.words.now c.args.word g.met.S.Shape.words_of_key c.page_at-at.result c.args.place _ c.key.result e block lies
    (let low = c.requires.inside e lies.names in omega arith) c.requires.wide at
    (c.key.ensures ∙ ap (λ (k : ℕ). g.S.Shape.key_of (take k (drop c.page_at-at.result c.args.words.now))) counted)
    (ap (λ (k : ℕ). slice_index c.args.words.now (c.page_at-at.result + k)) c.WORDS-2.ensures)
