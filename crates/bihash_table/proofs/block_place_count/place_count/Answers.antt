use Rattle.std.proofs.Common.{◌∙◌, ◌≤◌, ◌*◌, ◌^◌, ap, arith, pow_mono, sym}
use Rattle.bihash_words.specs.Sizes.{sizes_of}
use Rattle.bihash_table.proofs.OpenPlaces.{some_places}
use Rattle.bihash_table.proofs.StoreLemmas.{log2_is, no_places, page_is}
use Rattle.bihash_table.proofs.block_place_count.place_count.Goals as goal

pub returns-then-page-eq0 : goal.returns-then-page-eq0
returns-then-page-eq0 g c = record {
  count = λ e told. no_places e.page e.size.log2
      (sym (page_is (sizes_of g.S.Shape) c.args.word e told c.page.result c.page.ensures) ∙ c.if-page-eq0.true);
  few = omega arith;
}

pub places_of-requires : goal.places_of-requires
places_of-requires g c =
    let h = c.requires in
    let small = h.names.small in
    let few = h.sound.few_buckets in
    omega (arith, log2_is (sizes_of g.S.Shape) c.args.word h.extent h.names c.log2.result c.log2.ensures)

pub returns : goal.returns
returns g c = record {
  count = λ e told. c.places_of.ensures
      ∙ ap (λ n. 4 * 2 ^ n) (log2_is (sizes_of g.S.Shape) c.args.word e told c.log2.result c.log2.ensures)
      ∙ sym (some_places e.page e.size.log2
      (λ none. c.if-page-eq0.false (page_is (sizes_of g.S.Shape) c.args.word e told c.page.result c.page.ensures ∙ none)));
  few =
      let h = c.requires in
      let same = log2_is (sizes_of g.S.Shape) c.args.word h.extent h.names c.log2.result c.log2.ensures in
      let small : c.log2.result ≤ g.S.Shape.MAX_LOG2 = omega (arith, h.names.small) in
      let more : 2 ^ c.log2.result ≤ 2 ^ g.S.Shape.MAX_LOG2 = pow_mono small in omega (arith, c.places_of.ensures);
}
