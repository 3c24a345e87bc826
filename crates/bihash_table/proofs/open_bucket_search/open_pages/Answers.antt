use Rattle.std.proofs.Common.{false, arith, ◌∙◌, ◌≤◌, ◌^◌, pow_mono, sym}
use Rattle.bihash_words.specs.Sizes.{sizes_of}
use Rattle.bihash_rule.specs.Buckets.{word_of}
use Rattle.bihash_table.proofs.OpenPlaces.{none_open, all_open, one_page_open}
use Rattle.bihash_table.proofs.open_bucket_search.open_pages.Goals as goal

pub returns-then-page-eq0 : goal.returns-then-page-eq0
returns-then-page-eq0 g c = record {
  order = omega arith;
  few = omega arith;
  pages = λ e w. none_open _ e _ (sym (c.page.ensures (word_of e false w.version) w.fits w.stood) ∙ c.if-page-eq0.true);
}

pub page_count-requires : goal.page_count-requires
page_count-requires g c =
    let h = c.requires in
    let is = c.log2.ensures (word_of h.extent false h.names.version) h.names.fits h.names.stood in
    let small = h.names.small in
    let few = h.sound.few_buckets in omega arith

pub returns-then-linear : goal.returns-then-linear
returns-then-linear g c = record {
  order = omega arith;
  few =
      let h = c.requires in
      let is = c.log2.ensures (word_of h.extent false h.names.version) h.names.fits h.names.stood in
      let small : c.log2.result ≤ 24 = omega (arith, h.names.small, h.sound.few_buckets, is) in
      let few : 2 ^ c.log2.result ≤ 2 ^ 24 = pow_mono small in omega (arith, c.page_count.ensures);
  pages = λ e w.
      let x = word_of e false w.version in
      all_open _ e _ _ (λ none_there. c.if-page-eq0.false (c.page.ensures x w.fits w.stood ∙ none_there))
      (sym (c.linear.ensures x w.fits w.stood) ∙ c.if-linear.true) (rw (sym (c.log2.ensures x w.fits w.stood)) c.page_count.ensures);
}

pub page-page-requires-clause-sound : goal.page-page-requires-clause-sound
page-page-requires-clause-sound g c = c.requires.sound

pub page-page-requires-clause-small : goal.page-page-requires-clause-small
page-page-requires-clause-small g c =
    let w = c.requires.names in rw (c.log2-2.ensures (word_of c.requires.extent false w.version) w.fits w.stood) w.small

pub returns : goal.returns
returns g c = record {
  order = omega arith;
  few = let low = c.page-page.ensures.inside in omega arith;
  pages = λ e w.
      let x = word_of e false w.version in
      one_page_open (sizes_of g.S.Shape) e _ _ _ (λ none_there. c.if-page-eq0.false (c.page.ensures x w.fits w.stood ∙ none_there))
      (sym (c.linear.ensures x w.fits w.stood) ∙ c.if-linear.false) (c.log2-2.ensures x w.fits w.stood)
      c.page-page.ensures.page;
}
