use Rattle.std.proofs.Common.{◌∙◌, arith, refl, sym}
use Rattle.bihash_words.specs.Sizes.{sizes_of}
use Rattle.bihash_table.proofs.StoreLemmas.{left_none, left_some, log2_is, may_give_back, page_is}
use Rattle.bihash_table.proofs.change_of_block.give_back_old.Goals as goal

pub returns-then-page-eq0 : goal.returns-then-page-eq0
returns-then-page-eq0 g c = let h = c.requires in
    left_none c.args.seat.now c.args.seat.now h.store h.extent h.words h.holds
    (sym (page_is (sizes_of g.S.Shape) c.args.word h.extent h.names c.page-page.result c.page-page.ensures) ∙ c.if-page-eq0.true) refl

pub give_back-requires : goal.give_back-requires
give_back-requires g c = let h = c.requires in
    let log2 = log2_is (sizes_of g.S.Shape) c.args.word h.extent h.names c.log2.result c.log2.ensures in record {
      own = h.own;
      sound = h.sound;
      small = let small = h.names.small in omega arith;
      store = h.store;
      block = record { page = h.extent.page; log2 = h.extent.size.log2; words = h.words };
      may = may_give_back (sizes_of g.S.Shape) c.args.seat.now.view c.args.word c.log2.result c.page-page.result h.store h.extent h.words h.names
          h.holds c.if-page-eq0.false
          (page_is (sizes_of g.S.Shape) c.args.word h.extent h.names c.page-page.result c.page-page.ensures) log2;
    }

pub returns : goal.returns
returns g c = let h = c.requires in
    left_some c.args.seat.now c.give_back.new.seat h.store h.extent h.words c.log2.result c.page-page.result h.holds
    (c.give_back.ensures h.store (record { page = h.extent.page; log2 = h.extent.size.log2; words = h.words })
    (may_give_back (sizes_of g.S.Shape) c.args.seat.now.view c.args.word c.log2.result c.page-page.result h.store h.extent h.words h.names
    h.holds c.if-page-eq0.false
    (page_is (sizes_of g.S.Shape) c.args.word h.extent h.names c.page-page.result c.page-page.ensures)
    (log2_is (sizes_of g.S.Shape) c.args.word h.extent h.names c.log2.result c.log2.ensures)))
