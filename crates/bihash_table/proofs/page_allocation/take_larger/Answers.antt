use Rattle.std.proofs.Common.{ap, arith, ◌∙◌}
use Rattle.bihash_words.specs.Sizes.{sizes_of}
use Rattle.bihash_steps.specs.Seats.{CallerState, with_view}
use Rattle.bihash_steps.specs.StoreSteps.{unlisted}
use Rattle.bihash_table.proofs.CutBlocks.{larger_held, larger_taken}
use Rattle.bihash_table.proofs.page_allocation.take_larger.Goals as goal

pub cut_down-requires-clause-held : goal.cut_down-requires-clause-held
cut_down-requires-clause-held g c =
    let low = c.loop-larger.auto.larger in let high = c.loop-larger-test.true in let end = c.MAX_LOG2-larger-end.ensures in record {
      own = ap (λ (s : CallerState). s.row) (c.pool_take_returned.ensures.same ∙ ap (λ (k : CallerState). with_view k c.pool_take_returned.new.caller.view)
          (c.pool_load-page.ensures.same ∙ (c.pool_load-returned.ensures.same ∙ c.loop-larger.invariant.same))) ∙ c.requires.own;
      sound = c.requires.sound;
      store = unlisted c.requires.store.0.store c.loop-larger.larger;
      holds = larger_held (sizes_of g.S.Shape) c.args.seat.now c.loop-larger.seat c.pool_load-returned.new.caller c.pool_load-page.new.caller
          c.pool_take_returned.new.caller c.loop-larger.larger c.pool_load-returned.result c.pool_load-page.result c.loop-larger.invariant.same
          c.pool_load-returned.ensures c.if-returned-gt0.true c.pool_load-page.ensures c.pool_take_returned.ensures.taken
          c.requires.store.0 c.requires.store.1 (omega arith);
    }

pub returns-then-returned-gt0 : goal.returns-then-returned-gt0
returns-then-returned-gt0 g c =
    let z = sizes_of g.S.Shape in
    let low = c.loop-larger.auto.larger in let high = c.loop-larger-test.true in record {
      same = c.cut_down.ensures.same ∙ ap (λ (k : CallerState). with_view k c.cut_down.new.seat.view)
          (c.pool_take_returned.ensures.same ∙ ap (λ (k : CallerState). with_view k c.pool_take_returned.new.caller.view)
          (c.pool_load-page.ensures.same ∙ (c.pool_load-returned.ensures.same ∙ c.loop-larger.invariant.same)));
      taken = λ n has. larger_taken z c.args.seat.now c.loop-larger.seat c.pool_load-returned.new.caller c.pool_load-page.new.caller
          c.pool_take_returned.new.caller c.loop-larger.larger c.pool_load-returned.result c.pool_load-page.result c.loop-larger.invariant.same
          c.pool_load-returned.ensures c.if-returned-gt0.true c.pool_load-page.ensures c.pool_take_returned.ensures.taken
          n has (omega arith) c.args.log2 (omega arith) (λ size above below. c.loop-larger.invariant.none n has size above below)
          c.cut_down.new.seat c.cut_down.ensures;
      none = tt;
    }
