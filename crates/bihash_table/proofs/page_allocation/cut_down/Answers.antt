use Rattle.std.proofs.Common.{◌≡◌, ◌≤◌, ◌+◌, ◌-◌, ◌*◌, ◌%◌, ◌^◌, ℕ, ap, arith, subst, ◌∙◌}
use Rattle.bihash_words.specs.Sizes.{sizes_of}
use Rattle.bihash_steps.specs.Seats.{CallerState, with_view}
use Rattle.bihash_table.specs.inner.Taking.{TellsCutDown}
use Rattle.bihash_table.proofs.CutBlocks.{cut_more, half_same, half_taken, has_kept, kept, may_cut, may_list, second_page}
use Rattle.bihash_table.proofs.page_allocation.cut_down.Goals as goal

pub pool_load-returned-requires-clause-locked : goal.pool_load-returned-requires-clause-locked
pool_load-returned-requires-clause-locked g c =
    let z = sizes_of g.S.Shape in let m : ℕ = c.halves.size - 1 in
    let small = c.requires.held.holds.small in let high = c.halves.invariant.high in
    let next : c.halves.size ≡ m + 1 = omega arith in
    let told = subst (TellsCutDown z c.args.seat.now c.halves.seat c.args.page c.args.from) next c.halves.invariant.cut in
    let got = told.cut c.requires.held.store c.requires.held.holds in
    let low : m ≤ z.max_log2 = omega arith in
    (kept z c.args.seat.now.view c.halves.seat got.0 c.args.page m low got.2, has_kept z c.args.seat.now.view c.halves.seat got.0 c.args.page m low got.2, low)

pub pool_list-requires-clause-may : goal.pool_list-requires-clause-may
pool_list-requires-clause-may g c =
    let z = sizes_of g.S.Shape in let m : ℕ = c.halves.size - 1 in
    let small = c.requires.held.holds.small in let high = c.halves.invariant.high in
    let next : c.halves.size ≡ m + 1 = omega arith in
    let told = subst (TellsCutDown z c.args.seat.now c.halves.seat c.args.page c.args.from) next c.halves.invariant.cut in
    let got = told.cut c.requires.held.store c.requires.held.holds in
    let low : m ≤ z.max_log2 = omega arith in
    may_list z c.args.seat.now.view c.halves.seat got.0 c.args.page m low got.2 c.pool_load-returned.new.caller c.pool_load-returned.result
    c.pool_load-returned.ensures

pub pool_cut-requires-clause-may : goal.pool_cut-requires-clause-may
pool_cut-requires-clause-may g c =
    let z = sizes_of g.S.Shape in let m : ℕ = c.halves.size - 1 in
    let small = c.requires.held.holds.small in let high = c.halves.invariant.high in
    let next : c.halves.size ≡ m + 1 = omega arith in
    let told = subst (TellsCutDown z c.args.seat.now c.halves.seat c.args.page c.args.from) next c.halves.invariant.cut in
    let got = told.cut c.requires.held.store c.requires.held.holds in
    let low : m ≤ z.max_log2 = omega arith in
    may_cut z c.args.seat.now.view c.halves.seat got.0 c.args.page m low got.2 c.pool_load-returned.new.caller c.pool_load-returned.result
    c.pool_load-returned.ensures c.pool_list.new.caller (c.args.page + 1 * 2 ^ m % 18446744073709551616)
    (second_page z c.requires.held.sound c.args.page m got.2.near) c.pool_list.ensures

pub halves-preserved : goal.halves-preserved
halves-preserved g c =
    let z = sizes_of g.S.Shape in let m : ℕ = c.halves.size - 1 in let s = c.args.seat.now in
    let small = c.requires.held.holds.small in let high = c.halves.invariant.high in let more = c.halves-test.true in
    let next : c.halves.size ≡ m + 1 = omega arith in
    let told = subst (TellsCutDown z s c.halves.seat c.args.page c.args.from) next c.halves.invariant.cut in
    let got = told.cut c.requires.held.store c.requires.held.holds in
    let low : m ≤ z.max_log2 = omega arith in record {
      cut = record {
        same = half_same z s.view c.halves.seat got.0 c.args.page m low got.2 c.pool_load-returned.new.caller c.pool_load-returned.result
            c.pool_load-returned.ensures c.pool_list.new.caller (c.args.page + 1 * 2 ^ m % 18446744073709551616)
            (second_page z c.requires.held.sound c.args.page m got.2.near) c.pool_list.ensures c.pool_cut.new.caller c.pool_cut.ensures
            ∙ ap (λ (k : CallerState). with_view k c.pool_cut.new.caller.view) told.same;
        cut = λ store holds. let got = told.cut store holds in (
          _,
          cut_more store got.0 c.args.page c.args.from m (omega arith)
              (let wide = holds.wide in let kept_wide = got.1.wide in omega arith) got.1,
          half_taken z s.view c.halves.seat got.0 c.args.page m low got.2 c.pool_load-returned.new.caller c.pool_load-returned.result
              c.pool_load-returned.ensures c.pool_list.new.caller (c.args.page + 1 * 2 ^ m % 18446744073709551616)
              (second_page z c.requires.held.sound c.args.page m got.2.near) c.pool_list.ensures c.pool_cut.new.caller c.pool_cut.ensures,
        );
      };
      low = omega arith;
      high = omega arith;
    }
