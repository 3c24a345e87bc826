use Rattle.std.proofs.Common.{◌∙◌, ◌+◌, ◌-◌, ap, arith, length}
use Rattle.packet_view.specs.Captures.{packet_facts}
use Rattle.packet_view.specs.CheckedCaptures.{remaining}
use Rattle.filter_run.proofs.NumberLemmas.{numbered_next, numbers_behind, passed_first}
use Rattle.filter_run.proofs.numbered_lines.text_of.Goals as goal

pub packets-preserved : goal.packets-preserved
packets-preserved g c =
    let so = c.packets in
    let size = ap length c.in-Some.ensures.cases.0 in
    let taken = ap length c.in-Some-next.ensures in
    let each = so.invariant.each in
    let fit = numbers_behind (length so.said.now) so.left.now c.in-Some-split_first.behind.now c.in-Some-split_first.number.now so.invariant.numbers c.in-Some-split_first.ensures.cases.0 in
    let some = fit.0 in
    record {
      numbers = fit.2 (length c.in-Some.said_behind.now) (omega arith);
      each = omega arith;
      told = numbered_next (g.L.Teller.wording c.args.teller.now) (g.L.Teller.wording so.teller) so.invariant.same so.left.now c.in-Some-split_first.behind.now c.in-Some-split_first.number.now
          (c.in-Some-split_first.number.now - 1 + 1) c.in-Some-split_first.ensures.cases.0 (omega arith) (remaining so.packets) (remaining c.next.new.self) (packet_facts c.in-Some-next.packet)
          c.in-Some-next.ensures so.said.now c.in-Some.said_behind.now c.in-Some.verdict.now c.in-Some.ensures.cases.0 so.text.inner.items c.tell.new.writer.inner.items _ c.in-Ok.ensures.told.0
          so.invariant.told;
      steady = c.in-Ok.ensures.told.1 ∙ so.invariant.steady;
      passing = (let before = so.invariant.passing in let first = passed_first so.said.now c.in-Some.said_behind.now c.in-Some.verdict.now c.in-Some.ensures.cases.0 in let told = c.in-Ok.ensures.passed in omega arith);
      same = c.in-Ok.ensures.same ∙ so.invariant.same;
    }
