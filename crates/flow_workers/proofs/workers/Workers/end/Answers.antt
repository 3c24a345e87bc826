use Rattle.std.proofs.Common.{◌++◌, arith, map}
use Rattle.flow_dealing.specs.AgeingTraces.{items_in}
use Rattle.packet_view.specs.declared.tuple.Family.TheVariants.{V4, V6}
use Rattle.flow_workers.proofs.MergeLemmas.{all_verdicts_placed}
use Rattle.flow_workers.proofs.WorkerResultLemmas.{results_are, results_count, run_judged}
use Rattle.flow_workers.proofs.workers.Workers.end.Goals as goal

pub join_worker_callers-requires : goal.join_worker_callers-requires
join_worker_callers-requires g c =
    let rest = c.requires.2 in
    let p =
    results_are g.A.Shape g.B.Shape c.args.self.setup c.requires.0 rest.gone rest.sound c.args.self.shares.items rest.shares
    rest.each c.in_ok-four.field-0 c.in_ok-four.ensures in
    let some_worker = rest.sound.some in
    let count = (results_count g.A.Shape g.B.Shape _ _ rest.gone c.in_ok-four.field-0 p).0 in
    record { some = omega arith; own = p.own.0; free = p.free.0 }

pub join_worker_callers-requires-2 : goal.join_worker_callers-requires-2
join_worker_callers-requires-2 g c =
    let rest = c.requires.2 in
    let p =
    results_are g.A.Shape g.B.Shape c.args.self.setup c.requires.0 rest.gone rest.sound c.args.self.shares.items rest.shares
    rest.each c.in_ok-four.field-0 c.in_ok-four.ensures in
    let some_worker = rest.sound.some in
    let count = (results_count g.A.Shape g.B.Shape _ _ rest.gone c.in_ok-four.field-0 p).1 in
    record { some = omega arith; own = p.own.1; free = p.free.1 }

pub returns : goal.returns
returns g c = record {
  idle = record {
    own = (c.join_worker_callers.ensures.own, c.join_worker_callers-2.ensures.own);
    free = (c.join_worker_callers.ensures.free, c.join_worker_callers-2.ensures.free);
    lawful = (c.join_worker_callers.ensures.lawful, c.join_worker_callers-2.ensures.lawful);
  };
  said = λ {before} packets rest.
      let p =
      results_are g.A.Shape g.B.Shape c.args.self.setup packets rest.gone rest.sound c.args.self.shares.items rest.shares
      rest.each c.in_ok-four.field-0 c.in_ok-four.ensures in
      run_judged g.A.Shape g.B.Shape _ _ rest.gone c.in_ok-four.field-0 p
      (record { four = c.join_worker_callers.result.seat.view; six = c.join_worker_callers-2.result.seat.view })
      (c.join_worker_callers.ensures.lawful, c.join_worker_callers-2.ensures.lawful)
      (c.join_worker_callers.ensures.whole, c.join_worker_callers-2.ensures.whole)
      (c.join_worker_callers.ensures.deeds _ V4 p.all p.four) (c.join_worker_callers-2.ensures.deeds _ V6 p.all p.six)
      (before ++ c.all_verdicts.result.items)
      (all_verdicts_placed _ (map items_in p.all) rest.gone c.in_ok-four.field-0.said.items before c.args.self.verdicts p.told rest.merged rest.kept
      c.all_verdicts.result.items c.all_verdicts.ensures);
}
