use Rattle.std.proofs.Common.{◌∙◌, subst, sym}
use Rattle.std.specs.Prelude.{IfOk}
use Rattle.packet_view.specs.CheckedCaptures.{remaining}
use Rattle.flow_workers.specs.Progress.{HaveJudgedOn}
use Rattle.racl_runs.specs.Crews.{HaveSaidAfter, orders_of}
use Rattle.racl_runs.specs.declared.sized_tables_and_workers.SizedTables.TheVariants as laid
use Rattle.racl_runs.specs.declared.sized_tables_and_workers.SizedWorkers.TheVariants.{Standard, Large}
use Rattle.racl_runs.proofs.LiveLemmas.{said_so_far, same_orders}
use Rattle.racl_runs.proofs.workers_as_judges.HandingCrewJudge.judge.Goals.{in-Standard, in-Large}
use Rattle.racl_runs.proofs.workers_as_judges.HandingCrewJudge.judge.Goals as goal

pub returns-in-Ok-clause-right : goal.returns-in-Ok-clause-right
returns-in-Ok-clause-right g c begun packets said (sync, after) =
    elim c.match-self.branch [
      | in-Standard w ↦
          let old = w.in-Standard.workers in
          let ran : HaveJudgedOn old c.args.packets w.judge_on-said.new.self c.in-Ok.said.items =
          subst (λ r. IfOk r (λ verdicts. HaveJudgedOn old c.args.packets w.judge_on-said.new.self verdicts.items)) (sym w.said-is ∙ c.in-Ok.is)
          w.judge_on-said.ensures in
          said_so_far (orders_of begun.workers) packets (remaining c.args.packets) said c.in-Ok.said.items (Standard old) (Standard w.judge_on-said.new.self)
          (subst (HaveSaidAfter (orders_of begun.workers) packets said) w.in-Standard.is after) (same_orders (λ s. laid.Standard s.tables.now) old w.judge_on-said.new.self ran.by) (λ rest. ran.rest packets rest) (λ rest. ran.count packets rest) (λ one rest. ran.judged packets rest one)
      | in-Large w ↦
          let old = w.in-Large.workers in
          let ran : HaveJudgedOn old c.args.packets w.judge_on-said-in-Large.new.self c.in-Ok.said.items =
          subst (λ r. IfOk r (λ verdicts. HaveJudgedOn old c.args.packets w.judge_on-said-in-Large.new.self verdicts.items)) (sym w.said-is ∙ c.in-Ok.is)
          w.judge_on-said-in-Large.ensures in
          said_so_far (orders_of begun.workers) packets (remaining c.args.packets) said c.in-Ok.said.items (Large old) (Large w.judge_on-said-in-Large.new.self)
          (subst (HaveSaidAfter (orders_of begun.workers) packets said) w.in-Large.is after) (same_orders (λ s. laid.Large s.tables.now) old w.judge_on-said-in-Large.new.self ran.by) (λ rest. ran.rest packets rest) (λ rest. ran.count packets rest) (λ one rest. ran.judged packets rest one)
    ]
