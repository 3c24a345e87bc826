use Rattle.flow_dealing.proofs.OneReport.{one_aged_report, one_report_ageing}
use Rattle.flow_dealing.proofs.worker_record_laws.ageing_workers_give_one_report.Goals as goal

pub returns-clause-by_steps : goal.returns-clause-by_steps
returns-clause-by_steps c d times policy packets removals verdicts are = one_aged_report d times policy packets verdicts removals are

pub returns-clause-by_workers : goal.returns-clause-by_workers
returns-clause-by_workers c = one_report_ageing
