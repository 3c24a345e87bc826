use Rattle.flow_dealing.proofs.OneReport.{one_report}
use Rattle.flow_dealing.proofs.worker_record_laws.workers_give_one_report.Goals as goal

pub returns : goal.returns
returns c = one_report
