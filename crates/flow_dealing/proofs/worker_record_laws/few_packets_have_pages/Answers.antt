use Rattle.flow_dealing.proofs.FewPackets.{pages_for_few, pages_for_few_between, verdicts_for_few}
use Rattle.flow_dealing.proofs.worker_record_laws.few_packets_have_pages.Goals as goal

pub returns-clause-one_family : goal.returns-clause-one_family
returns-clause-one_family c = pages_for_few

pub returns-clause-both_families : goal.returns-clause-both_families
returns-clause-both_families c = verdicts_for_few

pub returns-clause-between : goal.returns-clause-between
returns-clause-between c = pages_for_few_between
