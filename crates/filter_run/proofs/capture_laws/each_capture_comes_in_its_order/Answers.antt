use Rattle.filter_run.proofs.OwnLemmas.{own_come, own_packets}
use Rattle.filter_run.proofs.EndLemmas.{own_end}
use Rattle.filter_run.proofs.capture_laws.each_capture_comes_in_its_order.Goals as goal

pub returns-clause-whole : goal.returns-clause-whole
returns-clause-whole c = own_come

pub returns-clause-own : goal.returns-clause-own
returns-clause-own c = own_packets

pub returns-clause-end : goal.returns-clause-end
returns-clause-end c = own_end
