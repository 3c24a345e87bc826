use Rattle.racl_report.proofs.InterfaceLaws.{one_fault_apart}
use Rattle.racl_runs.proofs.InterfaceLemmas.{no_fault_of_interfaces, one_outcome_of_interfaces, outcome_of_interfaces}
use Rattle.racl_runs.proofs.run_laws.interfaces_have_one_outcome.Goals as goal

pub returns-clause-some : goal.returns-clause-some
returns-clause-some c = outcome_of_interfaces

pub returns-clause-one : goal.returns-clause-one
returns-clause-one c = one_outcome_of_interfaces

pub returns-clause-fault : goal.returns-clause-fault
returns-clause-fault c text captures found other fit one also = one_fault_apart text captures fit found other one also

pub returns-clause-apart : goal.returns-clause-apart
returns-clause-apart c = no_fault_of_interfaces
