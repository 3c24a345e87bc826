use Rattle.racl_runs.proofs.InputLaws.{no_fault_too, one_fault_of_input, one_outcome, outcome_or_fault}
use Rattle.racl_runs.proofs.run_laws.each_input_has_one_outcome.Goals as goal

pub returns-clause-some : goal.returns-clause-some
returns-clause-some c = outcome_or_fault

pub returns-clause-one : goal.returns-clause-one
returns-clause-one c = one_outcome

pub returns-clause-fault : goal.returns-clause-fault
returns-clause-fault c = one_fault_of_input

pub returns-clause-apart : goal.returns-clause-apart
returns-clause-apart c = no_fault_too
