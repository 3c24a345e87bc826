use Rattle.session_state.proofs.DecisionLemmas.{decision_told}
use Rattle.session_state.proofs.FlowLemmas.{flow_told}
use Rattle.session_state.proofs.session_laws.computations_meet_definitions.Goals as goal

pub returns-clause-flow : goal.returns-clause-flow
returns-clause-flow c = flow_told

pub returns-clause-decision : goal.returns-clause-decision
returns-clause-decision c = decision_told
