-- Equal keys tell one flow.
use Rattle.session_state.proofs.SameFlowLemmas.{same_flow_of_key}
use Rattle.session_state.proofs.flow_laws.keys_tell_flows.Goals as goal

pub returns-clause-one_flow : goal.returns-clause-one_flow
returns-clause-one_flow c = same_flow_of_key
