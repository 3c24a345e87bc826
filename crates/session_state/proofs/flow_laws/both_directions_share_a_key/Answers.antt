-- A packet and its answer are of one flow, and their ends stand the other way round.
use Rattle.session_state.proofs.SameFlowLemmas.{key_of_answer}
use Rattle.session_state.proofs.SideLemmas.{side_of_answer}
use Rattle.session_state.proofs.flow_laws.both_directions_share_a_key.Goals as goal

pub returns-clause-one_key : goal.returns-clause-one_key
returns-clause-one_key c = key_of_answer

pub returns-clause-opposite : goal.returns-clause-opposite
returns-clause-opposite c = side_of_answer
