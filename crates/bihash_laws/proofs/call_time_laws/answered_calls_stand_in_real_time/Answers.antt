use Rattle.bihash_laws.proofs.RealTime.{orders, states_in_order}
use Rattle.bihash_laws.proofs.call_time_laws.answered_calls_stand_in_real_time.Goals as goal

pub returns-clause-order : goal.returns-clause-order
returns-clause-order c = orders

pub returns-clause-states : goal.returns-clause-states
returns-clause-states c = states_in_order
