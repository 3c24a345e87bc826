use Rattle.bihash_laws.proofs.RealTime.{goes_answered, goes_contended, goes_joined, goes_lone, goes_met, goes_not_closed, goes_not_renewed, goes_not_split, goes_same, goes_split, goes_states, goes_through}
use Rattle.bihash_laws.proofs.call_time_laws.calls_go_on.Goals as goal

pub returns-clause-same : goal.returns-clause-same
returns-clause-same c = goes_same

pub returns-clause-through : goal.returns-clause-through
returns-clause-through c = goes_through

pub returns-clause-answered : goal.returns-clause-answered
returns-clause-answered c = goes_answered

pub returns-clause-contended : goal.returns-clause-contended
returns-clause-contended c = goes_contended

pub returns-clause-lone : goal.returns-clause-lone
returns-clause-lone c = goes_lone

pub returns-clause-not_closed : goal.returns-clause-not_closed
returns-clause-not_closed c = goes_not_closed

pub returns-clause-not_renewed : goal.returns-clause-not_renewed
returns-clause-not_renewed c = goes_not_renewed

pub returns-clause-split : goal.returns-clause-split
returns-clause-split c = goes_split

pub returns-clause-not_split : goal.returns-clause-not_split
returns-clause-not_split c = goes_not_split

pub returns-clause-met : goal.returns-clause-met
returns-clause-met c = goes_met

pub returns-clause-joined : goal.returns-clause-joined
returns-clause-joined c = goes_joined

pub returns-clause-states : goal.returns-clause-states
returns-clause-states c = goes_states
