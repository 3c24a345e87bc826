use Rattle.flow_dealing.proofs.Passing.{calls_in_turn, pass_at_place}
use Rattle.flow_dealing.proofs.worker_record_laws.packets_pass_at_their_places.Goals as goal

pub returns-clause-places : goal.returns-clause-places
returns-clause-places c = pass_at_place

pub returns-clause-own : goal.returns-clause-own
returns-clause-own c = calls_in_turn
