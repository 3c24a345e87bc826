use Rattle.racl_views.proofs.ChosenLaws.{chosen_is_capture, chosen_is_capture_at}
use Rattle.racl_views.proofs.capture_of_chosen.chosen_packets_are_a_capture.Goals as goal

pub returns-clause-capture : goal.returns-clause-capture
returns-clause-capture c = chosen_is_capture

pub returns-clause-packets : goal.returns-clause-packets
returns-clause-packets c = chosen_is_capture_at
