use Rattle.racl_views.proofs.FlowKeyLemmas.{packet_told}
use Rattle.racl_views.proofs.flow_key.keys_tell_their_flows.Goals as goal

pub returns : goal.returns
returns c = packet_told
