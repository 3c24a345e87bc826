use Rattle.std.proofs.Common.{arith}
use Rattle.std.proofs.lemmas.Grind.{common_steps}
use Rattle.packet_view.proofs.ipv4.packet.Goals as goal

pub returns : goal.returns
returns c = grind (arith, common_steps)
