use Rattle.std.proofs.Common.{refl}
use Rattle.packet_questions.proofs.asked_packets.asked_of.Goals as goal

pub returns-in_default-clause-fault : goal.returns-in_default-clause-fault
returns-in_default-clause-fault c = (refl, c.form_of.ensures, λ q is. let none = c.in_default.ensures.accepts q is in cc)
