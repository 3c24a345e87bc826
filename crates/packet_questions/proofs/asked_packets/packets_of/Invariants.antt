use Rattle.std.specs.Prelude.{◌≡◌, map, take}
use Rattle.packet_view.specs.Captures.{packet_facts}
use Rattle.packet_questions.specs.Answers.{asked_facts, packet_asked}
use Rattle.packet_questions.proofs.asked_packets.packets_of.Given as goal

-- the packets so far
abbrev pub invariant-loop-one : goal.invariant-loop-one
invariant-loop-one l = map packet_facts l.packets.items ≡ map packet_asked (map asked_facts (take l.one-index l.asked))
