-- What the rules say of a packet, and the update and verdict that follow.
use Rattle.packet_view.specs.Tuples.{tuple_facts}
use Rattle.acl_policy.specs.Policies.{SectionFacts, rules_of}
use Rattle.acl_policy.proofs.RulingLaws.{some_ruling_of}
use Rattle.flow_filter.specs.declared.packet_flow.PacketFlow.{PacketFlow}
use Rattle.flow_filter.specs.PacketFlows.{IsRulingOn}
use Rattle.flow_filter.specs.Readings.{Ruling}

-- the rules of an interface say something of each packet
pub some_ruling : (section : SectionFacts) (p : PacketFlow) → (ruling : Ruling) × IsRulingOn section p ruling
some_ruling section p = some_ruling_of (rules_of p.direction section) (tuple_facts p.tuple.now)
