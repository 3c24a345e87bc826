-- A packet that takes part in sessions, as the filter reads it.
use Rattle.packet_view.specs.Tuples.{tuple_facts}
use Rattle.acl_policy.specs.Matching.{IsRuling}
use Rattle.acl_policy.specs.Policies.{SectionFacts, rules_of}
use Rattle.session_state.specs.declared.timeouts.Timeouts.{Timeouts}
use Rattle.flow_filter.specs.declared.packet_flow.PacketFlow.{PacketFlow}
use Rattle.flow_filter.specs.Readings.{Reading, Ruled, Ruling}
use Rattle.flow_filter.specs.Updates.{Update, update_in}

-- the rules of its interface say this of the packet
abbrev pub IsRulingOn : SectionFacts → PacketFlow → Ruling → Type 0
IsRulingOn section p ruling = IsRuling (rules_of p.direction section) (tuple_facts p.tuple.now) ruling

-- the packet's reading, under what the rules say of it
abbrev pub reading_of : PacketFlow → Ruling → Reading
reading_of p ruling = Ruled p.moment (tuple_facts p.tuple.now) ruling

-- the packet's update, under what the rules say of it
abbrev pub update_by : Timeouts → PacketFlow → Ruling → Update
update_by times p ruling = update_in times p.moment (tuple_facts p.tuple.now) ruling p.flow.now
