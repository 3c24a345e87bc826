-- Packets that are taken one by one: from the records of a capture that was checked, or from a list.
use Rattle.std.specs.Prelude.{ℕ, List, map}
use Rattle.packet_view.specs.Captures.{PacketFacts, RecordFacts, packet_facts, packets_at}
use Rattle.packet_view.specs.RecordLists.{records_from}
use Rattle.packet_view.specs.declared.packets.Packets.{Packets}
use Rattle.packet_view.specs.declared.packets.Packets.TheVariants as kind
use Rattle.packet_view.specs.declared.packets_of_records.Records.{Records}

-- the records that are left
abbrev pub records_of : Records → List RecordFacts
records_of records = records_from records.order records.count records.bytes.now

-- their packets
abbrev pub packets_of : Records → List PacketFacts
packets_of records = packets_at records.interface (records_of records)

-- the packets that are left
abbrev pub remaining : Packets → List PacketFacts
remaining (kind.Slice packets) = map packet_facts packets.now
remaining (kind.Records records) = packets_of records
remaining (kind.Marked marked) = packets_of marked.records

-- packets of which some may be found already: those that are left, and how many of them are found
pub record BurstFacts : Type 0 where
  pub left : List PacketFacts
  pub ready : ℕ
