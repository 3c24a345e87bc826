-- What is told of a packet: where and when it was seen, and what it carries (this project's profile).
use Rattle.std.specs.Prelude.{ℕ, ◌==◌, ◌||◌, List, [], ◌++◌, codes, if◌then◌else◌}
use Rattle.packet_view.specs.Addresses.{icmp_of}
use Rattle.packet_view.specs.Frames.{FrameFacts, Ip, Malformed, NotIp, Short}
use Rattle.packet_view.specs.Tuples.{TupleFacts}
use Rattle.packet_view.specs.declared.tuple.Direction.TheVariants.{Inbound, Outbound}
use Rattle.packet_view.specs.declared.tuple.Family.{Family}
use Rattle.packet_view.specs.declared.tuple.Fields.{Fields}
use Rattle.packet_view.specs.declared.tuple.Fields.TheVariants.{Absent, Icmp, Ports, Tcp}
use Rattle.packet_words.specs.PacketWords.{address_text, flags_text, numbered, protocol_text}

-- what follows the address of the source
abbrev pub from_told : Fields → List ℕ
from_told Absent = []
from_told (Ports from to) = numbered (codes " port ") from
from_told (Tcp from to flags) = numbered (codes " port ") from
from_told (Icmp kind code) = []

-- what follows that of the destination; of a protocol with ports or types a packet without them is a fragment other than the first
abbrev pub to_told : Family → ℕ → Fields → List ℕ
to_told family proto Absent = if (proto == 6) || ((proto == 17) || (proto == icmp_of family)) then codes " later fragment" else []
to_told family proto (Ports from to) = numbered (codes " port ") to
to_told family proto (Tcp from to flags) = numbered (codes " port ") to ++ flags_text flags
to_told family proto (Icmp kind code) = numbered (codes " type ") kind ++ numbered (codes " code ") code

abbrev pub tuple_told : TupleFacts → List ℕ
tuple_told tuple = (codes " " ++ protocol_text tuple.family tuple.proto)
    ++ ((codes " " ++ address_text tuple.family tuple.source) ++ (from_told tuple.fields
    ++ ((codes " to " ++ address_text tuple.family tuple.dest) ++ to_told tuple.family tuple.proto tuple.fields)))

-- what a packet carries, where that is seen
abbrev pub carried_told : FrameFacts → List ℕ
carried_told NotIp = []
carried_told Malformed = []
carried_told Short = []
carried_told (Ip direction tuple) = tuple_told tuple

-- which way it goes at the interface, where that is seen
abbrev pub way_told : FrameFacts → List ℕ
way_told NotIp = []
way_told Malformed = []
way_told Short = []
way_told (Ip Inbound tuple) = codes " in"
way_told (Ip Outbound tuple) = codes " out"

-- at which interface and second the packet was seen
abbrev pub seen_told : ℕ → ℕ → FrameFacts → List ℕ
seen_told interface moment view = numbered (codes " | interface ") interface ++ (way_told view ++ numbered (codes " time ") moment)

-- and what it carries
abbrev pub packet_told : ℕ → ℕ → FrameFacts → List ℕ
packet_told interface moment view = seen_told interface moment view ++ carried_told view
