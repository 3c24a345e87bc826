-- The frame of a packet that is written in words (IEEE 802.3; RFC 791, section 3.1; RFC 8200, sections 3 and 4.5; RFC 9293,
-- section 3.1; RFC 768; RFC 792; RFC 4443). Checksums are 0, and what the filter doesn't look at.
use Rattle.std.specs.Prelude.{ℕ, ◌+◌, ◌==◌, if◌then◌else◌, List, [], ◌∷◌, ◌++◌, length, slice_index, Option, None, Some}
use Rattle.std.specs.Int.{to_be_bytes, w16, w32, w128}
use Rattle.packet_view.specs.Frames.{FrameFacts, Ip}
use Rattle.packet_view.specs.Tuples.{TupleFacts}
use Rattle.packet_view.specs.declared.tuple.Direction.{Direction}
use Rattle.packet_view.specs.declared.tuple.Direction.TheVariants.{Inbound, Outbound}
use Rattle.packet_view.specs.declared.tuple.Family.TheVariants.{V4, V6}
use Rattle.packet_view.specs.declared.tuple.Family.{Family}
use Rattle.packet_view.specs.declared.tuple.Fields.{Fields}
use Rattle.packet_view.specs.declared.tuple.Fields.TheVariants.{Absent, Icmp, Ports, Tcp}
use Rattle.packet_view.specs.declared.tuple.Mac.{Mac}
use Rattle.packet_questions.specs.Questions.{QuestionFacts}

abbrev pub six_zeros : List ℕ
six_zeros = 0 ∷ 0 ∷ 0 ∷ 0 ∷ 0 ∷ 0 ∷ []

-- The Ethernet source: the own address of a frame that goes out, and another one of a frame that comes in.
abbrev pub ethernet_source : Direction → Option Mac → List ℕ
ethernet_source direction None = six_zeros
ethernet_source Outbound (Some own) = own.0
ethernet_source Inbound (Some own) = (if slice_index own.0 0 == 0 then 2 else 0) ∷ 0 ∷ 0 ∷ 0 ∷ 0 ∷ 0 ∷ []

-- what follows the IP headers
abbrev pub content_of : Fields → List ℕ
content_of Absent = 0 ∷ 0 ∷ 0 ∷ 0 ∷ 0 ∷ 0 ∷ 0 ∷ 0 ∷ []
content_of (Ports from to) = to_be_bytes w16 from ++ (to_be_bytes w16 to ++ (0 ∷ 8 ∷ 0 ∷ 0 ∷ []))
content_of (Tcp from to flags) = to_be_bytes w16 from ++ (to_be_bytes w16 to
    ++ (0 ∷ 0 ∷ 0 ∷ 0 ∷ 0 ∷ 0 ∷ 0 ∷ 0 ∷ 0x50 ∷ flags ∷ 0 ∷ 0 ∷ 0 ∷ 0 ∷ 0 ∷ 0 ∷ []))
content_of (Icmp kind code) = kind ∷ code ∷ 0 ∷ 0 ∷ 0 ∷ 0 ∷ 0 ∷ 0 ∷ []

-- a packet without fields is written as its second fragment, eight bytes from the first
abbrev pub fragment_place : Fields → ℕ
fragment_place Absent = 1
fragment_place (Ports from to) = 0
fragment_place (Tcp from to flags) = 0
fragment_place (Icmp kind code) = 0

abbrev pub ipv4_bytes : TupleFacts → List ℕ
ipv4_bytes t = (0x45 ∷ 0 ∷ []) ++ (to_be_bytes w16 (20 + length (content_of t.fields))
    ++ ((0 ∷ 0 ∷ 0 ∷ fragment_place t.fields ∷ 64 ∷ t.proto ∷ 0 ∷ 0 ∷ [])
    ++ (to_be_bytes w32 t.source ++ (to_be_bytes w32 t.dest ++ content_of t.fields))))

-- what follows the IPv6 header: the fragment header of a packet without fields, and the content
abbrev pub behind_ipv6 : TupleFacts → Fields → List ℕ
behind_ipv6 t Absent = (t.proto ∷ 0 ∷ 0 ∷ 8 ∷ 0 ∷ 0 ∷ 0 ∷ 1 ∷ []) ++ content_of Absent
behind_ipv6 t (Ports from to) = content_of (Ports from to)
behind_ipv6 t (Tcp from to flags) = content_of (Tcp from to flags)
behind_ipv6 t (Icmp kind code) = content_of (Icmp kind code)

abbrev pub next_header : TupleFacts → Fields → ℕ
next_header t Absent = 44
next_header t (Ports from to) = t.proto
next_header t (Tcp from to flags) = t.proto
next_header t (Icmp kind code) = t.proto

abbrev pub ipv6_bytes : TupleFacts → List ℕ
ipv6_bytes t = (0x60 ∷ 0 ∷ 0 ∷ 0 ∷ []) ++ (to_be_bytes w16 (length (behind_ipv6 t t.fields))
    ++ ((next_header t t.fields ∷ 64 ∷ [])
    ++ (to_be_bytes w128 t.source ++ (to_be_bytes w128 t.dest ++ behind_ipv6 t t.fields))))

-- the Ethernet type and the packet
abbrev pub packet_bytes : TupleFacts → Family → List ℕ
packet_bytes t V4 = (0x08 ∷ 0 ∷ []) ++ ipv4_bytes t
packet_bytes t V6 = (0x86 ∷ 0xdd ∷ []) ++ ipv6_bytes t

-- the frame of the packet at an interface with this own address
abbrev pub frame_bytes : Option Mac → QuestionFacts → List ℕ
frame_bytes own q = six_zeros ++ (ethernet_source q.direction own ++ packet_bytes q.tuple q.tuple.family)

-- as which packet it is to be seen there
abbrev pub seen_facts : QuestionFacts → FrameFacts
seen_facts q = Ip q.direction q.tuple
