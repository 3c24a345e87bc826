-- The words of a packet of a direction at an interface, as `racl ask` takes them (this project's notation).
use Rattle.std.specs.Prelude.{ℕ, ◌==◌, List, ◌++◌, Option, None, Some, codes, decimal, if◌then◌else◌}
use Rattle.packet_view.specs.Addresses.{icmp_of}
use Rattle.packet_view.specs.Tuples.{TupleFacts}
use Rattle.packet_view.specs.declared.tuple.Direction.{Direction}
use Rattle.packet_view.specs.declared.tuple.Family.{Family}
use Rattle.packet_view.specs.declared.tuple.Fields.{Fields}
use Rattle.packet_view.specs.declared.tuple.Fields.TheVariants.{Absent, Icmp, Ports, Tcp}
use Rattle.acl_policy.specs.Lines.{direction_word}
use Rattle.racl_io.specs.Reports.{name_of}
use Rattle.packet_words.specs.PacketWords.{flags_text, policy_address}

abbrev pub end_words : Family → ℕ → ℕ → List ℕ
end_words family address port = policy_address family address ++ (codes " " ++ decimal port)

-- both ends without ports
abbrev pub bare_ends : TupleFacts → List ℕ
bare_ends tuple = policy_address tuple.family tuple.source ++ (codes " " ++ policy_address tuple.family tuple.dest)

-- both ends with their ports
abbrev pub ported_ends : TupleFacts → ℕ → ℕ → List ℕ
ported_ends tuple from to = end_words tuple.family tuple.source from ++ (codes " " ++ end_words tuple.family tuple.dest to)

-- a later fragment of a protocol that has fields, or a packet of another protocol
abbrev pub bare_protocol : Family → ℕ → List ℕ
bare_protocol family proto =
    if proto == 6 then codes "fragment tcp "
    else (if proto == 17 then codes "fragment udp "
    else (if proto == icmp_of family then codes "fragment icmp " else decimal proto ++ codes " "))

abbrev pub kind_and_code : ℕ → ℕ → List ℕ
kind_and_code kind code = codes " type " ++ (decimal kind ++ (codes " code " ++ decimal code))

abbrev pub carried_words : TupleFacts → Fields → List ℕ
carried_words tuple Absent = bare_protocol tuple.family tuple.proto ++ bare_ends tuple
carried_words tuple (Ports from to) = codes "udp " ++ ported_ends tuple from to
carried_words tuple (Tcp from to flags) = codes "tcp " ++ (ported_ends tuple from to ++ flags_text flags)
carried_words tuple (Icmp kind code) = codes "icmp " ++ (bare_ends tuple ++ kind_and_code kind code)

-- a word on the interface, but where it is 0
abbrev pub named_at : ℕ → Option ℕ
named_at interface = if interface == 0 then None else Some interface

abbrev pub way_words : Direction → ℕ → List ℕ
way_words direction interface = direction_word direction ++ (codes " " ++ name_of (named_at interface))
