-- The words for what a packet is (this project's profile; addresses as RFC 5952 writes them).
use Rattle.std.specs.Prelude.{ℕ, ◌/◌, ◌%◌, ◌==◌, List, [], ◌∷◌, ◌++◌, codes, decimal, if◌then◌else◌}
use Rattle.std.specs.Char.{digit_char}
use Rattle.std.specs.Int.{to_be_bytes, w32, w128}
use Rattle.std.specs.Net.Addr.{segments_of}
use Rattle.std.specs.Net.Text.{hex_groups_text, ipv4_text, ipv6_text}
use Rattle.packet_view.specs.Addresses.{icmp_of}
use Rattle.packet_view.specs.declared.tuple.Family.{Family}
use Rattle.packet_view.specs.declared.tuple.Family.TheVariants.{V4, V6}

-- a word and a number
abbrev pub numbered : List ℕ → ℕ → List ℕ
numbered word number = word ++ decimal number

-- the name of a protocol as policies write it, or its number
abbrev pub protocol_text : Family → ℕ → List ℕ
protocol_text family proto =
    if proto == 6 then codes "tcp"
    else (if proto == 17 then codes "udp" else (if proto == icmp_of family then codes "icmp" else numbered (codes "protocol ") proto))

abbrev pub address_text : Family → ℕ → List ℕ
address_text V4 address = ipv4_text (to_be_bytes w32 address)
address_text V6 address = ipv6_text (segments_of (to_be_bytes w128 address))

-- as policies write it: one of IPv6 in groups alone, also where it has an address of IPv4 within
abbrev pub policy_address : Family → ℕ → List ℕ
policy_address V4 address = ipv4_text (to_be_bytes w32 address)
policy_address V6 address = hex_groups_text (segments_of (to_be_bytes w128 address))

-- flags of TCP, in two hexadecimal digits
abbrev pub flags_text : ℕ → List ℕ
flags_text flags = codes " flags " ++ digit_char (flags / 16) ∷ digit_char (flags % 16) ∷ []
