-- Which addresses fit a family, and which fields fit a protocol (RFC 791, RFC 8200, RFC 792, RFC 4443).
use Rattle.std.specs.Prelude.{ℕ, ◌^◌, Bool, true, ◌==◌}
use Rattle.packet_view.specs.declared.tuple.Family.{Family}
use Rattle.packet_view.specs.declared.tuple.Family.TheVariants.{V4, V6}
use Rattle.packet_view.specs.declared.tuple.Fields.{Fields}
use Rattle.packet_view.specs.declared.tuple.Fields.TheVariants.{Absent, Ports, Tcp, Icmp}

-- addresses of the family are below this
abbrev pub address_limit : Family → ℕ
address_limit V4 = 2 ^ 32
address_limit V6 = 2 ^ 128

-- the protocol number of the family's ICMP
abbrev pub icmp_of : Family → ℕ
icmp_of V4 = 1
icmp_of V6 = 58

-- fields of this kind may stand beside the protocol
abbrev pub fields_suit : Family → ℕ → Fields → Bool
fields_suit family proto Absent = true
fields_suit family proto (Ports from to) = proto == 17
fields_suit family proto (Tcp from to flags) = proto == 6
fields_suit family proto (Icmp kind code) = proto == icmp_of family
