-- How long the addresses of a family are (RFC 791, section 3.1; RFC 8200, section 3).
use Rattle.std.specs.Prelude.{ℕ}
use Rattle.packet_view.specs.declared.tuple.Family.{Family}
use Rattle.packet_view.specs.declared.tuple.Family.TheVariants.{V4, V6}

-- the bits of an address
abbrev pub width : Family → ℕ
width V4 = 32
width V6 = 128
