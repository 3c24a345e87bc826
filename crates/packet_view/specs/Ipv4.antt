-- IPv4 packets (RFC 791, section 3.1).
use Rattle.std.specs.Prelude.{◌≡◌, ◌≢◌, ◌≤◌, ◌<◌, ◌⊎◌, ℕ, ◌+◌, ◌*◌, ◌/◌, ◌%◌, List, ◌++◌, length, slice_index}
use Rattle.packet_view.specs.Bytes.{number_from}
use Rattle.packet_view.specs.IpPackets.{Upper, LaterFragment, Payload, extent}

abbrev pub version : List ℕ → ℕ
version packet = slice_index packet 0 / 16

-- in bytes; the field counts words of four
abbrev pub header_length : List ℕ → ℕ
header_length packet = slice_index packet 0 % 16 * 4

abbrev pub total_length : List ℕ → ℕ
total_length packet = number_from 2 2 packet

-- the low thirteen bits of two bytes
abbrev pub fragment_offset : List ℕ → ℕ
fragment_offset packet = number_from 6 2 packet % 8192

abbrev pub protocol : List ℕ → ℕ
protocol packet = slice_index packet 9

abbrev pub source : List ℕ → ℕ
source packet = number_from 12 4 packet

abbrev pub dest : List ℕ → ℕ
dest packet = number_from 16 4 packet

-- a header that is whole, and a total length that holds it or is 0
pub record HasIpv4Header (packet : List ℕ) : Type 0 where
  pub least : 20 ≤ length packet
  pub four : version packet ≡ 4
  pub five_words : 20 ≤ header_length packet
  pub whole : header_length packet ≤ length packet
  pub holds_header : (total_length packet ≡ 0) ⊎ (header_length packet ≤ total_length packet)

-- a header that isn't whole or not of this version, or a total length that doesn't hold it
abbrev pub IsMalformed : List ℕ → Type 0
IsMalformed packet =
    (length packet < 20) ⊎ (version packet ≢ 4) ⊎ (header_length packet < 20) ⊎ (length packet < header_length packet)
    ⊎ ((total_length packet ≢ 0) × (total_length packet < header_length packet))

-- The payload follows the header, options and all, and before the packet's end: at its total length or
-- at the end of the bytes, whichever comes first.
pub record HasPayload (packet payload : List ℕ) : Type 0 where
  pub header : List ℕ
  pub trailer : List ℕ
  pub spelt : packet ≡ header ++ (payload ++ trailer)
  pub header_end : length header ≡ header_length packet
  pub packet_end : length header + length payload ≡ extent (total_length packet) (length packet)

-- a fragment other than the first has an offset
abbrev pub Carries : List ℕ → Upper → Type 0
Carries packet (LaterFragment proto) = HasIpv4Header packet × (fragment_offset packet ≢ 0) × (proto ≡ protocol packet)
Carries packet (Payload proto payload) =
    HasIpv4Header packet × (fragment_offset packet ≡ 0) × (proto ≡ protocol packet) × HasPayload packet payload
