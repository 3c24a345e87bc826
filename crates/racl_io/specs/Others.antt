-- What a file is by its first bytes that isn't a capture of Ethernet (the pcapng format, RFC 1952, the xz format, RFC 8878, the
-- pcap format, and modified pcap as libpcap knows it).
use Rattle.std.specs.Prelude.{ℕ, Bool, false, ◌==◌, ◌&&◌, ◌||◌, List, length, nat_lt, Option, None, Some, is_some, if◌then◌else◌}
use Rattle.packet_view.specs.Captures.{link_type, number_from}
use Rattle.packet_view.specs.declared.capture.Order.{Order}
use Rattle.packet_view.specs.declared.capture.Order.TheVariants.{Little, Big}
use Rattle.racl_io.specs.declared.file_kind.Other.{Other}
use Rattle.racl_io.specs.declared.file_kind.Other.TheVariants.{Pcapng, Gzip, Xz, Zstd, Modified, Cooked}

-- the magic number of modified pcap
abbrev pub is_modified : Order → List ℕ → Bool
is_modified order bytes = number_from order 0 4 bytes == 0xa1b2cd34

-- the magic number of a classic pcap header in this order
abbrev pub is_pcap : Order → List ℕ → Bool
is_pcap order bytes = (number_from order 0 4 bytes == 0xa1b2c3d4) || (number_from order 0 4 bytes == 0xa1b23c4d)

-- a classic pcap header in this order, of Linux cooked frames, version 1 or 2
abbrev pub is_cooked : Order → List ℕ → Bool
is_cooked order bytes = is_pcap order bytes
    && ((link_type order bytes == 113) || (link_type order bytes == 276))

-- what is told of a whole header
abbrev pub other_by : List ℕ → Option Other
other_by bytes = if number_from Big 0 4 bytes == 0x0a0d0d0a then Some Pcapng
    else if number_from Big 0 2 bytes == 0x1f8b then Some Gzip
    else if number_from Big 0 4 bytes == 0xfd377a58 then Some Xz
    else if number_from Big 0 4 bytes == 0x28b52ffd then Some Zstd
    else if is_modified Little bytes || is_modified Big bytes then Some Modified
    else if is_cooked Little bytes || is_cooked Big bytes then Some Cooked
    else None

abbrev pub other_of : List ℕ → Option Other
other_of bytes = if nat_lt (length bytes) 24 then None else other_by bytes

-- a file that is a capture, whether it is read or not, or is compressed
abbrev pub is_capture : List ℕ → Bool
is_capture bytes = if nat_lt (length bytes) 24 then false
    else ((is_pcap Little bytes || is_pcap Big bytes) || is_some (other_by bytes))
