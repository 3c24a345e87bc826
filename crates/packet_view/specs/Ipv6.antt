-- IPv6 packets and their extension headers (RFC 8200, sections 3 and 4).
use Rattle.std.specs.Prelude.{◌≡◌, ◌≢◌, ◌≤◌, ◌<◌, ◌⊎◌, ℕ, ◌+◌, ◌-◌, ◌*◌, ◌/◌, Bool, false, ◌||◌, ◌==◌, if◌then◌else◌, List, [], ◌∷◌, ◌++◌, length, slice_index, IsTrue}
use Rattle.std.specs.List.{concat}
use Rattle.packet_view.specs.Bytes.{number_from}
use Rattle.packet_view.specs.IpPackets.{Upper, LaterFragment, Payload, extent}

abbrev pub version : List ℕ → ℕ
version packet = slice_index packet 0 / 16

-- counted after the forty bytes of the header
abbrev pub payload_length : List ℕ → ℕ
payload_length packet = number_from 4 2 packet

abbrev pub next_header : List ℕ → ℕ
next_header packet = slice_index packet 6

abbrev pub source : List ℕ → ℕ
source packet = number_from 8 16 packet

abbrev pub dest : List ℕ → ℕ
dest packet = number_from 24 16 packet

-- hop-by-hop options, routing, fragment and destination options
abbrev pub is_extension : ℕ → Bool
is_extension number = (number == 0) || (number == 43) || (number == 44) || (number == 60)

-- The bytes of the extension header of this number that begins here. A fragment header has eight. The others
-- say in their second byte how many more than eight they have, in eights.
abbrev pub extension_length : ℕ → List ℕ → ℕ
extension_length number bytes = if number == 44 then 8 else (slice_index bytes 1 + 1) * 8

-- the upper thirteen bits of two bytes, in eights of bytes
abbrev pub fragment_offset : List ℕ → ℕ
fragment_offset header = number_from 2 2 header / 8

-- an extension header that is skipped: each that is whole, but for the fragment header of a later fragment
pub record IsSkipped (number : ℕ) (header : List ℕ) : Type 0 where
  pub known : IsTrue (is_extension number)
  pub whole : length header ≡ extension_length number header
  pub first_fragment : number ≡ 44 → fragment_offset header ≡ 0

-- Headers one after another. The first has this number, and the first byte of each is the number of the next
-- header, after the last one of what follows them.
abbrev pub IsChain : ℕ → List (List ℕ) → ℕ → Type 0
IsChain number [] next = number ≡ next
IsChain number (header ∷ headers) next = IsSkipped number header × IsChain (slice_index header 0) headers next

-- After the first forty bytes and these skipped headers stands, under this number, the rest of the packet. It
-- ends by the payload length or with the bytes, whichever comes first.
pub record Skips (packet : List ℕ) (skipped : List (List ℕ)) (next : ℕ) (rest : List ℕ) : Type 0 where
  pub header : List ℕ
  pub trailer : List ℕ
  pub spelt : packet ≡ header ++ ((concat skipped ++ rest) ++ trailer)
  pub header_end : length header ≡ 40
  pub packet_end : length (concat skipped ++ rest) ≡ extent (payload_length packet) (length packet - 40)
  pub chain : IsChain (next_header packet) skipped next
  pub at_most_eight : length skipped ≤ 8

-- Fewer than forty bytes, another version, or after skipped headers an extension header that is the ninth or that
-- the packet ends within.
abbrev pub IsMalformed : List ℕ → Type 0
IsMalformed packet =
    (length packet < 40) ⊎ (version packet ≢ 6)
    ⊎ ((skipped : List (List ℕ)) × (next : ℕ) × (rest : List ℕ) × Skips packet skipped next rest × IsTrue (is_extension next)
    × ((length skipped ≡ 8) ⊎ (length rest < extension_length next rest)))

-- The fragment header of a later fragment ends the chain, as one of the eight. The protocol is the number in it.
abbrev pub Carries : List ℕ → Upper → Type 0
Carries packet (LaterFragment proto) =
    (version packet ≡ 6) × (skipped : List (List ℕ)) × (header rest : List ℕ) × Skips packet skipped 44 (header ++ rest)
    × (length skipped < 8) × (length header ≡ 8) × (fragment_offset header ≢ 0) × (proto ≡ slice_index header 0)
Carries packet (Payload proto payload) =
    (version packet ≡ 6) × (skipped : List (List ℕ)) × Skips packet skipped proto payload × (is_extension proto ≡ false)
