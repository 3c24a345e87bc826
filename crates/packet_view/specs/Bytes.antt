-- Bytes, and the numbers that they are in headers: in network byte order, the highest byte first.
use Rattle.std.specs.Prelude.{ℕ, ◌<◌, List, drop, slice_index}
use Rattle.byteorder.specs.Endian.{big_number}

-- the number in so many bytes from this place on
abbrev pub number_from : ℕ → ℕ → List ℕ → ℕ
number_from place width bytes = big_number width (drop place bytes)

-- numbers that are bytes
abbrev pub AreBytes : List ℕ → Type 0
AreBytes numbers = (place : ℕ) → slice_index numbers place < 256
