-- The hash of a key (this project's profile; the mixing step is that of the generator SplitMix64).
use Rattle.std.specs.Prelude.{ℕ, ◌*◌, ◌/◌, ◌%◌, ◌^◌, List, bit_xor, fold}

-- the lowest 64 bits
abbrev pub low_64 : ℕ → ℕ
low_64 n = n % 2 ^ 64

-- three steps, with products modulo 2 ^ 64
abbrev pub mix : ℕ → ℕ
mix z =
    let a = low_64 (bit_xor z (z / 2 ^ 30) * 0xbf58476d1ce4e5b9) in
    let b = low_64 (bit_xor a (a / 2 ^ 27) * 0x94d049bb133111eb) in
    bit_xor b (b / 2 ^ 31)

-- the words in order, each mixed into what came before it
abbrev pub hash_of : List ℕ → ℕ
hash_of words = fold (λ mixed word. mix (bit_xor mixed word)) 0 words
