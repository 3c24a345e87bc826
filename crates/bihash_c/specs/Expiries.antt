-- Which values count as expired for C (this project's rule).
use Rattle.std.specs.Prelude.{ℕ, Bool, bit_and, nat_lt}

-- the bits of the value that the mask has are, as a number, below the least
abbrev pub is_below : ℕ → ℕ → ℕ → Bool
is_below mask least value = nat_lt (bit_and value mask) least
