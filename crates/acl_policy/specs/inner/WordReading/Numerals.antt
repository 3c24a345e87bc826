-- What the readers of numbers give.
use Rattle.std.specs.Prelude.{ℕ, ◌+◌, Bool, ◌&&◌, not, nat_le, ◌==◌, List, length, take, drop, position, Option, Some, None, option_map, if◌then◌else◌}
use Rattle.std.specs.Char.{is_digit}
use Rattle.std.specs.List.{list_all}
use Rattle.std.specs.Str.Parse.{digits_value}
use Rattle.acl_policy.specs.inner.WordReading.{at_most, ◌>>=◌}

abbrev pub is_numeral : ℕ → ℕ → List ℕ → Bool
is_numeral base most word = not (length word == 0) && nat_le (length word) most && list_all (λ b. is_digit b base) word

unfoldable pub numeral_in : ℕ → ℕ → List ℕ → Option ℕ
numeral_in base most word = if is_numeral base most word then Some (digits_value base word) else None

unfoldable pub number_in : List ℕ → Option ℕ
number_in word = numeral_in 10 5 word

unfoldable pub octet_in : List ℕ → Option ℕ
octet_in word = numeral_in 10 3 word >>= at_most 255

unfoldable pub group_in : List ℕ → Option ℕ
group_in word = numeral_in 16 4 word

unfoldable pub pair_in : List ℕ → Option ℕ
pair_in word = if length word == 2 then numeral_in 16 2 word else None

-- what stands before the first such byte, and what after it
unfoldable pub cut_in : ℕ → List ℕ → Option (List ℕ × List ℕ)
cut_in byte word = option_map (λ i. (take i word, drop (i + 1) word)) (position (λ b. b == byte) word)

-- the number in front of such a byte, and what follows it
unfoldable pub piece_in : ℕ → (List ℕ → Option ℕ) → List ℕ → Option (ℕ × List ℕ)
piece_in byte read word = cut_in byte word >>= λ cut. option_map (λ n. (n, cut.1)) (read cut.0)
