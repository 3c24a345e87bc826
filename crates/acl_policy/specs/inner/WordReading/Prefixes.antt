-- What the readers of addresses and prefixes give.
use Rattle.std.specs.Prelude.{ℕ, ◌+◌, ◌-◌, ◌*◌, ◌^◌, Bool, ◌&&◌, ◌==◌, zero, suc, nat_le, List, [], ◌∷◌, length, take, drop, position, codes, Option, Some, None, option_map, if◌then◌else◌}
use Rattle.std.specs.List.{zip}
use Rattle.std.specs.Str.{bytes_eq}
use Rattle.packet_view.specs.declared.tuple.Family.{Family}
use Rattle.packet_view.specs.declared.tuple.Family.TheVariants.{V4, V6}
use Rattle.packet_view.specs.declared.tuple.Mac.{Mac}
use Rattle.acl_policy.specs.inner.WordReading.{at_most, ◌>>=◌}
use Rattle.acl_policy.specs.inner.WordReading.Numerals.{cut_in, group_in, number_in, octet_in, pair_in, piece_in}
use Rattle.acl_policy.specs.Widths.{width}

unfoldable pub mac_in : List ℕ → Option Mac
mac_in word = do
  a ← piece_in 58 pair_in word
  b ← piece_in 58 pair_in a.1
  c ← piece_in 58 pair_in b.1
  d ← piece_in 58 pair_in c.1
  e ← piece_in 58 pair_in d.1
  f ← pair_in e.1
  Some (record { 0 = a.0 ∷ b.0 ∷ c.0 ∷ d.0 ∷ e.0 ∷ f ∷ [] })

unfoldable pub four_parts_in : List ℕ → Option ℕ
four_parts_in word = do
  a ← piece_in 46 octet_in word
  b ← piece_in 46 octet_in a.1
  c ← piece_in 46 octet_in b.1
  d ← octet_in c.1
  Some (((a.0 * 256 + b.0) * 256 + c.0) * 256 + d)

-- The last group of a text, or its first and more after it, after those that make a number.
abbrev pub groups_step : ℕ → ℕ → (ℕ → List ℕ → Option (ℕ × ℕ)) → List ℕ → Option (List ℕ × List ℕ) → Option (ℕ × ℕ)
groups_step number count more text None = option_map (λ n. (number * 65536 + n, count + 1)) (group_in text)
groups_step number count more text (Some cut) = group_in cut.0 >>= λ n. more (number * 65536 + n) cut.1

-- The groups of a text as one number and how many they are, after those that make a number; at most so many.
unfoldable pub groups_after : ℕ → ℕ → ℕ → List ℕ → Option (ℕ × ℕ)
groups_after zero number count text = None
groups_after (suc most) number count text = groups_step number count (λ n rest. groups_after most n (count + 1) rest) text (cut_in 58 text)

-- no group, or at most eight
unfoldable pub groups_in : List ℕ → Option (ℕ × ℕ)
groups_in text = if length text == 0 then Some (0, 0) else groups_after 8 0 0 text

abbrev pub is_double : ℕ × ℕ → Bool
is_double pair = (pair.0 == 58) && (pair.1 == 58)

-- what stands before the first "::", and what after it
unfoldable pub cut_double_in : List ℕ → Option (List ℕ × List ℕ)
cut_double_in word = option_map (λ i. (take i word, drop (i + 2) word)) (position is_double (zip word (drop 1 word)))

-- groups at both ends of an address, with at least one of zeros between them
abbrev pub spread : ℕ × ℕ → ℕ × ℕ → Option ℕ
spread front back = if nat_le (front.1 + back.1) 7 then Some (front.0 * 65536 ^ (8 - front.1) + back.0) else None

abbrev pub all_groups : ℕ × ℕ → Option ℕ
all_groups groups = if groups.1 == 8 then Some groups.0 else None

abbrev pub six_in_parts : List ℕ → Option (List ℕ × List ℕ) → Option ℕ
six_in_parts word None = groups_in word >>= all_groups
six_in_parts word (Some cut) = groups_in cut.0 >>= λ front. groups_in cut.1 >>= spread front

unfoldable pub groups_address_in : List ℕ → Option ℕ
groups_address_in word = six_in_parts word (cut_double_in word)

abbrev pub address_in : Family → List ℕ → Option ℕ
address_in V4 word = four_parts_in word
address_in V6 word = groups_address_in word

abbrev pub prefix_in_parts : Family → List ℕ → Option (List ℕ × List ℕ) → Option (ℕ × ℕ)
prefix_in_parts family word None = option_map (λ address. (address, width family)) (address_in family word)
prefix_in_parts family word (Some cut) =
    address_in family cut.0 >>= λ address. number_in cut.1 >>= λ bits. option_map (λ bits. (address, bits)) (at_most (width family) bits)

unfoldable pub prefix_in : Family → List ℕ → Option (ℕ × ℕ)
prefix_in family word = if bytes_eq word (codes "any") then Some (0, 0) else prefix_in_parts family word (cut_in 47 word)
