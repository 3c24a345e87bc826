-- What the readers of protocols and their parts give.
use Rattle.std.specs.Prelude.{ℕ, nat_le, List, [], ◌∷◌, codes, Option, Some, None, option_map, if◌then◌else◌}
use Rattle.std.specs.Str.{bytes_eq}
use Rattle.packet_view.specs.Addresses.{icmp_of}
use Rattle.packet_view.specs.declared.tuple.Family.{Family}
use Rattle.acl_policy.specs.declared.protocol_parts.Traffic.{Traffic}
use Rattle.acl_policy.specs.inner.WordReading.{at_most, if_last, next_in, ◌>>=◌}
use Rattle.acl_policy.specs.inner.WordReading.Numerals.{cut_in, number_in, pair_in}
use Rattle.acl_policy.specs.Traffic.{OfIcmp, OfNone, OfTcp, OfUdp, Parts, every, parts_of}

unfoldable pub number_up_to_in : ℕ → List ℕ → Option ℕ
number_up_to_in most word = number_in word >>= at_most most

unfoldable pub protocol_in : Family → List ℕ → Option ℕ
protocol_in family word =
    if bytes_eq word (codes "any") then Some 0
    else (if bytes_eq word (codes "tcp") then Some 6
    else (if bytes_eq word (codes "udp") then Some 17
    else (if bytes_eq word (codes "icmp") then Some (icmp_of family) else number_up_to_in 255 word)))

abbrev pub range_in_parts : ℕ → List ℕ → Option (List ℕ × List ℕ) → Option (ℕ × ℕ)
range_in_parts most word None = option_map (λ n. (n, n)) (number_up_to_in most word)
range_in_parts most word (Some cut) =
    number_up_to_in most cut.0 >>= λ low. number_up_to_in most cut.1 >>= λ high. if nat_le low high then Some (low, high) else None

unfoldable pub range_in : ℕ → List ℕ → Option (ℕ × ℕ)
range_in most word = range_in_parts most word (cut_in 45 word)

unfoldable pub flags_in : List ℕ → Option (ℕ × ℕ)
flags_in word = do
  cut ← cut_in 47 word
  value ← pair_in cut.0
  mask ← pair_in cut.1
  Some (value, mask)

-- the words after a name
unfoldable pub after_in : List ℕ → List (List ℕ) → Option (List (List ℕ))
after_in name words = next_in words >>= λ next. if bytes_eq next.0 name then Some next.1 else None

-- the value of a part, and the words after it, where the words after its name are known
abbrev pub value_in : (List ℕ → Option (ℕ × ℕ)) → ℕ × ℕ → List (List ℕ) → Option (List (List ℕ)) → Option ((ℕ × ℕ) × List (List ℕ))
value_in read usual words None = Some (usual, words)
value_in read usual words (Some rest) = next_in rest >>= λ next. option_map (λ value. (value, next.1)) (read next.0)

-- the value of a part, and the words after it; the usual value where the part isn't the first
unfoldable pub part_in : List ℕ → (List ℕ → Option (ℕ × ℕ)) → ℕ × ℕ → List (List ℕ) → Option ((ℕ × ℕ) × List (List ℕ))
part_in name read usual words = value_in read usual words (after_in name words)

abbrev pub made : ℕ → ℕ × ℕ → ℕ × ℕ → ℕ × ℕ → Traffic
made proto first second flags = record { proto = proto; first = first; second = second; value = flags.0; mask = flags.1 }

-- two parts with ranges, and the words after them
unfoldable pub ranges_in : ℕ → List ℕ → List ℕ → List (List ℕ) → Option ((ℕ × ℕ) × (ℕ × ℕ) × List (List ℕ))
ranges_in most one two words = do
  first ← part_in one (range_in most) every words
  second ← part_in two (range_in most) every first.1
  Some (first.0, second.0, second.1)

-- the ranges that may follow a protocol, and the words after them
unfoldable pub protocol_ranges_in : Parts → List (List ℕ) → Option ((ℕ × ℕ) × (ℕ × ℕ) × List (List ℕ))
protocol_ranges_in OfTcp words = ranges_in 65535 (codes "sport") (codes "dport") words
protocol_ranges_in OfUdp words = ranges_in 65535 (codes "sport") (codes "dport") words
protocol_ranges_in OfIcmp words = ranges_in 255 (codes "type") (codes "code") words
protocol_ranges_in OfNone words = Some (every, every, words)

-- the flags that may follow a protocol, and the words after them
unfoldable pub protocol_flags_in : Parts → List (List ℕ) → Option ((ℕ × ℕ) × List (List ℕ))
protocol_flags_in OfTcp words = part_in (codes "flags") flags_in (0, 0) words
protocol_flags_in OfUdp words = Some ((0, 0), words)
protocol_flags_in OfIcmp words = Some ((0, 0), words)
protocol_flags_in OfNone words = Some ((0, 0), words)

unfoldable pub parts_in : Parts → ℕ → List (List ℕ) → Option Traffic
parts_in parts proto words = do
  ranges ← protocol_ranges_in parts words
  flags ← protocol_flags_in parts ranges.2
  if_last (made proto ranges.0 ranges.1 flags.0) flags.1

unfoldable pub traffic_in : Family → List (List ℕ) → Option Traffic
traffic_in family [] = Some (made 0 every every (0, 0))
traffic_in family (word ∷ words) = protocol_in family word >>= λ proto. parts_in (parts_of family proto) proto words
