-- What the readers of a packet's words give, as functions on words. The notation itself is in Questions.
use Rattle.std.specs.Prelude.{ℕ, ◌^◌, Bool, ◌==◌, ◌||◌, nat_lt, List, codes, Option, Some, None, option_map, if◌then◌else◌}
use Rattle.std.specs.Str.{bytes_eq}
use Rattle.packet_view.specs.Addresses.{icmp_of}
use Rattle.packet_view.specs.Tuples.{TupleFacts}
use Rattle.packet_view.specs.declared.tuple.Direction.{Direction}
use Rattle.packet_view.specs.declared.tuple.Family.{Family}
use Rattle.packet_view.specs.declared.tuple.Fields.{Fields}
use Rattle.packet_view.specs.declared.tuple.Fields.TheVariants.{Absent, Icmp, Ports, Tcp}
use Rattle.acl_policy.specs.inner.WordReading.{if_last, next_in, ◌>>=◌}
use Rattle.acl_policy.specs.inner.WordReading.Numerals.{numeral_in, octet_in, pair_in}
use Rattle.acl_policy.specs.inner.WordReading.Prefixes.{address_in}
use Rattle.acl_policy.specs.inner.WordReading.Traffic.{after_in, number_up_to_in, protocol_in}
use Rattle.acl_policy.specs.inner.Reading.Lines.{direction_in}
use Rattle.packet_questions.specs.Questions.{QuestionFacts, family_of, same_family}

-- ---- words

-- one word, and the words after it
abbrev pub step : {A : Type 0} → (List ℕ → Option A) → List (List ℕ) → Option (A × List (List ℕ))
step read words = next_in words >>= λ next. option_map (λ value. (value, next.1)) (read next.0)

-- one word behind a name
unfoldable pub named_in : {A : Type 0} → List ℕ → (List ℕ → Option A) → List (List ℕ) → Option (A × List (List ℕ))
named_in name read words = after_in name words >>= λ rest. step read rest

abbrev pub below : ℕ → ℕ → Option ℕ
below limit n = if nat_lt n limit then Some n else None

unfoldable pub second_in : List ℕ → Option ℕ
second_in word = numeral_in 10 10 word >>= below (2 ^ 32)

-- ---- ends

unfoldable pub end_in : List ℕ → Option (Family × ℕ)
end_in word = option_map (λ address. (family_of word, address)) (address_in (family_of word) word)

-- a family, the address of the source, and that of the destination
pub record Ends : Type 0 where
  pub family : Family
  pub source : ℕ
  pub dest : ℕ

abbrev pub ends_by : Family × ℕ → Family × ℕ → Option Ends
ends_by a b = if same_family a.0 b.0 then Some (record { family = a.0; source = a.1; dest = b.1 }) else None

unfoldable pub ends_in : List (List ℕ) → Option (Ends × List (List ℕ))
ends_in words = do
  a ← step end_in words
  b ← step end_in a.1
  option_map (λ ends. (ends, b.1)) (ends_by a.0 b.0)

-- the ends, and their ports
unfoldable pub ported_in : List (List ℕ) → Option ((Ends × (ℕ × ℕ)) × List (List ℕ))
ported_in words = do
  a ← step end_in words
  from ← step (number_up_to_in 65535) a.1
  b ← step end_in from.1
  to ← step (number_up_to_in 65535) b.1
  option_map (λ ends. ((ends, (from.0, to.0)), to.1)) (ends_by a.0 b.0)

-- ---- packets

abbrev pub tuple_by : ℕ → Ends → ℕ → Fields → TupleFacts
tuple_by interface ends proto fields =
    record { interface = interface; family = ends.family; source = ends.source; dest = ends.dest; proto = proto; fields = fields }

unfoldable pub tcp_in : ℕ → List (List ℕ) → Option TupleFacts
tcp_in interface words = do
  ends ← ported_in words
  flags ← named_in (codes "flags") pair_in ends.1
  if_last (tuple_by interface ends.0.0 6 (Tcp ends.0.1.0 ends.0.1.1 flags.0)) flags.1

unfoldable pub udp_in : ℕ → List (List ℕ) → Option TupleFacts
udp_in interface words = do
  ends ← ported_in words
  if_last (tuple_by interface ends.0.0 17 (Ports ends.0.1.0 ends.0.1.1)) ends.1

unfoldable pub icmp_in : ℕ → List (List ℕ) → Option TupleFacts
icmp_in interface words = do
  ends ← ends_in words
  kind ← named_in (codes "type") (number_up_to_in 255) ends.1
  code ← named_in (codes "code") (number_up_to_in 255) kind.1
  if_last (tuple_by interface ends.0 (icmp_of ends.0.family) (Icmp kind.0 code.0)) code.1

-- a packet of this protocol that has no fields
abbrev pub bare : ℕ → Option ℕ → Ends × List (List ℕ) → Option TupleFacts
bare interface proto ends = proto >>= λ proto. if_last (tuple_by interface ends.0 proto Absent) ends.1

abbrev pub fragment_proto : Family → List ℕ → Option ℕ
fragment_proto family word = if bytes_eq word (codes "any") then None else protocol_in family word

unfoldable pub fragment_in : ℕ → List (List ℕ) → Option TupleFacts
fragment_in interface words = do
  proto ← next_in words
  ends ← ends_in proto.1
  bare interface (fragment_proto ends.0.family proto.0) ends

abbrev pub has_fields : Family → ℕ → Bool
has_fields family proto = (proto == 6) || ((proto == 17) || (proto == icmp_of family))

abbrev pub other_proto : Family → List ℕ → Option ℕ
other_proto family word = number_up_to_in 255 word >>= λ proto. if has_fields family proto then None else Some proto

unfoldable pub other_in : ℕ → List ℕ → List (List ℕ) → Option TupleFacts
other_in interface word words = ends_in words >>= λ ends. bare interface (other_proto ends.0.family word) ends

unfoldable pub carried_by : ℕ → List ℕ → List (List ℕ) → Option TupleFacts
carried_by interface word words =
    if bytes_eq word (codes "tcp") then tcp_in interface words
    else (if bytes_eq word (codes "udp") then udp_in interface words
    else (if bytes_eq word (codes "icmp") then icmp_in interface words
    else (if bytes_eq word (codes "fragment") then fragment_in interface words else other_in interface word words)))

unfoldable pub carried_in : ℕ → List (List ℕ) → Option TupleFacts
carried_in interface words = next_in words >>= λ next. carried_by interface next.0 next.1

-- ---- questions

-- the interface, by the words behind `if` or without
abbrev pub place_by : List (List ℕ) → Option (List (List ℕ)) → Option (ℕ × List (List ℕ))
place_by words None = Some (0, words)
place_by words (Some rest) = step octet_in rest

unfoldable pub place_in : List (List ℕ) → Option (ℕ × List (List ℕ))
place_in words = place_by words (after_in (codes "if") words)

unfoldable pub seen_in : ℕ → Direction → List (List ℕ) → Option QuestionFacts
seen_in moment direction words = do
  place ← place_in words
  option_map (λ tuple. record { moment = moment; direction = direction; tuple = tuple }) (carried_in place.0 place.1)

-- by what the first word says of the direction, the question whose first word says a second or isn't there
abbrev pub timed_by : ℕ → List ℕ → List (List ℕ) → Option Direction → Option QuestionFacts
timed_by before word words (Some direction) = seen_in before direction words
timed_by before word words None = second_in word >>= λ moment. step direction_in words >>= λ way. seen_in moment way.0 way.1

unfoldable pub question_in : ℕ → List (List ℕ) → Option QuestionFacts
question_in before words = next_in words >>= λ next. timed_by before next.0 next.1 (direction_in next.0)
