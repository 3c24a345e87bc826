-- A packet that is written in words: when and where it is seen, which way it goes, and what it carries (this project's
-- notation).
use Rattle.std.specs.Prelude.{◌≡◌, ◌≢◌, ◌<◌, ◌⊎◌, ℕ, ◌^◌, Bool, true, false, ◌==◌, if◌then◌else◌, List, [], ◌∷◌, codes}
use Rattle.std.specs.List.{list_any}
use Rattle.packet_view.specs.Addresses.{icmp_of}
use Rattle.packet_view.specs.Tuples.{TupleFacts, tuple_facts}
use Rattle.packet_view.specs.declared.tuple.Direction.{Direction}
use Rattle.packet_view.specs.declared.tuple.Family.{Family}
use Rattle.packet_view.specs.declared.tuple.Family.TheVariants.{V4, V6}
use Rattle.packet_view.specs.declared.tuple.Fields.TheVariants.{Absent, Icmp, Ports, Tcp}
use Rattle.acl_policy.specs.Numerals.{IsOctet, IsPair, Spells}
use Rattle.acl_policy.specs.Prefixes.{IsAddress}
use Rattle.acl_policy.specs.Readers.{IsNumberUpTo}
use Rattle.acl_policy.specs.Traffic.{IsProtocol}
use Rattle.acl_policy.specs.Lines.{direction_word}
use Rattle.packet_questions.specs.declared.question_words.Question.{Question}

-- a question as a value, its tuple without what the type keeps
pub record QuestionFacts : Type 0 where
  pub moment : ℕ
  pub direction : Direction
  pub tuple : TupleFacts

abbrev pub question_facts : Question → QuestionFacts
question_facts q = record { moment = q.moment; direction = q.direction; tuple = tuple_facts q.tuple }

-- an address with a colon is one of IPv6
abbrev pub family_of : List ℕ → Family
family_of word = if list_any (λ b. b == 58) word then V6 else V4

abbrev pub same_family : Family → Family → Bool
same_family V4 V4 = true
same_family V4 V6 = false
same_family V6 V4 = false
same_family V6 V6 = true

-- a second, in one to ten digits
abbrev pub IsSecond : List ℕ → ℕ → Type 0
IsSecond word second = Spells 10 10 word second × (second < 2 ^ 32)

-- the address is of the packet's family
abbrev pub IsEnd : TupleFacts → List ℕ → ℕ → Type 0
IsEnd tuple word address = (family_of word ≡ tuple.family) × IsAddress tuple.family word address

abbrev pub AreEnds : List ℕ → List ℕ → TupleFacts → Type 0
AreEnds source dest tuple = IsEnd tuple source tuple.source × IsEnd tuple dest tuple.dest

abbrev pub ArePorts : List ℕ → List ℕ → ℕ → ℕ → Type 0
ArePorts source dest from to = IsNumberUpTo 65535 source from × IsNumberUpTo 65535 dest to

-- tcp ADDRESS PORT ADDRESS PORT flags VV
pub record IsTcp (words : List (List ℕ)) (tuple : TupleFacts) : Type 0 where
  pub source : List ℕ
  pub source_port : List ℕ
  pub dest : List ℕ
  pub dest_port : List ℕ
  pub flag_word : List ℕ
  pub spelt : words ≡ source ∷ source_port ∷ dest ∷ dest_port ∷ codes "flags" ∷ flag_word ∷ []
  pub ends : AreEnds source dest tuple
  pub from : ℕ
  pub to : ℕ
  pub ports : ArePorts source_port dest_port from to
  pub flags : ℕ
  pub pair : IsPair flag_word flags
  pub proto : tuple.proto ≡ 6
  pub fields : tuple.fields ≡ Tcp from to flags

-- udp ADDRESS PORT ADDRESS PORT
pub record IsUdp (words : List (List ℕ)) (tuple : TupleFacts) : Type 0 where
  pub source : List ℕ
  pub source_port : List ℕ
  pub dest : List ℕ
  pub dest_port : List ℕ
  pub spelt : words ≡ source ∷ source_port ∷ dest ∷ dest_port ∷ []
  pub ends : AreEnds source dest tuple
  pub from : ℕ
  pub to : ℕ
  pub ports : ArePorts source_port dest_port from to
  pub proto : tuple.proto ≡ 17
  pub fields : tuple.fields ≡ Ports from to

-- icmp ADDRESS ADDRESS type N code N
pub record IsIcmp (words : List (List ℕ)) (tuple : TupleFacts) : Type 0 where
  pub source : List ℕ
  pub dest : List ℕ
  pub kind_word : List ℕ
  pub code_word : List ℕ
  pub spelt : words ≡ source ∷ dest ∷ codes "type" ∷ kind_word ∷ codes "code" ∷ code_word ∷ []
  pub ends : AreEnds source dest tuple
  pub kind : ℕ
  pub code : ℕ
  pub numbers : IsNumberUpTo 255 kind_word kind × IsNumberUpTo 255 code_word code
  pub proto : tuple.proto ≡ icmp_of tuple.family
  pub fields : tuple.fields ≡ Icmp kind code

-- fragment PROTO ADDRESS ADDRESS: a fragment other than the first, of which only addresses and protocol are seen
pub record IsFragment (words : List (List ℕ)) (tuple : TupleFacts) : Type 0 where
  pub proto_word : List ℕ
  pub source : List ℕ
  pub dest : List ℕ
  pub spelt : words ≡ proto_word ∷ source ∷ dest ∷ []
  pub ends : AreEnds source dest tuple
  pub proto : IsProtocol tuple.family proto_word tuple.proto
  pub one : proto_word ≢ codes "any"
  pub fields : tuple.fields ≡ Absent

-- N ADDRESS ADDRESS: a packet of a protocol whose header isn't looked at
pub record IsOther (proto_word : List ℕ) (words : List (List ℕ)) (tuple : TupleFacts) : Type 0 where
  pub source : List ℕ
  pub dest : List ℕ
  pub spelt : words ≡ source ∷ dest ∷ []
  pub ends : AreEnds source dest tuple
  pub proto : IsNumberUpTo 255 proto_word tuple.proto
  pub other : (tuple.proto ≢ 6) × (tuple.proto ≢ 17) × (tuple.proto ≢ icmp_of tuple.family)
  pub fields : tuple.fields ≡ Absent

-- what a packet carries, by the word that names its protocol and the words after that
abbrev pub IsCarried : List ℕ → List (List ℕ) → TupleFacts → Type 0
IsCarried word words tuple =
    ((word ≡ codes "tcp") × IsTcp words tuple)
    ⊎ ((word ≡ codes "udp") × IsUdp words tuple)
    ⊎ ((word ≡ codes "icmp") × IsIcmp words tuple)
    ⊎ ((word ≡ codes "fragment") × IsFragment words tuple)
    ⊎ IsOther word words tuple

-- `if` and the number of an interface may stand in front; without them it is interface 0
abbrev pub IsPlaced : List (List ℕ) → TupleFacts → Type 0
IsPlaced words tuple = (word : List ℕ) × (rest : List (List ℕ)) × IsCarried word rest tuple
    × (((words ≡ word ∷ rest) × (tuple.interface ≡ 0))
    ⊎ ((number : List ℕ) × (words ≡ codes "if" ∷ number ∷ word ∷ rest) × IsOctet number tuple.interface))

-- The direction, perhaps with the packet's second in front; without it the packet is seen in the second of the one before.
abbrev pub IsQuestion : ℕ → List (List ℕ) → QuestionFacts → Type 0
IsQuestion before words q = (rest : List (List ℕ)) × IsPlaced rest q.tuple
    × (((words ≡ direction_word q.direction ∷ rest) × (q.moment ≡ before))
    ⊎ ((second : List ℕ) × (words ≡ second ∷ direction_word q.direction ∷ rest) × IsSecond second q.moment))

-- The packets that some texts write, one after the other. The one before the first is seen in second 0.
abbrev pub AreQuestions : ℕ → List (List (List ℕ)) → List QuestionFacts → Type 0
AreQuestions before [] [] = Unit {0}
AreQuestions before [] (q ∷ qs) = ⊥
AreQuestions before (words ∷ texts) [] = ⊥
AreQuestions before (words ∷ texts) (q ∷ qs) = IsQuestion before words q × AreQuestions q.moment texts qs
