-- Why the words of a line are of no form, in this project's policy grammar.
use Rattle.std.specs.Prelude.{◌≡◌, ◌≢◌, ◌<◌, ◌⊎◌, ℕ, ◌/◌, ◌%◌, List, [], ◌∷◌, ◌++◌, length, codes, Option, Some, None}
use Rattle.packet_view.specs.declared.tuple.Direction.{Direction}
use Rattle.packet_view.specs.declared.tuple.Family.{Family}
use Rattle.packet_view.specs.declared.tuple.Family.TheVariants.{V4, V6}
use Rattle.packet_view.specs.declared.tuple.Mac.{Mac}
use Rattle.acl_policy.specs.declared.rule.Action.{Action}
use Rattle.acl_policy.specs.Lines.{IsInterface, action_word, direction_word, family_word}
use Rattle.acl_policy.specs.Numerals.{IsNumber}
use Rattle.acl_policy.specs.Prefixes.{IsAddress, IsMac, IsPrefix}
use Rattle.acl_policy.specs.Traffic.{IsFlags, IsProtocol, IsRange, OfIcmp, OfNone, OfTcp, OfUdp, Parts, parts_of}
use Rattle.acl_policy.specs.Widths.{width}
use Rattle.policy_check.specs.declared.reason.Reason.{Reason}
use Rattle.policy_check.specs.declared.reason.Reason.TheVariants.{ByteOrderMark, DottedEnd, Extra, LongPrefix, Missing, NoAction, NoBreakSpace, NoFamily, NoFlags, NoForm, NoIcmpPart, NoInterface, NoMac, NoParts, NoPrefix, NoProtocol, NoRange, NoStart, NoTcpPart, NoUdpPart, OtherFamily, TooLarge, UpsideDown}

-- Nothing is of this kind, or this is.
abbrev pub Reads : {A : Type 0} → Option A → (A → Type 0) → Type 0
Reads {A = A} None Is = (x : A) → Is x → ⊥
Reads {A = A} (Some x) Is = Is x

-- the word stands among these
abbrev pub Stands : List ℕ → List (List ℕ) → Type 0
Stands word words = (front rest : List (List ℕ)) × (words ≡ front ++ word ∷ rest)

-- A word with something that isn't seen: U+FEFF at its beginning, or U+00A0 anywhere.
abbrev pub IsUnseen : Reason → List ℕ → Type 0
IsUnseen ByteOrderMark word = (rest : List ℕ) × (word ≡ 239 ∷ 187 ∷ 191 ∷ rest)
IsUnseen NoBreakSpace word = (front rest : List ℕ) × (word ≡ front ++ 194 ∷ 160 ∷ rest)
IsUnseen reason word = ⊥

-- the first three words of a rule, and those after them
abbrev pub HasHead : List (List ℕ) → Family → List (List ℕ) → Type 0
HasHead words family rest =
    (direction : Direction) × (action : Action) × (words ≡ direction_word direction ∷ action_word action ∷ family_word family ∷ rest)

-- What is wrong with the first three words.
abbrev pub IsHeadReason : List (List ℕ) → Reason → List ℕ → Type 0
IsHeadReason words NoStart word = (rest : List (List ℕ)) × (words ≡ word ∷ rest) × ((direction : Direction) → word ≢ direction_word direction)
IsHeadReason words NoAction word =
    (direction : Direction) × (rest : List (List ℕ)) × (words ≡ direction_word direction ∷ word ∷ rest)
    × ((action : Action) → word ≢ action_word action)
IsHeadReason words NoFamily word =
    (direction : Direction) × (action : Action) × (rest : List (List ℕ))
    × (words ≡ direction_word direction ∷ action_word action ∷ word ∷ rest) × ((family : Family) → word ≢ family_word family)
IsHeadReason words Missing word = length words < 3
IsHeadReason words reason word = ⊥

-- An address with a length that is more than its bits.
abbrev pub IsLong : Family → List ℕ → Type 0
IsLong family word =
    (address bits : List ℕ) × (number length : ℕ) × (word ≡ address ++ 47 ∷ bits) × IsAddress family address number
    × IsNumber bits length × (width family < length)

-- Behind a colon an IPv4 address ends the word, or stands before a length (RFC 4291, section 2.2, point 3); its halves.
abbrev pub HasDottedEnd : List ℕ → ℕ → ℕ → Type 0
HasDottedEnd word high low =
    (front dotted rest : List ℕ) × (address : ℕ) × (word ≡ front ++ 58 ∷ (dotted ++ rest)) × IsAddress V4 dotted address
    × ((rest ≡ []) ⊎ ((bits : List ℕ) × (rest ≡ 47 ∷ bits))) × (high ≡ address / 65536) × (low ≡ address % 65536)

-- Why a word is no prefix of the family.
abbrev pub IsPrefixReason : Family → List ℕ → Reason → Type 0
IsPrefixReason family word NoPrefix = (prefix : ℕ × ℕ) → IsPrefix family word prefix → ⊥
IsPrefixReason family word OtherFamily =
    ((prefix : ℕ × ℕ) → IsPrefix family word prefix → ⊥) × ((other : Family) × (prefix : ℕ × ℕ) × IsPrefix other word prefix)
IsPrefixReason family word (DottedEnd high low) = (family ≡ V6) × HasDottedEnd word high low
IsPrefixReason family word (LongPrefix most) = (most ≡ width family) × IsLong family word
IsPrefixReason family word reason = ⊥

-- What is wrong with the prefixes of a rule; the words are those after its family.
abbrev pub IsEndReason : Family → List (List ℕ) → Reason → List ℕ → Type 0
IsEndReason family words Missing word = length words < 2
IsEndReason family words reason word =
    IsPrefixReason family word reason
    × (((rest : List (List ℕ)) × (words ≡ word ∷ rest)) ⊎ ((source : List ℕ) × (rest : List (List ℕ)) × (words ≡ source ∷ word ∷ rest)))

-- Why a word is no range of numbers up to the most.
abbrev pub IsRangeReason : ℕ → List ℕ → Reason → Type 0
IsRangeReason most word NoRange = (range : ℕ × ℕ) → IsRange most word range → ⊥
IsRangeReason most word UpsideDown =
    (low high : List ℕ) × (a b : ℕ) × (word ≡ low ++ 45 ∷ high) × IsNumber low a × IsNumber high b × (b < a)
IsRangeReason most word (TooLarge limit) =
    (limit ≡ most) × ((n : ℕ) × (most < n) × (IsNumber word n ⊎ ((low high : List ℕ) × (word ≡ low ++ 45 ∷ high) × IsNumber high n)))
IsRangeReason most word reason = ⊥

-- These parts have one with this name, whose numbers are up to the most.
abbrev pub HasRange : Parts → List ℕ → ℕ → Type 0
HasRange OfTcp name most = ((name ≡ codes "sport") ⊎ (name ≡ codes "dport")) × (most ≡ 65535)
HasRange OfUdp name most = ((name ≡ codes "sport") ⊎ (name ≡ codes "dport")) × (most ≡ 65535)
HasRange OfIcmp name most = ((name ≡ codes "type") ⊎ (name ≡ codes "code")) × (most ≡ 255)
HasRange OfNone name most = ⊥

-- The word follows the name of a part, and is none of its values for this reason.
abbrev pub IsValueReason : Parts → List (List ℕ) → Reason → List ℕ → Type 0
IsValueReason parts words reason word =
    (used rest : List (List ℕ)) × (name : List ℕ) × (most : ℕ) × (words ≡ used ++ name ∷ word ∷ rest)
    × HasRange parts name most × IsRangeReason most word reason

-- What is wrong with the parts after a protocol; the words are those after it.
abbrev pub IsPartReason : Parts → List (List ℕ) → Reason → List ℕ → Type 0
IsPartReason parts words NoParts word = (rest : List (List ℕ)) × (words ≡ word ∷ rest) × (parts ≡ OfNone)
IsPartReason parts words NoTcpPart word = Stands word words × (parts ≡ OfTcp)
IsPartReason parts words NoUdpPart word = Stands word words × (parts ≡ OfUdp)
IsPartReason parts words NoIcmpPart word = Stands word words × (parts ≡ OfIcmp)
IsPartReason parts words NoFlags word =
    (used rest : List (List ℕ)) × (words ≡ used ++ codes "flags" ∷ word ∷ rest) × (parts ≡ OfTcp)
    × ((flags : ℕ × ℕ) → IsFlags word flags → ⊥)
IsPartReason parts words Missing word = (used : List (List ℕ)) × (name : List ℕ) × (words ≡ used ++ name ∷ [])
IsPartReason parts words reason word = IsValueReason parts words reason word

-- What is wrong with what follows the prefixes of a rule.
abbrev pub IsTrafficReason : Family → List (List ℕ) → Reason → List ℕ → Type 0
IsTrafficReason family words NoProtocol word =
    (rest : List (List ℕ)) × (words ≡ word ∷ rest) × ((proto : ℕ) → IsProtocol family word proto → ⊥)
IsTrafficReason family words reason word =
    (protocol : List ℕ) × (proto : ℕ) × (rest : List (List ℕ)) × (words ≡ protocol ∷ rest) × IsProtocol family protocol proto
    × IsPartReason (parts_of family proto) rest reason word

-- What is wrong with a rule: with its first three words, with its prefixes, or with what follows them.
abbrev pub IsRuleReason : List (List ℕ) → Reason → List ℕ → Type 0
IsRuleReason words reason word =
    IsHeadReason words reason word
    ⊎ (((family : Family) × (rest : List (List ℕ)) × HasHead words family rest × IsEndReason family rest reason word)
    ⊎ ((family : Family) × (source dest : List ℕ) × (rest : List (List ℕ)) × HasHead words family (source ∷ dest ∷ rest)
    × IsTrafficReason family rest reason word))

-- What is wrong with a line of two words, the first of which is known; the words are those after it.
abbrev pub IsPairReason : {A : Type 0} → Reason → (List ℕ → A → Type 0) → List (List ℕ) → Reason → List ℕ → Type 0
IsPairReason {A = A} other Is words Missing word = words ≡ []
IsPairReason {A = A} other Is words Extra word = (first : List ℕ) × (rest : List (List ℕ)) × (words ≡ first ∷ word ∷ rest)
IsPairReason {A = A} other Is words reason word =
    (reason ≡ other) × ((rest : List (List ℕ)) × (words ≡ word ∷ rest)) × ((x : A) → Is word x → ⊥)

-- the first word, and nothing where there is none
abbrev pub IsFirst : List (List ℕ) → List ℕ → Type 0
IsFirst [] word = word ≡ []
IsFirst (first ∷ words) word = word ≡ first

-- What is wrong with the words of a line, by the first of them.
abbrev pub IsWordsReason : List (List ℕ) → Reason → List ℕ → Type 0
IsWordsReason words reason word =
    ((rest : List (List ℕ)) × (words ≡ codes "mac" ∷ rest) × IsPairReason {A = Mac} NoMac IsMac rest reason word)
    ⊎ (((rest : List (List ℕ)) × (words ≡ codes "interface" ∷ rest) × IsPairReason {A = ℕ} NoInterface IsInterface rest reason word)
    ⊎ IsRuleReason words reason word)

-- The reason is true of the words of a line that is of no form, and the word is one of them.
abbrev pub IsFormReason : List (List ℕ) → Reason → List ℕ → Type 0
IsFormReason words reason word =
    (IsUnseen reason word × Stands word words)
    ⊎ (IsWordsReason words reason word ⊎ ((reason ≡ NoForm) × IsFirst words word))
