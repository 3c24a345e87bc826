-- The input: a policy text, a line that says how the capture is written, and the capture; or several captures, each after a
-- line with the number of its interface (this project's profile).
use Rattle.std.specs.Prelude.{◌≡◌, ◌≢◌, ◌⊎◌, ℕ, Bool, ◌||◌, ◌==◌, not, List, [], ◌∷◌, ◌++◌, codes, filter, Option, None, Some, MatchOption, option_map, Ok}
use Rattle.std.specs.List.{AllByRecursion}
use Rattle.hex.specs.Hex.{decode_of}
use Rattle.racl_io.specs.declared.marker_line.Form.{Form}
use Rattle.racl_io.specs.declared.marker_line.Form.TheVariants.{Binary, Hexadecimal, Numbered}
use Rattle.racl_io.specs.declared.marker_line.Input as code
use Rattle.racl_io.specs.declared.marker_line.Numbered as mark
use Rattle.racl_io.specs.declared.marker_line.Marks.{Marks}
use Rattle.racl_io.specs.declared.marker_line.Marks.TheVariants.{Every, Numbers}
use Rattle.acl_policy.specs.Numerals.{IsOctet}

-- the most bytes of an input
abbrev pub most_bytes : ℕ
most_bytes = 67108864

-- an input without where it lies in memory
pub record InputFacts : Type 0 where
  pub policy : List ℕ
  pub form : Form
  pub content : List ℕ

abbrev pub input_facts : code.Input → InputFacts
input_facts i = record { policy = i.policy.now; form = i.form; content = i.content.now }

-- the word of a marker line; after `hex` and a space may stand the number of an interface, in one to three digits
abbrev pub IsWord : Form → List ℕ → Type 0
IsWord Binary word = word ≡ codes "pcap"
IsWord Hexadecimal word = word ≡ codes "hex"
IsWord (Numbered number) word = (digits : List ℕ) × (word ≡ codes "hex " ++ digits) × IsOctet digits number

-- a line without its line feed: the word alone, or with one carriage return after it
abbrev pub IsMarker : Form → List ℕ → Type 0
IsMarker form line = IsWord form line ⊎ ((word : List ℕ) × IsWord form word × (line ≡ word ++ 13 ∷ []))

-- bytes among which no line ends
abbrev pub HasNoFeed : List ℕ → Type 0
HasNoFeed bytes = AllByRecursion (λ b. b ≢ 10) bytes

-- the first line, without its line feed, and what follows it
pub record IsFirstLine (bytes line rest : List ℕ) : Type 0 where
  pub whole : HasNoFeed line
  pub parted : bytes ≡ line ++ 10 ∷ rest

-- all marker lines count, or those with a number alone
abbrev pub Counts : Marks → Form → Type 0
Counts Every form = Unit {0}
Counts Numbers Binary = ⊥
Counts Numbers Hexadecimal = ⊥
Counts Numbers (Numbered number) = Unit {0}

-- a line without its line feed that is no marker which counts
pub record IsPlainLine (marks : Marks) (line : List ℕ) : Type 0 where
  pub whole : HasNoFeed line
  pub unmarked : (form : Form) → Counts marks form → IsMarker form line → ⊥

-- lines, a line feed after each
abbrev pub joined : List (List ℕ) → List ℕ
joined [] = []
joined (line ∷ lines) = line ++ 10 ∷ joined lines

-- a marker line, and the content after it; where the input ends with the word, there is no content
abbrev pub IsMarked : Form → List ℕ → List ℕ → Type 0
IsMarked form content bytes =
    ((line : List ℕ) × IsMarker form line × (bytes ≡ line ++ 10 ∷ content)) ⊎ (IsWord form bytes × (content ≡ []))

-- the first marker line that counts parts the bytes
pub record IsParted (marks : Marks) (bytes : List ℕ) (parts : InputFacts) : Type 0 where
  pub lines : List (List ℕ)
  pub plain : AllByRecursion (IsPlainLine marks) lines
  pub policy : parts.policy ≡ joined lines
  pub marked : List ℕ
  pub parted : bytes ≡ parts.policy ++ marked
  pub counts : Counts marks parts.form
  pub content : IsMarked parts.form parts.content marked

-- the first marker line parts the input
abbrev pub IsInput : List ℕ → InputFacts → Type 0
IsInput bytes parts = IsParted Every bytes parts

-- the number of a marker line that has one, and what follows the line
pub record NumberedFacts : Type 0 where
  pub interface : ℕ
  pub content : List ℕ

abbrev pub numbered_facts : Option mark.Numbered → Option NumberedFacts
numbered_facts next = option_map (λ n. record { interface = n.interface; content = n.content.now }) next

-- the digits are what stands before the next marker line with a number, or all where there is none
abbrev pub AreCutDigits : List ℕ → List ℕ → Option NumberedFacts → Type 0
AreCutDigits content digits None = (digits ≡ content) × ((parts : InputFacts) → IsParted Numbers content parts → ⊥)
AreCutDigits content digits (Some next) =
    IsParted Numbers content (record { policy = digits; form = Numbered next.interface; content = next.content })

-- the digits of one interface's capture
pub record DigitsFacts : Type 0 where
  pub interface : ℕ
  pub digits : List ℕ

-- What follows the marker line with this number is the digits of its capture, and then those of the captures of further such
-- lines.
abbrev pub AreCaptures : ℕ → List ℕ → List DigitsFacts → Type 0
AreCaptures number content [] = ⊥
AreCaptures number content (first ∷ others) =
    (first.interface ≡ number)
    × (next : Option NumberedFacts) × AreCutDigits content first.digits next
    × MatchOption next (others ≡ []) (λ behind. AreCaptures behind.interface behind.content others)

-- what isn't looked at among hexadecimal digits: tab, line feed, carriage return and space
abbrev pub is_blank : ℕ → Bool
is_blank b = (b == 32) || (b == 9) || (b == 10) || (b == 13)

abbrev pub digits_of : List ℕ → List ℕ
digits_of content = filter (λ b. not (is_blank b)) content

-- the bytes of the only capture, as they are or as two hexadecimal digits for each
abbrev pub IsContent : Form → List ℕ → List ℕ → Type 0
IsContent Binary content capture = capture ≡ content
IsContent Hexadecimal content capture = decode_of (digits_of content) ≡ Ok capture
IsContent (Numbered number) content capture = ⊥
