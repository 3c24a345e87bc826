-- What is complained of in a text: which lines, and why.
use Rattle.std.specs.Prelude.{◌≡◌, ◌⊎◌, ℕ, ◌+◌, ◌==◌, List, [], ◌∷◌, ◌++◌, length, take, IsSome, filter}
use Rattle.std.specs.Str.{IsUtf8}
use Rattle.std.specs.Str.Lines.{lines}
use Rattle.std.specs.Str.Lossy.{utf8_valid_len}
use Rattle.packet_view.specs.declared.tuple.Mac.{Mac}
use Rattle.acl_policy.specs.declared.policy.PolicyFault.{PolicyFault}
use Rattle.acl_policy.specs.declared.policy.PolicyFault.TheVariants.{Memory, BadLine, TooMany}
use Rattle.acl_policy.specs.declared.policy.PolicyFault.TheVariants as fault
use Rattle.acl_policy.specs.Lines.{Begins, IsLine, LineFacts, Own}
use Rattle.acl_policy.specs.Policies.{IsAmong, IsLast, IsSurplus, PolicyFacts, SayPolicy, SectionFacts, numbers_of}
use Rattle.acl_policy.specs.Words.{without_comment, words_of}
use Rattle.policy_check.specs.declared.policy_checking.Complaint.{Complaint}
use Rattle.policy_check.specs.declared.reason.Reason.{Reason}
use Rattle.policy_check.specs.declared.reason.Reason.TheVariants.{NotUtf8, SecondMac, SecondSection, Surplus}
use Rattle.policy_check.specs.Reasons.{IsFirst, IsFormReason}

-- a complaint as a value
pub record ComplaintFacts : Type 0 where
  pub line : ℕ
  pub reason : Reason
  pub word : List ℕ

abbrev pub complaint_facts : Complaint → ComplaintFacts
complaint_facts c = record { line = c.line; reason = c.reason; word = c.word.now }

-- the words of a line up to its comment
abbrev pub line_words : List ℕ → List (List ℕ)
line_words line = words_of (without_comment line)

-- The reason is one of a line that has a form: a second own address, a second section of an interface, or a rule too many.
abbrev pub IsPlaceReason : PolicyFacts → List ℕ → Reason → Type 0
IsPlaceReason policy line reason =
    ((reason ≡ SecondMac) × ((mac : Mac) × (section : SectionFacts) × IsLine line (Own mac) × IsLast policy.sections section × IsSome section.own))
    ⊎ (((reason ≡ SecondSection) × ((number : ℕ) × IsLine line (Begins number) × IsAmong number (numbers_of policy.sections)))
    ⊎ ((reason ≡ Surplus) × IsSurplus policy line))

-- The line is at fault after this policy, for this reason, which is said of this word: it is of no form, or it has one and
-- may not stand there.
abbrev pub IsComplaint : PolicyFacts → List ℕ → Reason → List ℕ → Type 0
IsComplaint policy line reason word =
    (((reading : LineFacts) → IsLine line reading → ⊥) × IsFormReason (line_words line) reason word)
    ⊎ (IsPlaceReason policy line reason × IsFirst (line_words line) word)

-- Of lines behind so many, and behind right ones, these are complained of, and these are right with those before: what
-- stands in front of a line that is complained of says a policy with the right lines before it, after which it is at fault.
abbrev pub AreSorted : ℕ → List (List ℕ) → List (List ℕ) → List ComplaintFacts → List (List ℕ) → Type 0
AreSorted place before texts [] rights = rights ≡ before ++ texts
AreSorted place before texts (c ∷ cs) rights =
    (front : List (List ℕ)) × (line : List ℕ) × (rest : List (List ℕ)) × (policy : PolicyFacts)
    × (texts ≡ front ++ line ∷ rest) × (c.line ≡ place + length front + 1) × SayPolicy (before ++ front) policy
    × IsComplaint policy line c.reason c.word × AreSorted c.line (before ++ front) rest cs rights

-- These lines are complained of, and all others say this policy together.
abbrev pub AreComplaints : List (List ℕ) → List ComplaintFacts → PolicyFacts → Type 0
AreComplaints texts cs policy = (rights : List (List ℕ)) × AreSorted 0 [] texts cs rights × SayPolicy rights policy

-- the number of the line in which the longest front of a text that is UTF-8 ends
abbrev pub broken_line : List ℕ → ℕ
broken_line text = length (filter (λ b. b == 10) (take (utf8_valid_len text) text)) + 1

-- A text that isn't UTF-8 has one complaint, and no line that says something.
abbrev pub IsChecked : List ℕ → List ComplaintFacts → PolicyFacts → Type 0
IsChecked text cs policy =
    (IsUtf8 text × AreComplaints (lines text) cs policy)
    ⊎ ((IsUtf8 text → ⊥) × (cs ≡ record { line = broken_line text; reason = NotUtf8; word = [] } ∷ []) × SayPolicy [] policy)

-- The first complaint is of what this fault tells.
abbrev pub IsToldFirst : List ComplaintFacts → PolicyFault → Type 0
IsToldFirst [] told = ⊥
IsToldFirst (c ∷ cs) Memory = ⊥
IsToldFirst (c ∷ cs) fault.NotUtf8 = c.reason ≡ NotUtf8
IsToldFirst (c ∷ cs) (BadLine number) = c.line ≡ number
IsToldFirst (c ∷ cs) (TooMany number) = (c.line ≡ number) × (c.reason ≡ Surplus)
