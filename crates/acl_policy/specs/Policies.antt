-- What a whole text says, and where it is wrong, in this project's policy grammar.
use Rattle.std.specs.Prelude.{◌≡◌, ◌≤◌, ◌⊎◌, ℕ, ◌+◌, ◌==◌, if◌then◌else◌, List, [], ◌∷◌, ◌++◌, length, map, Option, Some, None, IsSome, unwrap_or}
use Rattle.std.specs.List.{filter_map}
use Rattle.std.specs.Str.{IsUtf8}
use Rattle.std.specs.Str.Lines.{lines}
use Rattle.packet_view.specs.declared.tuple.Direction.{Direction}
use Rattle.packet_view.specs.declared.tuple.Direction.TheVariants.{Inbound, Outbound}
use Rattle.packet_view.specs.declared.tuple.Mac.{Mac}
use Rattle.acl_policy.specs.declared.policy.Policy.{Policy}
use Rattle.acl_policy.specs.declared.policy.PolicyFault.{PolicyFault}
use Rattle.acl_policy.specs.declared.policy.PolicyFault.TheVariants.{Memory, NotUtf8, BadLine, TooMany}
use Rattle.acl_policy.specs.declared.policy.Section.{Section}
use Rattle.acl_policy.specs.Lines.{Begins, Blank, IsLine, LineFacts, Own, Ruled}
use Rattle.acl_policy.specs.Rules.{RuleFacts, most_rules, rule_facts}

-- the section of an interface as a value, without where its lists lie in memory and what its types keep
pub record SectionFacts : Type 0 where
  pub interface : ℕ
  pub own : Option Mac
  pub inbound : List RuleFacts
  pub outbound : List RuleFacts

-- what a section says
abbrev pub section_facts : Section → SectionFacts
section_facts s =
    record { interface = s.interface; own = s.own; inbound = map rule_facts s.inbound.items; outbound = map rule_facts s.outbound.items }

-- a section of which nothing is said
abbrev pub empty_section : ℕ → SectionFacts
empty_section number = record { interface = number; own = None; inbound = []; outbound = [] }

-- a policy as a value
pub record PolicyFacts : Type 0 where
  pub sections : List SectionFacts

-- what a policy says
abbrev pub policy_facts : Policy → PolicyFacts
policy_facts p = record { sections = map section_facts p.sections.items }

-- the first of the sections that is of the interface with this number
abbrev pub find_section : ℕ → List SectionFacts → Option SectionFacts
find_section number [] = None
find_section number (section ∷ sections) = if section.interface == number then Some section else find_section number sections

-- what sections say of an interface: nothing where it has none
abbrev pub section_among : ℕ → List SectionFacts → SectionFacts
section_among number sections = unwrap_or (find_section number sections) (empty_section number)

-- what a policy says of it
abbrev pub section_of : ℕ → PolicyFacts → SectionFacts
section_of number policy = section_among number policy.sections

-- the own address that a line names
abbrev pub own_in : LineFacts → Option Mac
own_in Blank = None
own_in (Begins number) = None
own_in (Own mac) = Some mac
own_in (Ruled direction rule) = None

-- the number of the interface whose section a line begins
abbrev pub begun_in : LineFacts → Option ℕ
begun_in Blank = None
begun_in (Begins number) = Some number
begun_in (Own mac) = None
begun_in (Ruled direction rule) = None

-- the rule of the direction that a line has
abbrev pub rule_in : Direction → LineFacts → Option RuleFacts
rule_in direction Blank = None
rule_in direction (Begins number) = None
rule_in direction (Own mac) = None
rule_in Inbound (Ruled Inbound rule) = Some rule
rule_in Inbound (Ruled Outbound rule) = None
rule_in Outbound (Ruled Inbound rule) = None
rule_in Outbound (Ruled Outbound rule) = Some rule

-- Each line says what is at its place.
abbrev pub AreLines : List (List ℕ) → List LineFacts → Type 0
AreLines [] [] = Unit {0}
AreLines [] (reading ∷ readings) = ⊥
AreLines (line ∷ lines) [] = ⊥
AreLines (line ∷ lines) (reading ∷ readings) = IsLine line reading × AreLines lines readings

-- no own address, or the only one
abbrev pub IsOnly : List Mac → Option Mac → Type 0
IsOnly macs None = macs ≡ []
IsOnly macs (Some mac) = macs ≡ mac ∷ []

-- The lines say this of one interface: none of them begins a section, the own address where one names it, and the rules
-- of each direction in their order.
pub record AreLinesOf (texts : List (List ℕ)) (section : SectionFacts) : Type 0 where
  pub readings : List LineFacts
  pub lines : AreLines texts readings
  pub one : filter_map begun_in readings ≡ []
  pub own : IsOnly (filter_map own_in readings) section.own
  pub inbound : section.inbound ≡ filter_map (rule_in Inbound) readings
  pub outbound : section.outbound ≡ filter_map (rule_in Outbound) readings
  pub inbound_fits : length section.inbound ≤ most_rules
  pub outbound_fits : length section.outbound ≤ most_rules

-- the rules of a direction
abbrev pub rules_of : Direction → SectionFacts → List RuleFacts
rules_of Inbound section = section.inbound
rules_of Outbound section = section.outbound

-- The lines are sections one after another, each a line that begins it and its own lines.
abbrev pub AreSections : List (List ℕ) → List SectionFacts → Type 0
AreSections texts [] = texts ≡ []
AreSections texts (section ∷ sections) =
    (heading : List ℕ) × (lines rest : List (List ℕ)) × (texts ≡ heading ∷ (lines ++ rest))
    × IsLine heading (Begins section.interface) × AreLinesOf lines section × AreSections rest sections

-- The lines before the first section are that of interface 0.
abbrev pub AreAllSections : List (List ℕ) → List SectionFacts → Type 0
AreAllSections texts [] = ⊥
AreAllSections texts (section ∷ sections) =
    (lines rest : List (List ℕ)) × (texts ≡ lines ++ rest)
    × (section.interface ≡ 0) × AreLinesOf lines section × AreSections rest sections

-- the number is one of these
abbrev pub IsAmong : ℕ → List ℕ → Type 0
IsAmong number [] = ⊥
IsAmong number (other ∷ others) = (number ≡ other) ⊎ IsAmong number others

-- no number stands twice
abbrev pub AreDistinct : List ℕ → Type 0
AreDistinct [] = Unit {0}
AreDistinct (number ∷ numbers) = (IsAmong number numbers → ⊥) × AreDistinct numbers

-- the interfaces that have sections
abbrev pub numbers_of : List SectionFacts → List ℕ
numbers_of sections = map (λ s. s.interface) sections

-- The lines say this policy: what each section says, and no interface has two.
pub record SayPolicy (texts : List (List ℕ)) (policy : PolicyFacts) : Type 0 where
  pub sections : AreAllSections texts policy.sections
  pub once : AreDistinct (numbers_of policy.sections)

-- the section to which further lines belong
abbrev pub IsLast : List SectionFacts → SectionFacts → Type 0
IsLast sections section = (done : List SectionFacts) × (sections ≡ done ++ section ∷ [])

-- A line after this policy is of no form, names a second own address, or begins a second section of an interface.
abbrev pub IsWrong : PolicyFacts → List ℕ → Type 0
IsWrong policy line =
    ((reading : LineFacts) → IsLine line reading → ⊥)
    ⊎ (((mac : Mac) × (section : SectionFacts) × IsLine line (Own mac) × IsLast policy.sections section × IsSome section.own)
    ⊎ ((number : ℕ) × IsLine line (Begins number) × IsAmong number (numbers_of policy.sections)))

-- A line after this policy is a rule of a direction that has all its rules.
abbrev pub IsSurplus : PolicyFacts → List ℕ → Type 0
IsSurplus policy line =
    (direction : Direction) × (rule : RuleFacts) × (section : SectionFacts) × IsLine line (Ruled direction rule)
    × IsLast policy.sections section × (length (rules_of direction section) ≡ most_rules)

-- The line with this number, counted from 1, is the first at fault: those before it say a policy, after which it is at fault.
abbrev pub IsFirstFault : (PolicyFacts → List ℕ → Type 0) → List (List ℕ) → ℕ → Type 0
IsFirstFault IsAtFault texts number =
    (before : List (List ℕ)) × (line : List ℕ) × (after : List (List ℕ)) × (policy : PolicyFacts)
    × (texts ≡ before ++ line ∷ after) × (number ≡ length before + 1) × SayPolicy before policy × IsAtFault policy line

-- The text says this policy.
abbrev pub IsPolicyText : List ℕ → PolicyFacts → Type 0
IsPolicyText text policy = IsUtf8 text × SayPolicy (lines text) policy

-- The text has this fault, and none before it. That memory ran out is no fault of a text.
abbrev pub IsPolicyFault : List ℕ → PolicyFault → Type 0
IsPolicyFault text Memory = ⊥
IsPolicyFault text NotUtf8 = ¬ IsUtf8 text
IsPolicyFault text (BadLine number) = IsUtf8 text × IsFirstFault IsWrong (lines text) number
IsPolicyFault text (TooMany number) = IsUtf8 text × IsFirstFault IsSurplus (lines text) number
