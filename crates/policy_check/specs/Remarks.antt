-- What is right in a policy, but unlikely to be meant.
use Rattle.std.specs.Prelude.{◌≡◌, ◌≢◌, ◌≤◌, ◌<◌, ◌⊎◌, ℕ, ◌+◌, ◌-◌, ◌%◌, ◌^◌, bit_and, Bool, IsTrue, List, [], All, Contains, length, slice_get, Some, None}
use Rattle.packet_view.specs.Tuples.{TupleFacts}
use Rattle.packet_view.specs.declared.tuple.Direction.{Direction}
use Rattle.packet_view.specs.declared.tuple.Family.{Family}
use Rattle.packet_view.specs.declared.tuple.Family.TheVariants.{V4}
use Rattle.acl_policy.specs.Matching.{Decides, HoldsPrefix, Matches}
use Rattle.acl_policy.specs.Policies.{PolicyFacts, SectionFacts, rules_of}
use Rattle.acl_policy.specs.Rules.{RuleFacts}
use Rattle.acl_policy.specs.Widths.{width}
use Rattle.acl_policy.specs.declared.rule.Action.{Action}
use Rattle.rule_cover.specs.Covers.{AreTaken, IsNeeded, IsPacket}
use Rattle.policy_check.specs.declared.remark_kinds.Remark.{Remark}
use Rattle.policy_check.specs.declared.remark_kinds.Remark.TheVariants.{NoMac, NoRule, Shadowed, ShadowedTogether, NotKnown, SourceBits, DestBits, Mask, UnmatchedFlags}

-- Each packet that the later rule matches is matched by the earlier one.
abbrev pub TakesAll : RuleFacts → RuleFacts → Type 0
TakesAll earlier later = (tuple : TupleFacts) → Matches later tuple → Matches earlier tuple

-- A prefix is no longer than another, and has its address.
abbrev pub CoversPrefix : Family → ℕ × ℕ → ℕ × ℕ → Type 0
CoversPrefix family earlier later = (earlier.1 ≤ later.1) × HoldsPrefix family earlier later.0

-- A range has both ends of another.
abbrev pub CoversRange : ℕ × ℕ → ℕ × ℕ → Type 0
CoversRange earlier later = (earlier.0 ≤ later.0) × (later.1 ≤ earlier.1)

-- Flags whose bits under the later mask are the later value have the earlier value under the earlier mask.
abbrev pub CoversFlags : RuleFacts → RuleFacts → Type 0
CoversFlags earlier later =
    (bit_and later.mask earlier.mask ≡ earlier.mask) × (bit_and later.value earlier.mask ≡ earlier.value)

abbrev pub CoversFields : RuleFacts → RuleFacts → Type 0
CoversFields earlier later = CoversRange earlier.first later.first × CoversRange earlier.second later.second × CoversFlags earlier later

-- A rule covers another: the same family; prefixes that hold those of the other; and no protocol, or the same one,
-- ranges that hold those of the other, and flags that follow from those of the other.
pub record Covers (earlier later : RuleFacts) : Type 0 where
  pub family : earlier.family ≡ later.family
  pub source : CoversPrefix earlier.family earlier.source later.source
  pub dest : CoversPrefix earlier.family earlier.dest later.dest
  pub fields : (earlier.proto ≡ 0) ⊎ ((earlier.proto ≡ later.proto) × CoversFields earlier later)

-- No rule before a place covers this one.
abbrev pub NoneCovers : List RuleFacts → ℕ → RuleFacts → Type 0
NoneCovers rules place later = (k : ℕ) → k < place → (other : RuleFacts) → slice_get rules k ≡ Some other → Covers other later → ⊥

-- A prefix with bits behind its length, which aren't looked at.
abbrev pub HasBits : Family → ℕ × ℕ → Type 0
HasBits family prefix = prefix.0 % 2 ^ (width family - prefix.1) ≢ 0

-- An IPv4 address reads as the mask of a network with so many bits: these are set and all others aren't (RFC 950), or the
-- other way round, as access lists of some routers have it.
abbrev pub ReadsAsMask : ℕ → ℕ → Type 0
ReadsAsMask address bits = (address ≡ 2 ^ 32 - 2 ^ (32 - bits)) ⊎ (address ≡ 2 ^ (32 - bits) - 1)

-- The destination of a rule is one address that reads so, of a network with 8 to 31 bits.
abbrev pub HasMaskAsDest : RuleFacts → ℕ → Type 0
HasMaskAsDest rule bits =
    (rule.family ≡ V4) × (rule.dest.1 ≡ 32) × (8 ≤ bits) × (bits < 32) × ReadsAsMask rule.dest.0 bits

-- A rule of TCP whose flags no packet has.
abbrev pub MatchesNoFlags : RuleFacts → Type 0
MatchesNoFlags rule = (rule.proto ≡ 6) × ((flags : ℕ) → bit_and flags rule.mask ≢ rule.value)

-- The rule at a place, counted from 0, is never the first that matches: the first before it that covers it takes all its
-- packets.
pub record IsShadowed (rules : List RuleFacts) (place first : ℕ) : Type 0 where
  pub before : first < place
  pub earlier : RuleFacts
  pub later : RuleFacts
  pub stands : slice_get rules first ≡ Some earlier
  pub is : slice_get rules place ≡ Some later
  pub takes : TakesAll earlier later
  pub covers : Covers earlier later
  pub none : NoneCovers rules first later

-- No rule before the one at a place covers it.
abbrev pub IsCoveredByNone : List RuleFacts → ℕ → Type 0
IsCoveredByNone rules place = (later : RuleFacts) → slice_get rules place ≡ Some later → NoneCovers rules place later

-- The rule at a place, counted from 0, is never the first that matches: rules at places before it take all its packets together,
-- and none of them can be left out where they are told to be the least.
pub record IsShadowedTogether (rules : List RuleFacts) (place : ℕ) (takers : List ℕ) (least : Bool) : Type 0 where
  pub before : All (λ k. k < place) takers
  pub later : RuleFacts
  pub is : slice_get rules place ≡ Some later
  pub alone : NoneCovers rules place later
  pub taken : AreTaken later later rules (Contains takers)
  pub needed : IsTrue least → All (IsNeeded later rules takers) takers

-- A packet is decided by the rule at a place.
abbrev pub CanDecide : List RuleFacts → ℕ → Type 0
CanDecide rules place = (tuple : TupleFacts) × (action : Action) × IsPacket tuple × Decides rules tuple place action

-- What is said of the rule at a place of a section; rules are told by their numbers from 1.
abbrev pub IsRuleRemark : SectionFacts → Direction → ℕ → Remark → Type 0
IsRuleRemark section direction place NoRule = ⊥
IsRuleRemark section direction place (NoMac interface) = ⊥
IsRuleRemark section direction place (Shadowed interface way number earlier) =
    (interface ≡ section.interface) × (way ≡ direction) × (number ≡ place + 1)
    × ((first : ℕ) × (earlier ≡ first + 1) × IsShadowed (rules_of direction section) place first)
IsRuleRemark section direction place (ShadowedTogether interface way number takers) =
    (interface ≡ section.interface) × (way ≡ direction) × (number ≡ place + 1)
    × IsShadowedTogether (rules_of direction section) place takers.places.items takers.are_least
IsRuleRemark section direction place (NotKnown interface way number) =
    (interface ≡ section.interface) × (way ≡ direction) × (number ≡ place + 1) × IsCoveredByNone (rules_of direction section) place
IsRuleRemark section direction place (SourceBits interface way number) =
    (interface ≡ section.interface) × (way ≡ direction) × (number ≡ place + 1)
    × ((rule : RuleFacts) × (slice_get (rules_of direction section) place ≡ Some rule) × HasBits rule.family rule.source)
IsRuleRemark section direction place (DestBits interface way number) =
    (interface ≡ section.interface) × (way ≡ direction) × (number ≡ place + 1)
    × ((rule : RuleFacts) × (slice_get (rules_of direction section) place ≡ Some rule) × HasBits rule.family rule.dest)
IsRuleRemark section direction place (Mask interface way number bits) =
    (interface ≡ section.interface) × (way ≡ direction) × (number ≡ place + 1)
    × ((rule : RuleFacts) × (slice_get (rules_of direction section) place ≡ Some rule) × HasMaskAsDest rule bits)
IsRuleRemark section direction place (UnmatchedFlags interface way number) =
    (interface ≡ section.interface) × (way ≡ direction) × (number ≡ place + 1)
    × ((rule : RuleFacts) × (slice_get (rules_of direction section) place ≡ Some rule) × MatchesNoFlags rule)

-- Whether the rule ever decides is told: that it doesn't, or that it isn't known.
abbrev pub IsOfDeciding : SectionFacts → Direction → ℕ → Remark → Type 0
IsOfDeciding section direction place (Shadowed interface way number earlier) =
    (interface ≡ section.interface) × (way ≡ direction) × (number ≡ place + 1)
IsOfDeciding section direction place (ShadowedTogether interface way number takers) =
    (interface ≡ section.interface) × (way ≡ direction) × (number ≡ place + 1)
IsOfDeciding section direction place (NotKnown interface way number) =
    (interface ≡ section.interface) × (way ≡ direction) × (number ≡ place + 1)
IsOfDeciding section direction place remark = ⊥

-- A packet is decided by the rule at a place, or a remark tells that none is, or that this isn't known.
abbrev pub IsDecidingTold : SectionFacts → Direction → ℕ → List Remark → Type 0
IsDecidingTold section direction place remarks = CanDecide (rules_of direction section) place
    ⊎ ((remark : Remark) × Contains remarks remark × IsOfDeciding section direction place remark)

-- So it is of each rule of a direction, a section, a policy.
abbrev pub AreRulesTold : SectionFacts → Direction → List Remark → Type 0
AreRulesTold section direction remarks =
    (place : ℕ) → place < length (rules_of direction section) → IsDecidingTold section direction place remarks

abbrev pub IsSectionTold : SectionFacts → List Remark → Type 0
IsSectionTold section remarks = (direction : Direction) → AreRulesTold section direction remarks

abbrev pub IsPolicyTold : PolicyFacts → List Remark → Type 0
IsPolicyTold policy remarks = (k : ℕ) (section : SectionFacts) → slice_get policy.sections k ≡ Some section → IsSectionTold section remarks

-- A section with rules for outbound packets and no own address, so that none of them is looked at.
abbrev pub LacksMac : SectionFacts → Type 0
LacksMac section = (section.own ≡ None) × (section.outbound ≢ [])

-- What is said of a section.
abbrev pub IsSectionRemark : SectionFacts → Remark → Type 0
IsSectionRemark section NoRule = ⊥
IsSectionRemark section (NoMac interface) = (interface ≡ section.interface) × LacksMac section
IsSectionRemark section remark = (direction : Direction) × (place : ℕ) × IsRuleRemark section direction place remark

-- a section without rules
abbrev pub HasNoRule : SectionFacts → Type 0
HasNoRule section = (section.inbound ≡ []) × (section.outbound ≡ [])

-- What is said of a policy.
abbrev pub IsRemark : PolicyFacts → Remark → Type 0
IsRemark policy NoRule = All HasNoRule policy.sections
IsRemark policy remark = (k : ℕ) × (section : SectionFacts) × (slice_get policy.sections k ≡ Some section) × IsSectionRemark section remark
