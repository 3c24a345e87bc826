-- Which packets there are, and what rules leave of a set of them: this project's profile of first match.
use Rattle.std.specs.Prelude.{◌≡◌, ◌≢◌, ◌<◌, ℕ, ◌^◌, Bool, true, IsTrue, List, Contains, length, slice_get, Some}
use Rattle.packet_view.specs.Addresses.{address_limit, fields_suit}
use Rattle.packet_view.specs.Tuples.{TupleFacts, tuple_facts}
use Rattle.packet_view.specs.declared.tuple.Fields.{Fields}
use Rattle.packet_view.specs.declared.tuple.Fields.TheVariants.{Absent, Ports, Tcp, Icmp}
use Rattle.acl_policy.specs.Matching.{DecidesByDefault, Matches}
use Rattle.acl_policy.specs.Rules.{RuleFacts}
use Rattle.rule_cover.specs.declared.uncovered_packets.Cover.{Cover}
use Rattle.rule_cover.specs.declared.uncovered_packets.Cover.TheVariants.{Left, Taken, Unknown}

-- Ports are numbers of 16 bits; flags, types and codes are bytes.
abbrev pub AreSmall : Fields → Type 0
AreSmall Absent = Unit {0}
AreSmall (Ports from to) = (from < 2 ^ 16) × (to < 2 ^ 16)
AreSmall (Tcp from to flags) = (from < 2 ^ 16) × (to < 2 ^ 16) × (flags < 2 ^ 8)
AreSmall (Icmp kind code) = (kind < 2 ^ 8) × (code < 2 ^ 8)

-- What five-tuples of packets are: numbers that fit their fields, and fields of the protocol and the family.
pub record IsPacket (tuple : TupleFacts) : Type 0 where
  pub source : tuple.source < address_limit tuple.family
  pub dest : tuple.dest < address_limit tuple.family
  pub proto : tuple.proto < 2 ^ 8
  pub suits : IsTrue (fields_suit tuple.family tuple.proto tuple.fields)
  pub small : AreSmall tuple.fields

-- Both rules match the packet, and none of the list does.
pub record IsLeft (a b : RuleFacts) (rules : List RuleFacts) (tuple : TupleFacts) : Type 0 where
  pub packet : IsPacket tuple
  pub one : Matches a tuple
  pub two : Matches b tuple
  pub none : DecidesByDefault rules tuple

-- A rule of the list at such a place matches the packet.
abbrev pub IsTaken : List RuleFacts → (ℕ → Type 0) → TupleFacts → Type 0
IsTaken rules at tuple = (k : ℕ) × (rule : RuleFacts) × at k × (slice_get rules k ≡ Some rule) × Matches rule tuple

-- Each packet that both rules match is matched by a rule of the list at such a place.
abbrev pub AreTaken : RuleFacts → RuleFacts → List RuleFacts → (ℕ → Type 0) → Type 0
AreTaken one two rules at = (tuple : TupleFacts) → IsPacket tuple → Matches one tuple → Matches two tuple → IsTaken rules at tuple

-- The place of a rule that is marked.
abbrev pub IsMarked : List Bool → ℕ → Type 0
IsMarked marks k = slice_get marks k ≡ Some true

pub record IsTakenByMarked (one two : RuleFacts) (rules : List RuleFacts) (marks : List Bool) : Type 0 where
  pub size : length marks ≡ length rules
  pub taken : AreTaken one two rules (IsMarked marks)

abbrev pub IsCover : RuleFacts → RuleFacts → List RuleFacts → Cover → Type 0
IsCover one two rules (Left tuple) = IsLeft one two rules (tuple_facts tuple)
IsCover one two rules (Taken marks) = IsTakenByMarked one two rules marks.items
IsCover one two rules Unknown = Unit {0}

-- The rule at a place can't be left out of those at some: a packet of the rule is matched by no other of them.
pub record IsNeeded (rule : RuleFacts) (rules : List RuleFacts) (places : List ℕ) (place : ℕ) : Type 0 where
  pub tuple : TupleFacts
  pub packet : IsPacket tuple
  pub is : Matches rule tuple
  pub alone : (k : ℕ) (other : RuleFacts) → Contains places k → k ≢ place → slice_get rules k ≡ Some other → Matches other tuple → ⊥
