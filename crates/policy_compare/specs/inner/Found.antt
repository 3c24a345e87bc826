-- What is found pair after pair.
use Rattle.std.specs.Prelude.{◌≡◌, ◌<◌, ℕ, ◌+◌, List, ◌++◌, length, map, All, Contains}
use Rattle.packet_view.specs.declared.tuple.Direction.{Direction}
use Rattle.packet_view.specs.Tuples.{TupleFacts, tuple_facts}
use Rattle.acl_policy.specs.Policies.{PolicyFacts}
use Rattle.acl_policy.specs.Rules.{RuleFacts, rule_facts}
use Rattle.policy_compare.specs.Comparisons.{AreApart, DifferBy, IsExample, OwnDiffer, decider_at, rules_at}
use Rattle.policy_compare.specs.declared.taking_rules.Sides.{Sides}
use Rattle.policy_compare.specs.declared.difference.Difference.{Difference}
use Rattle.policy_compare.specs.declared.difference.Pair.{Pair}

-- ---- all pairs of an interface and a direction

-- their rules as values
pub record SidesFacts : Type 0 where
  pub interface : ℕ
  pub direction : Direction
  pub before : List RuleFacts
  pub after : List RuleFacts

abbrev pub sides_facts : Sides → SidesFacts
sides_facts s = record {
  interface = s.interface;
  direction = s.direction;
  before = map rule_facts s.before.now;
  after = map rule_facts s.after.now;
}

-- the rules of two policies
abbrev pub sides_at : PolicyFacts → PolicyFacts → ℕ → Direction → SidesFacts
sides_at before after interface direction = record {
  interface = interface;
  direction = direction;
  before = rules_at before interface direction;
  after = rules_at after interface direction;
}

-- what decides the packets that the rules at these places match, and none before them
abbrev pub pair_at : SidesFacts → ℕ → ℕ → Pair
pair_at sides i j = record {
  interface = sides.interface;
  direction = sides.direction;
  before = decider_at sides.before i;
  after = decider_at sides.after j;
}

abbrev pub IsDifferenceOf : SidesFacts → ℕ → Difference → Type 0
IsDifferenceOf sides left difference =
    (difference.pair.interface ≡ sides.interface) × (difference.pair.direction ≡ sides.direction)
    × IsExample left (λ tuple. (tuple.interface ≡ sides.interface) × AreApart sides.before sides.after difference.pair (tuple_facts tuple)) difference.packet

-- a pair that lets different things become of a packet
abbrev pub IsPairOf : SidesFacts → Pair → Type 0
IsPairOf sides pair = (tuple : TupleFacts) × AreApart sides.before sides.after pair tuple

-- a pair of the rule at this place and one before another place
abbrev pub IsAtRow : SidesFacts → ℕ → ℕ → Pair → Type 0
IsAtRow sides place bound pair = (other : ℕ) × (other < bound) × (pair ≡ pair_at sides place other) × IsPairOf sides pair

-- a pair of a rule before this place
abbrev pub IsBeforeRow : SidesFacts → ℕ → Pair → Type 0
IsBeforeRow sides bound pair = (place : ℕ) × (place < bound) × IsAtRow sides place (length sides.after + 1) pair

abbrev pub IsAtSides : SidesFacts → Pair → Type 0
IsAtSides sides pair = (pair.interface ≡ sides.interface) × (pair.direction ≡ sides.direction) × IsPairOf sides pair

-- ---- all pairs

abbrev pub IsAtInterface : PolicyFacts → PolicyFacts → ℕ → Pair → Type 0
IsAtInterface before after interface pair = (pair.interface ≡ interface) × (tuple : TupleFacts) × DifferBy before after pair tuple

abbrev pub IsBeforeInterface : PolicyFacts → PolicyFacts → ℕ → Pair → Type 0
IsBeforeInterface before after bound pair = (pair.interface < bound) × (tuple : TupleFacts) × DifferBy before after pair tuple

-- an interface with a lower number, of other own addresses
abbrev pub IsOtherBefore : PolicyFacts → PolicyFacts → ℕ → ℕ → Type 0
IsOtherBefore before after bound interface = (interface < bound) × OwnDiffer before after interface

-- Each that is added is right, and each that is wanted is among these.
pub record Adds {A K : Type 0} (key : A → K) (IsRight : A → Type 0) (IsWanted : K → Type 0) (old new : List A) : Type 0 where
  pub more : List A
  pub is : new ≡ old ++ more
  pub each : All IsRight more
  pub every : (k : K) → IsWanted k → Contains (map key more) k

abbrev pub AddsDifferences : (Difference → Type 0) → (Pair → Type 0) → List Difference → List Difference → Type 0
AddsDifferences IsRight IsWanted old new = Adds (λ d. d.pair) IsRight IsWanted old new
