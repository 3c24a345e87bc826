-- How the rules that take all packets of another are left out one after the other.
use Rattle.std.specs.Prelude.{◌≡◌, ◌≢◌, ◌≤◌, ◌<◌, ℕ, ◌+◌, Bool, true, false, List, All, Contains, length, map, take, slice_get, Some}
use Rattle.acl_policy.specs.Rules.{RuleFacts}
use Rattle.rule_cover.specs.Covers.{AreTaken, IsMarked, IsNeeded}

-- One rule of the list for each place.
pub record AreAt (rules : List RuleFacts) (places : List ℕ) (others : List RuleFacts) : Type 0 where
  pub same : map (λ (r : RuleFacts). Some r) others ≡ map (slice_get rules) places

-- The first so many places stay, and those that are marked.
pub record AreMarkedIn (places : List ℕ) (first : ℕ) (marks : List Bool) (stay : List ℕ) : Type 0 where
  pub front : take first stay ≡ take first places
  pub fewer : length stay ≤ length places
  pub only : (k : ℕ) → Contains stay k → Contains places k
  pub every : (i k : ℕ) → IsMarked marks i → slice_get places i ≡ Some k → Contains stay k

-- The rules at the places take all packets of the rule, and the first so many are needed, where a test is left.
pub record AreTried (rule : RuleFacts) (rules : List RuleFacts) (tests : ℕ) (places : List ℕ) (tried : ℕ) : Type 0 where
  pub within : All (λ k. k < length rules) places
  pub taken : AreTaken rule rule rules (Contains places)
  pub count : tried ≤ length places
  pub needed : tests ≢ 0 → All (IsNeeded rule rules places) (take tried places)

-- The last place came to stand first, or some were left out.
abbrev pub IsTried : RuleFacts → List RuleFacts → (tests : ℕ) → (old new : List ℕ) → (tried : ℕ) → Bool → Type 0
IsTried rule rules tests old new tried true = (length new ≡ length old) × AreTried rule rules tests new (tried + 1)
IsTried rule rules tests old new tried false = (length new < length old) × AreTried rule rules tests new tried
