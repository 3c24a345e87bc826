-- Places behind which no rule decides packets that a rule of the other list matches.
use Rattle.std.specs.Prelude.{◌≡◌, ◌≤◌, ◌<◌, ◌⊎◌, ℕ, ◌+◌, List, length, Option, Some, None, slice_get}
use Rattle.acl_policy.specs.Rules.{RuleFacts}
use Rattle.policy_check.specs.Remarks.{TakesAll}
use Rattle.policy_compare.specs.declared.taking_rules.Limits.{Limits}
use Rattle.policy_compare.specs.inner.Found.{SidesFacts}

-- The rule at this place takes all packets of another, or there is none; of no rule it is behind the last.
abbrev pub IsLimit : List RuleFacts → Option RuleFacts → ℕ → Type 0
IsLimit rules None limit = length rules ≤ limit
IsLimit rules (Some taken) limit = (other : RuleFacts) → slice_get rules limit ≡ Some other → TakesAll other taken

-- One of these places is behind the limit of the other.
abbrev pub IsBehind : Limits → ℕ → ℕ → Type 0
IsBehind limits place other =
    ((limit : ℕ) × (slice_get limits.rows.items place ≡ Some limit) × (limit < other))
    ⊎ ((limit : ℕ) × (slice_get limits.columns.items other ≡ Some limit) × (limit < place))

-- So it is of each place of another list, and of that behind its end.
pub record AreLimitsOf (rules taken : List RuleFacts) (limits : List ℕ) : Type 0 where
  pub long : length limits ≡ length taken + 1
  pub each : (place limit : ℕ) → slice_get limits place ≡ Some limit → IsLimit rules (slice_get taken place) limit

pub record AreLimits (sides : SidesFacts) (limits : Limits) : Type 0 where
  pub rows : AreLimitsOf sides.after sides.before limits.rows.items
  pub columns : AreLimitsOf sides.before sides.after limits.columns.items
