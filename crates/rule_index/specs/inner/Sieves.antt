-- Words of bits of which the bit of a rule is set wherever the rule matches.
use Rattle.std.specs.Prelude.{◌≡◌, ◌<◌, ℕ, ◌+◌, ◌/◌, ◌%◌, List, length, slice_index, slice_get, Some}
use Rattle.std.specs.Int.{bit_at}
use Rattle.packet_view.specs.Tuples.{TupleFacts}
use Rattle.acl_policy.specs.declared.rule.Action.{Action}
use Rattle.acl_policy.specs.Matching.{Matches}
use Rattle.acl_policy.specs.Rules.{RuleFacts}

-- No rule at a place matches.
abbrev pub NotAt : List RuleFacts → TupleFacts → ℕ → Type 0
NotAt rules tuple place = (other : RuleFacts) → slice_get rules place ≡ Some other → Matches other tuple → ⊥

-- The rule at a place matches and has this action.
abbrev pub MatchesAt : List RuleFacts → TupleFacts → ℕ → Action → Type 0
MatchesAt rules tuple place action = (rule : RuleFacts) × (slice_get rules place ≡ Some rule) × Matches rule tuple × (action ≡ rule.action)

-- None of the rules before a place matches.
abbrev pub NoneBefore : List RuleFacts → TupleFacts → ℕ → Type 0
NoneBefore rules tuple n = (k : ℕ) (other : RuleFacts) → k < n → slice_get rules k ≡ Some other → Matches other tuple → ⊥

-- A word has the bit of each rule from a place on that matches.
abbrev pub KeepsMatches : List RuleFacts → TupleFacts → ℕ → ℕ → Type 0
KeepsMatches rules tuple from word = (bit : ℕ) (rule : RuleFacts) → bit < 64 → slice_get rules (from + bit) ≡ Some rule → Matches rule tuple → bit_at word bit ≡ 1

-- Words have the bit of each rule that matches.
pub record Sifts (rules : List RuleFacts) (tuple : TupleFacts) (words : List ℕ) : Type 0 where
  pub width : length words ≡ length rules / 64 + 1
  pub sifted : (k : ℕ) (rule : RuleFacts) → slice_get rules k ≡ Some rule → Matches rule tuple → bit_at (slice_index words (k / 64)) (k % 64) ≡ 1
