-- For each value of the flags of TCP, the rules that may match it.
use Rattle.std.specs.Prelude.{◌≡◌, ◌<◌, ℕ, ◌+◌, ◌/◌, List, length, slice_get, Some}
use Rattle.packet_view.specs.Tuples.{TupleFacts}
use Rattle.rule_index.specs.declared.flag_rows.FlagRows.{FlagRows}
use Rattle.rule_index.specs.Flagged.{IsFlagsOf}
use Rattle.acl_policy.specs.Matching.{Matches}
use Rattle.rule_index.specs.Rows.{bit_in}
use Rattle.acl_policy.specs.Rules.{RuleFacts}

-- Each rule that asks for no flags has its bit in each row.
abbrev pub HaveFree : List RuleFacts → ℕ → List ℕ → Type 0
HaveFree rules width rows = (k x : ℕ) (rule : RuleFacts) → slice_get rules k ≡ Some rule → rule.mask ≡ 0 → x < 256 → bit_in width rows x k ≡ 1

-- Each rule has its bit in the row of the flags of each packet that it matches.
pub record SievesFlags (rules : List RuleFacts) (column : FlagRows) : Type 0 where
  pub width : column.width ≡ length rules / 64 + 1
  pub held : (k x : ℕ) (rule : RuleFacts) (tuple : TupleFacts) → slice_get rules k ≡ Some rule → x < 256 → IsFlagsOf tuple.fields x → Matches rule tuple
      → bit_in column.width column.rows.items x k ≡ 1
