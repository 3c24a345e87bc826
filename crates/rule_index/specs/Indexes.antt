-- What a column of bits says of rules.
use Rattle.std.specs.Prelude.{◌≡◌, ◌<◌, ℕ, ◌+◌, ◌/◌, ◌^◌, List, length, slice_get, Some}
use Rattle.packet_view.specs.Tuples.{TupleFacts}
use Rattle.rule_index.specs.declared.column.Column.{Column}
use Rattle.rule_index.specs.declared.ranges_of_rules.Dimension.{Dimension}
use Rattle.rule_index.specs.Dimensions.{IsAt}
use Rattle.acl_policy.specs.Matching.{Matches}
use Rattle.rule_index.specs.Numbered.{numbered_bit}
use Rattle.rule_index.specs.Rows.{IsPlace}
use Rattle.acl_policy.specs.Rules.{RuleFacts}

-- Each rule has its bit in each row that may be of a packet that it matches.
pub record Sieves (dimension : Dimension) (rules : List RuleFacts) (column : Column) : Type 0 where
  pub width : column.width ≡ length rules / 64 + 1
  pub held : (k row x : ℕ) (rule : RuleFacts) (tuple : TupleFacts) → slice_get rules k ≡ Some rule → x < 2 ^ 128 → IsAt dimension tuple x → Matches rule tuple
      → IsPlace column.starts.items x row → numbered_bit column.width column.numbers.items column.words.items row k ≡ 1
