use Rattle.std.proofs.Common.{◌≡◌, ◌++◌, map}
use Rattle.policy_expand.specs.Written.{list_words}
use Rattle.policy_expand.proofs.rows_of_rule.rule_rows.Given as goal

-- The rows of the second family so far stand behind those of the first.
abbrev pub invariant-loop-row : goal.invariant-loop-row
invariant-loop-row l = map list_words l.rows.items ≡ map list_words l.initial.rows.items ++ map list_words l.yielded
