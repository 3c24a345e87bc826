use Rattle.std.proofs.Common.{◌≡◌, map, take}
use Rattle.policy_expand.specs.Written.{list_words}
use Rattle.policy_expand.specs.Rows.{grown}
use Rattle.policy_expand.proofs.rows_of_lists.grown_rows.Given as goal

-- The rows so far stand with each word.
abbrev pub invariant-loop-row : goal.invariant-loop-row
invariant-loop-row l = map list_words l.out.items ≡ grown (map list_words (take l.row-index l.rows)) l.list
