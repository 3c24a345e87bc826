use Rattle.std.proofs.Common.{◌≡◌, fold, map, take}
use Rattle.policy_expand.specs.Written.{list_words}
use Rattle.policy_expand.specs.Rows.{grown}
use Rattle.policy_expand.proofs.rows_of_lists.chosen_rows.Given as goal

-- The rows have a word of each list so far.
abbrev pub invariant-loop-list : goal.invariant-loop-list
invariant-loop-list l = map list_words l.rows.items ≡ fold grown (map list_words l.initial.rows.items) (map list_words (take l.list-index l.lists))
