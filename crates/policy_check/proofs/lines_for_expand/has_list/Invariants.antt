use Rattle.std.proofs.Common.{◌≡◌, length}
use Rattle.std.specs.List.{list_any}
use Rattle.acl_policy.specs.Words.{words_of}
use Rattle.policy_check.specs.ForExpand.{is_list}
use Rattle.policy_check.proofs.lines_for_expand.has_list.Given as goal

-- what is left decides
abbrev pub invariant-words : goal.invariant-words
invariant-words l = list_any is_list (words_of l.left) ≡ list_any is_list (words_of l.text)

abbrev pub decreases-words : goal.decreases-words
decreases-words l = length (words_of l.left)
