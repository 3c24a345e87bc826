use Rattle.std.proofs.Common.{◌≡◌, length}
use Rattle.policy_check.specs.ForExpand.{is_list}
use Rattle.policy_check.proofs.lines_for_expand.is_list_word.Given as goal

-- what is left decides
abbrev pub invariant-bytes : goal.invariant-bytes
invariant-bytes l = is_list l.left ≡ is_list l.word

abbrev pub decreases-bytes : goal.decreases-bytes
decreases-bytes l = length l.left
