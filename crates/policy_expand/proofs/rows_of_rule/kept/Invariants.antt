use Rattle.std.proofs.Common.{◌≡◌, take}
use Rattle.policy_expand.specs.Families.{kept}
use Rattle.policy_expand.proofs.rows_of_rule.kept.Given as goal

-- Those of the words so far are kept.
abbrev pub invariant-loop-word : goal.invariant-loop-word
invariant-loop-word l = l.words.items ≡ kept l.family (take l.word-index l.list)
