use Rattle.std.proofs.Common.{take}
use Rattle.policy_expand.specs.Lists.{IsUnionOf}
use Rattle.policy_expand.proofs.word_lists.union_of.Given as goal

-- It is the union of the words so far.
abbrev pub invariant-loop-word : goal.invariant-loop-word
invariant-loop-word l = IsUnionOf l.sets (take l.word-index l.words) l.union.items
