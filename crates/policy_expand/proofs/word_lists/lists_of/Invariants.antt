use Rattle.std.proofs.Common.{map, take}
use Rattle.policy_expand.specs.Lists.{AreListsOf}
use Rattle.policy_expand.specs.Written.{list_words}
use Rattle.policy_expand.proofs.word_lists.lists_of.Given as goal

-- The lists are those of the words so far.
abbrev pub invariant-loop-word : goal.invariant-loop-word
invariant-loop-word l = AreListsOf l.sets (take l.word-index l.words) (map list_words l.lists.items)
