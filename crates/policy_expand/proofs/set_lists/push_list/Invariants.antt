use Rattle.std.proofs.Common.{◌≡◌, ◌++◌, List, length, take}
use Rattle.std.specs.List.{slice_split}
use Rattle.policy_expand.specs.Lists.{AreStoodFor, is_comma}
use Rattle.policy_expand.specs.Written.{word_text}
use Rattle.policy_expand.specs.declared.visible_word.Word.{Word}
use Rattle.policy_expand.proofs.set_lists.push_list.Given as goal

-- What was added is what the pieces so far stand for.
abbrev pub invariant-loop-piece : goal.invariant-loop-piece
invariant-loop-piece l =
    (words : List Word) × (l.out.items ≡ l.initial.out.items ++ words)
    × AreStoodFor l.sets (take (length l.yielded) (slice_split is_comma (word_text l.word))) words
