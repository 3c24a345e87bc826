use Rattle.std.proofs.Common.{◌≡◌, ◌++◌, take}
use Rattle.policy_expand.specs.Texts.{spelt}
use Rattle.policy_expand.proofs.plain_text.push_words.Given as goal

-- The words so far were added.
abbrev pub invariant-loop-word : goal.invariant-loop-word
invariant-loop-word l = l.out.items ≡ l.initial.out.items ++ spelt (take l.word-index l.row)
