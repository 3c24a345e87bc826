use Rattle.std.proofs.Common.{◌≡◌, ◌++◌, length, map}
use Rattle.acl_policy.specs.Words.{without_comment, words_of}
use Rattle.policy_expand.specs.Written.{word_text}
use Rattle.policy_expand.proofs.word_reading.words_of_written_line.Given as goal

-- The words so far and those that are left are the line's.
abbrev pub invariant-words : goal.invariant-words
invariant-words l = words_of (without_comment l.line) ≡ map word_text l.words.items ++ words_of l.rest

abbrev pub decreases-words : goal.decreases-words
decreases-words l = length (words_of l.rest)
