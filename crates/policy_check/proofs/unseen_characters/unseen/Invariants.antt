use Rattle.std.proofs.Common.{◌≡◌, ◌++◌, ℕ, List, length}
use Rattle.acl_policy.specs.Words.{words_of}
use Rattle.policy_check.proofs.unseen_characters.unseen.Given as goal

-- The words that are left end those of the text.
abbrev pub invariant-words : goal.invariant-words
invariant-words l = (front : List (List ℕ)) × (words_of l.text ≡ front ++ words_of l.rest)

abbrev pub decreases-words : goal.decreases-words
decreases-words l = length (words_of l.rest)
