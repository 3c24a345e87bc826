use Rattle.std.proofs.Common.{◌≡◌, ◌++◌, ℕ, List, length}
use Rattle.policy_check.proofs.unseen_characters.has_no_break_space.Given as goal

-- What is left ends the word.
abbrev pub invariant-bytes : goal.invariant-bytes
invariant-bytes l = (front : List ℕ) × (l.word ≡ front ++ l.rest)

abbrev pub decreases-bytes : goal.decreases-bytes
decreases-bytes l = length l.rest
