use Rattle.std.proofs.Common.{◌≡◌, ◌++◌, ◌∷◌, List, ℕ, length}
use Rattle.policy_check.proofs.prefix_findings.last_piece.Given as goal

abbrev pub invariant-colons : goal.invariant-colons
invariant-colons l = (front : List ℕ) × (l.word ≡ front ++ 58 ∷ l.piece)

abbrev pub decreases-colons : goal.decreases-colons
decreases-colons l = length l.piece
