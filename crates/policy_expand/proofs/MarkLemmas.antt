-- What stands behind the words of a line.
use Rattle.std.proofs.Common.{◌≡◌, ◌≤◌, ◌++◌, ℕ, List, ◌∷◌, ap, append_assoc, arith, length}
use Rattle.std.specs.List.{position_or_len}
use Rattle.std.proofs.lemmas.List.{length-take}
use Rattle.acl_policy.specs.Words.{is_hash, without_comment}

pub words_short : (line : List ℕ) → length (without_comment line) ≤ length line
unfolding without_comment
words_short line = omega (arith, length-take (position_or_len is_hash line) line)

-- a comment behind a file and a number
pub mark_with : (file number comment : List ℕ) → (32 ∷ (file ++ 58 ∷ number)) ++ comment ≡ 32 ∷ (file ++ 58 ∷ (number ++ comment))
mark_with file number comment = ap (λ (bytes : List ℕ). 32 ∷ bytes) (append_assoc file (58 ∷ number) comment)
