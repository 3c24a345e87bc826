-- Flags stay among those that are kept.
use Rattle.std.proofs.Common.{◌≡◌, ◌∙◌, ℕ, ap, ap₂, arith, sym}
use Rattle.std.specs.Prelude.{bit_and, bit_or, min, max}
use Rattle.std.specs.Int.Bits.{and_self}
use Rattle.std.specs.Int.{bit_at}
use Rattle.std.proofs.lemmas.Nat.{and_assoc}
use Rattle.std.proofs.lemmas.Nat.Bits.{bit_at_and, bit_at_or, same_from_bits}
use Rattle.session_state.specs.Flags.{IsKept, kept_flags}

-- what is kept of flags is kept again
pub kept_flags_are_kept : (flags : ℕ) → IsKept (kept_flags flags)
kept_flags_are_kept flags = and_assoc 23 flags 23 ∙ ap (bit_and flags) (and_self 23)

min_max : (a b c : ℕ) → min (max a b) c ≡ max (min a c) (min b c)
min_max a b c = omega arith

-- `and` distributes over `or`
and_or : (a b c : ℕ) → bit_and (bit_or a b) c ≡ bit_or (bit_and a c) (bit_and b c)
and_or a b c = same_from_bits _ _ (λ i.
    bit_at_and (bit_or a b) c i ∙ ap (λ x. min x (bit_at c i)) (bit_at_or a b i)
    ∙ min_max (bit_at a i) (bit_at b i) (bit_at c i)
    ∙ sym (bit_at_or (bit_and a c) (bit_and b c) i ∙ ap₂ max (bit_at_and a c i) (bit_at_and b c i)))

-- flags of two packets together are kept where each one's are
pub joined_flags_are_kept : (a b : ℕ) → IsKept a → IsKept b → IsKept (bit_or a b)
joined_flags_are_kept a b in_a in_b = and_or a b 23 ∙ ap₂ bit_or in_a in_b
