-- Two numbers begin with the same bits where what differs is below the bits that don't count.
use Rattle.std.proofs.Common.{◌≡◌, ◌↔◌, ℕ, ◌+◌, ◌/◌, ◌%◌, ◌^◌, ◌<◌, sym, ap, ◌∙◌, arith}
use Rattle.std.specs.Prelude.{bit_xor}
use Rattle.std.specs.Int.{bit_at}
use Rattle.std.proofs.lemmas.Nat.{xor_shr}
use Rattle.std.proofs.lemmas.Nat.Bits.{bit_at-lt, bit_at-zero, bit_at_xor, same_from_bits}

parity : (x y : ℕ) → x < 2 → y < 2 → (x + y) % 2 ≡ 0 → x ≡ y
parity x y small short even = omega arith

bit_xor-zero : (a b : ℕ) → bit_xor a b ≡ 0 → a ≡ b
bit_xor-zero a b none =
    same_from_bits a b (λ i.
    parity (bit_at a i) (bit_at b i) (bit_at-lt a i) (bit_at-lt b i) (sym (bit_at_xor a b i) ∙ ap (λ (n : ℕ). bit_at n i) none ∙ bit_at-zero i))

bit_xor-same : (a : ℕ) → bit_xor a a ≡ 0
bit_xor-same a =
    same_from_bits (bit_xor a a) 0 (λ i. let even : (bit_at a i + bit_at a i) % 2 ≡ 0 = omega arith in bit_at_xor a a i ∙ even ∙ sym (bit_at-zero i))

pub begins_alike : (a b k : ℕ) → (bit_xor a b / 2 ^ k ≡ 0) ↔ (a / 2 ^ k ≡ b / 2 ^ k)
begins_alike a b k = (
  λ below. bit_xor-zero (a / 2 ^ k) (b / 2 ^ k) (sym (xor_shr a b k) ∙ below),
  λ same. xor_shr a b k ∙ ap (λ (n : ℕ). bit_xor (a / 2 ^ k) n) (sym same) ∙ bit_xor-same (a / 2 ^ k),
)
