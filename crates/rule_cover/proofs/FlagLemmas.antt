-- Flags bit by bit.
use Rattle.std.proofs.Common.{◌≡◌, ◌≢◌, ◌≤◌, ◌<◌, ◌↔◌, ℕ, ◌+◌, ◌%◌, ◌^◌, bit_and, sym, ap, ◌∙◌, arith, min, inl, inr}
use Rattle.std.specs.Prelude.{bit_or, bit_xor}
use Rattle.std.specs.Int.{bit_at}
use Rattle.std.proofs.lemmas.Bool.{cases_eq}
use Rattle.std.proofs.lemmas.Nat.Bits.{bit_at-lt, bit_at-pow_other, bit_at-pow_same, bit_at-zero, bit_at_above, bit_at_and, bit_at_or, bit_at_xor, same_from_bits}
use Rattle.rule_cover.specs.inner.Regions.{HasFlags}

-- one bit of a rule's flags
bit_matches : (f v m : ℕ) → f < 2 → v < 2 → m < 2 → min v m ≡ v → v ≤ f → (v + m) % 2 + f ≤ 1 → min f m ≡ v
bit_matches f v m one two three within set clear = omega arith

bit_wanted : (f v m : ℕ) → f < 2 → v < 2 → m < 2 → min f m ≡ v → (v ≤ f) × ((v + m) % 2 + f ≤ 1)
bit_wanted f v m one two three has = (omega arith, omega arith)

-- where the value lies in the mask, its bits are to be set, and all others of the mask not
pub masked : (value mask : ℕ) → bit_and value mask ≡ value → (flags : ℕ) → HasFlags value (bit_xor value mask) flags ↔ (bit_and flags mask ≡ value)
masked value mask within flags = (
  λ has. same_from_bits (bit_and flags mask) value (λ i.
      let inside : min (bit_at value i) (bit_at mask i) ≡ bit_at value i = sym (bit_at_and value mask i) ∙ ap (λ (n : ℕ). bit_at n i) within in
      let other : (bit_at value i + bit_at mask i) % 2 + bit_at flags i ≤ 1 = omega (arith, bit_at_xor value mask i, (has i).1) in
      bit_at_and flags mask i
      ∙ bit_matches (bit_at flags i) (bit_at value i) (bit_at mask i) (bit_at-lt flags i) (bit_at-lt value i) (bit_at-lt mask i) inside (has i).0 other),
  λ same i.
      let there : min (bit_at flags i) (bit_at mask i) ≡ bit_at value i = sym (bit_at_and flags mask i) ∙ ap (λ (n : ℕ). bit_at n i) same in
      let both = bit_wanted (bit_at flags i) (bit_at value i) (bit_at mask i) (bit_at-lt flags i) (bit_at-lt value i) (bit_at-lt mask i) there in
      (both.0, omega (arith, bit_at_xor value mask i, both.1)),
)

-- a value with bits outside the mask is that of no flags
pub unmasked : (value mask : ℕ) → bit_and value mask ≢ value → (flags : ℕ) → HasFlags 1 1 flags ↔ (bit_and flags mask ≡ value)
unmasked value mask outside flags = (
  λ has. absurd (let two = has 0 in omega (arith, two.0, two.1)),
  λ same. absurd (outside (same_from_bits (bit_and value mask) value (λ i.
      let there : min (bit_at flags i) (bit_at mask i) ≡ bit_at value i = sym (bit_at_and flags mask i) ∙ ap (λ (n : ℕ). bit_at n i) same in
      let inside : min (bit_at value i) (bit_at mask i) ≡ bit_at value i = omega arith in
      bit_at_and value mask i ∙ inside))),
)

-- no flag is wanted
pub HasFlags-none : (flags : ℕ) → HasFlags 0 0 flags
HasFlags-none flags i = (omega (arith, bit_at-zero i), omega (arith, bit_at-zero i, bit_at-lt flags i))

-- numbers that share a bit
apart_bit : (a b f : ℕ) → a ≤ f → b + f ≤ 1 → min a b ≡ 0
apart_bit a b f set clear = omega arith

pub flags_apart : (ones zeros flags more less : ℕ) → bit_and ones zeros ≢ 0 → HasFlags ones less flags → HasFlags more zeros flags → ⊥
flags_apart ones zeros flags more less shared set clear =
    shared (same_from_bits (bit_and ones zeros) 0 (λ i.
    bit_at_and ones zeros i ∙ apart_bit (bit_at ones i) (bit_at zeros i) (bit_at flags i) (set i).0 (clear i).1 ∙ sym (bit_at-zero i)))

-- the flags of two regions
pub both_flags : (ones zeros more less flags : ℕ)
    → HasFlags (bit_or ones more) (bit_or zeros less) flags ↔ (HasFlags ones zeros flags × HasFlags more less flags)
both_flags ones zeros more less flags = (
  λ has. (
    λ i. (
      omega (arith, bit_at_or ones more i, (has i).0),
      omega (arith, bit_at_or zeros less i, (has i).1),
    ),
    λ i. (
      omega (arith, bit_at_or ones more i, (has i).0),
      omega (arith, bit_at_or zeros less i, (has i).1),
    ),
  ),
  λ both i. (
    omega (arith, bit_at_or ones more i, (both.0 i).0, (both.1 i).0),
    omega (arith, bit_at_or zeros less i, (both.0 i).1, (both.1 i).1),
  ),
)

-- one more flag that is set, or that is not
pub with_one : (ones zeros flag flags : ℕ) → HasFlags ones zeros flags → bit_at flags flag ≡ 1 → HasFlags (bit_or ones (2 ^ flag)) zeros flags
with_one ones zeros flag flags has set i = (
  elim (cases_eq i flag) [
    | inl here ↦
        let there : bit_at flags i ≡ 1 = ap (λ (k : ℕ). bit_at flags k) here ∙ set in
        omega (arith, bit_at-lt (bit_or ones (2 ^ flag)) i)
    | inr other ↦ omega (arith, bit_at_or ones (2 ^ flag) i, bit_at-pow_other flag i other, (has i).0)
  ],
  (has i).1,
)

pub with_zero : (ones zeros flag flags : ℕ) → HasFlags ones zeros flags → bit_at flags flag ≡ 0 → HasFlags ones (bit_or zeros (2 ^ flag)) flags
with_zero ones zeros flag flags has clear i = (
  (has i).0,
  elim (cases_eq i flag) [
    | inl here ↦
        let there : bit_at flags i ≡ 0 = ap (λ (k : ℕ). bit_at flags k) here ∙ clear in
        omega (arith, bit_at-lt (bit_or zeros (2 ^ flag)) i)
    | inr other ↦ omega (arith, bit_at_or zeros (2 ^ flag) i, bit_at-pow_other flag i other, (has i).1)
  ],
)

-- and fewer
pub less_one : (ones zeros bit flags : ℕ) → HasFlags (bit_or ones bit) zeros flags → HasFlags ones zeros flags
less_one ones zeros bit flags has i = (omega (arith, bit_at_or ones bit i, (has i).0), (has i).1)

pub less_zero : (ones zeros bit flags : ℕ) → HasFlags ones (bit_or zeros bit) flags → HasFlags ones zeros flags
less_zero ones zeros bit flags has i = ((has i).0, omega (arith, bit_at_or zeros bit i, (has i).1))

-- what the added flag says
pub one_is_set : (ones zeros flag flags : ℕ) → HasFlags (bit_or ones (2 ^ flag)) zeros flags → bit_at flags flag ≡ 1
one_is_set ones zeros flag flags has =
    omega (arith, bit_at_or ones (2 ^ flag) flag, bit_at-pow_same flag, (has flag).0, bit_at-lt flags flag)

pub zero_is_clear : (ones zeros flag flags : ℕ) → HasFlags ones (bit_or zeros (2 ^ flag)) flags → bit_at flags flag ≡ 0
zero_is_clear ones zeros flag flags has =
    omega (arith, bit_at_or zeros (2 ^ flag) flag, bit_at-pow_same flag, (has flag).1, bit_at-lt flags flag)

-- a byte has no bit from the eighth on
pub no_bit_above : (n i : ℕ) → n < 2 ^ 8 → 8 ≤ i → bit_at n i ≡ 0
no_bit_above n i small above = bit_at_above n 8 i small above

-- the ones themselves are such flags
pub ones_are_flags : (ones zeros : ℕ) → bit_and ones zeros ≡ 0 → HasFlags ones zeros ones
ones_are_flags ones zeros none i =
    let apart : min (bit_at ones i) (bit_at zeros i) ≡ 0 = sym (bit_at_and ones zeros i) ∙ ap (λ (n : ℕ). bit_at n i) none ∙ bit_at-zero i in
    (omega arith, omega (arith, bit_at-lt ones i, bit_at-lt zeros i))

pub no_flags : (ones zeros : ℕ) → bit_and ones zeros ≢ 0 → (flags : ℕ) → HasFlags ones zeros flags → ⊥
no_flags ones zeros shared flags has = flags_apart ones zeros flags ones zeros shared has has

pub some_ones : (ones zeros : ℕ) → HasFlags ones zeros 0 → ones ≡ 0
some_ones ones zeros has =
    same_from_bits ones 0 (λ i. let clear : bit_at ones i ≡ 0 = omega (arith, bit_at-zero i, (has i).0) in clear ∙ sym (bit_at-zero i))
