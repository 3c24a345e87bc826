-- How large a number of a few digits can be.
use Rattle.std.proofs.Common.{◌≡◌, ℕ, ◌+◌, ◌*◌, ◌^◌, ◌<◌, ◌≤◌, List, length, get_or, drop, refl, add-one, drop-cons, arith, lit<}
use Rattle.std.specs.Char.{digit_value}
use Rattle.std.specs.Str.Parse.{digits_value_after}
use Rattle.std.proofs.Math.Nat.{mul-le-mul_left, pow-le-pow_right}
use Rattle.std.proofs.lemmas.Grind.{pow_more}

-- one digit more, in a base of at most 16
pub number-lt : (base n d i : ℕ) → base ≤ 16 → n < 16 ^ i → d < base → n * base + d < 16 ^ (i + 1)
number-lt base n d i small below digit =
    let wide : n * base ≤ n * 16 = mul-le-mul_left n small in
    rw (pow_more 16 i) (omega (arith, wide))

-- five digits fit 32 bits
pub number-fits : (base n d i : ℕ) → base ≤ 16 → n < 16 ^ i → d < base → i < 5 → n * base + d < 2 ^ 32
number-fits base n d i small below digit few =
    let more : i + 1 ≤ 5 = omega arith in
    omega (arith, number-lt base n d i small below digit, pow-le-pow_right {n = 16} (lit< tt) more)

-- The first digit after a number makes the next one.
pub digits_value_after-drop : (base n i x : ℕ) (word : List ℕ) → i < length word → x ≡ digit_value (get_or word i 0)
    → digits_value_after base n (drop i word) ≡ digits_value_after base (n * base + x) (drop (i + 1) word)
digits_value_after-drop base n i x word within digit = rw (add-one, drop-cons word i 0, digit) refl
