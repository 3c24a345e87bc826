-- How large a number of a few decimal digits can be.
use Rattle.std.proofs.Common.{ℕ, ◌+◌, ◌*◌, ◌^◌, ◌<◌, ◌≤◌, arith, lit<}
use Rattle.std.proofs.Math.Nat.{pow-le-pow_right}
use Rattle.std.proofs.lemmas.Grind.{pow_more}

-- one digit more
pub number-lt : (n d i : ℕ) → n < 10 ^ i → d < 10 → n * 10 + d < 10 ^ (i + 1)
number-lt n d i below digit = rw (pow_more 10 i) (omega arith)

-- eighteen digits fit 64 bits
pub number-fits : (n d i : ℕ) → n < 10 ^ i → d < 10 → i < 18 → n * 10 + d < 2 ^ 64
number-fits n d i below digit few =
    let more : i + 1 ≤ 18 = omega arith in
    omega (arith, number-lt n d i below digit, pow-le-pow_right {n = 10} (lit< tt) more)
