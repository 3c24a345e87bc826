use Rattle.std.proofs.Common.{arith, ℕ, ◌+◌, ◌*◌, ◌^◌, ◌≤◌, lit<, get_or, sym, ◌∙◌, ◌≡◌, ◌<◌}
use Rattle.std.specs.Char.{digit_value}
use Rattle.std.proofs.lemmas.Grind.{common_steps}
use Rattle.std.proofs.Math.Nat.{pow-le-pow_right}
use Rattle.acl_policy.proofs.NumeralBounds.{digits_value_after-drop, number-lt}
use Rattle.packet_questions.proofs.word_numbers.long_numeral_of.Goals as goal

-- ten digits fit 64 bits
long-fits : (base n d i : ℕ) → base ≤ 16 → n < 16 ^ i → d < base → i < 10 → n * base + d < 2 ^ 64
long-fits base n d i small below digit few =
    let more : i + 1 ≤ 10 = omega arith in
    omega (arith, number-lt base n d i small below digit, pow-le-pow_right {n = 16} (lit< tt) more)

pub overflow_mul-number : goal.overflow_mul-number
overflow_mul-number c =
    let base_is : c.from.result ≡ c.args.base = cc in
    rw base_is (omega (arith, long-fits c.args.base c.loop-byte.number 0 c.loop-byte.byte-index (omega arith) (omega arith) (omega arith) (omega arith)))

pub overflow_add-number : goal.overflow_add-number
overflow_add-number c =
    let base_is : c.from.result ≡ c.args.base = cc in
    let digit_is : c.from-in-loop-byte-2.result ≡ c.in_ok-to_digit.field-0 = cc in
    let digit : c.in_ok-to_digit.field-0 < c.args.base = omega (arith, c.in_ok-to_digit.ensures.value.0, c.in_ok-to_digit.ensures.value.1) in
    rw (base_is, digit_is) (omega (arith, long-fits c.args.base c.loop-byte.number c.in_ok-to_digit.field-0 c.loop-byte.byte-index (omega arith) (omega arith) digit (omega arith)))

pub loop-byte-preserved : goal.loop-byte-preserved
loop-byte-preserved c =
    let base_is : c.from.result ≡ c.args.base = cc in
    let digit_is : c.from-in-loop-byte-2.result ≡ c.in_ok-to_digit.field-0 = cc in
    let digit : c.in_ok-to_digit.field-0 < c.args.base = omega (arith, c.in_ok-to_digit.ensures.value.0, c.in_ok-to_digit.ensures.value.1) in
    let read : c.in_ok-to_digit.field-0 ≡ digit_value (get_or c.args.word.now c.loop-byte.byte-index 0) = cc (c.in_ok-to_digit.ensures.value.1) in
    record {
      small = rw (base_is, digit_is) (number-lt c.args.base c.loop-byte.number c.in_ok-to_digit.field-0 c.loop-byte.byte-index (omega arith) (omega arith) digit);
      value = rw (base_is, digit_is) (sym (digits_value_after-drop c.args.base c.loop-byte.number c.loop-byte.byte-index c.in_ok-to_digit.field-0 c.args.word.now (omega arith) read) ∙ c.loop-byte.invariant.value);
      digits = grind (arith, common_steps);
    }

pub returns-clause-fits : goal.returns-clause-fits
returns-clause-fits c =
    let few : c.loop-byte.byte-index ≤ c.args.most = omega arith in
    omega (arith, pow-le-pow_right {n = 16} (lit< tt) few)
