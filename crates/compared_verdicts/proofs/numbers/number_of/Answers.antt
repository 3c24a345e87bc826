use Rattle.std.proofs.Common.{arith, get_or, sym, ◌∙◌, ◌≡◌, ◌<◌}
use Rattle.std.specs.Char.{digit_value}
use Rattle.std.proofs.lemmas.Grind.{common_steps}
use Rattle.acl_policy.proofs.NumeralBounds.{digits_value_after-drop}
use Rattle.compared_verdicts.proofs.NumberLemmas.{number-fits, number-lt}
use Rattle.compared_verdicts.proofs.numbers.number_of.Goals as goal

pub overflow_mul-number : goal.overflow_mul-number
overflow_mul-number c = omega (arith, number-fits c.loop-byte.number 0 c.loop-byte.byte-index (omega arith) (omega arith) (omega arith))

pub overflow_add-number : goal.overflow_add-number
overflow_add-number c =
    let digit_is : c.from-in-loop-byte.result ≡ c.in_ok-to_digit.field-0 = cc in
    let digit : c.in_ok-to_digit.field-0 < 10 = omega (arith, c.in_ok-to_digit.ensures.value.0, c.in_ok-to_digit.ensures.value.1) in
    rw digit_is (omega (arith, number-fits c.loop-byte.number c.in_ok-to_digit.field-0 c.loop-byte.byte-index (omega arith) digit (omega arith)))

pub loop-byte-preserved : goal.loop-byte-preserved
loop-byte-preserved c =
    let digit_is : c.from-in-loop-byte.result ≡ c.in_ok-to_digit.field-0 = cc in
    let digit : c.in_ok-to_digit.field-0 < 10 = omega (arith, c.in_ok-to_digit.ensures.value.0, c.in_ok-to_digit.ensures.value.1) in
    let read : c.in_ok-to_digit.field-0 ≡ digit_value (get_or c.args.word.now c.loop-byte.byte-index 0) = cc (c.in_ok-to_digit.ensures.value.1) in
    record {
      small = rw digit_is (number-lt c.loop-byte.number c.in_ok-to_digit.field-0 c.loop-byte.byte-index (omega arith) digit);
      value = rw digit_is (sym (digits_value_after-drop 10 c.loop-byte.number c.loop-byte.byte-index c.in_ok-to_digit.field-0 c.args.word.now (omega arith) read) ∙ c.loop-byte.invariant.value);
      digits = grind (arith, common_steps);
    }
