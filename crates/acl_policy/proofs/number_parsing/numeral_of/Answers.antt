use Rattle.std.proofs.Common.{arith, ◌≤◌, lit<, get_or, sym, ◌∙◌, ◌≡◌, ◌<◌}
use Rattle.std.specs.Char.{digit_value}
use Rattle.std.proofs.lemmas.Grind.{common_steps}
use Rattle.std.proofs.Math.Nat.{pow-le-pow_right}
use Rattle.acl_policy.proofs.NumeralBounds.{digits_value_after-drop, number-fits, number-lt}
use Rattle.acl_policy.proofs.number_parsing.numeral_of.Goals as goal

pub overflow_mul-number : goal.overflow_mul-number
overflow_mul-number c = omega (arith, number-fits c.args.base c.loop-byte.number 0 c.loop-byte.byte-index (omega arith) (omega arith) (omega arith) (omega arith))

pub overflow_add-number : goal.overflow_add-number
overflow_add-number c =
    let digit : c.in_ok-number.field-0 < c.args.base = omega (arith, c.in_ok-number.ensures.value.0, c.in_ok-number.ensures.value.1) in
    omega (arith, number-fits c.args.base c.loop-byte.number c.in_ok-number.field-0 c.loop-byte.byte-index (omega arith) (omega arith) digit (omega arith))

pub loop-byte-preserved : goal.loop-byte-preserved
loop-byte-preserved c =
    let digit : c.in_ok-number.field-0 < c.args.base = omega (arith, c.in_ok-number.ensures.value.0, c.in_ok-number.ensures.value.1) in
    let read : c.in_ok-number.field-0 ≡ digit_value (get_or c.args.word.now c.loop-byte.byte-index 0) = cc (c.in_ok-number.ensures.value.1) in
    record {
      small = number-lt c.args.base c.loop-byte.number c.in_ok-number.field-0 c.loop-byte.byte-index (omega arith) (omega arith) digit;
      value = sym (digits_value_after-drop c.args.base c.loop-byte.number c.loop-byte.byte-index c.in_ok-number.field-0 c.args.word.now (omega arith) read) ∙ c.loop-byte.invariant.value;
      digits = grind (arith, common_steps);
    }

pub returns-clause-fits : goal.returns-clause-fits
returns-clause-fits c =
    let few : c.loop-byte.byte-index ≤ c.args.most = omega arith in
    omega (arith, pow-le-pow_right {n = 16} (lit< tt) few)
