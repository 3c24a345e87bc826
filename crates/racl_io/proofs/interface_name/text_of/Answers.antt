use Rattle.std.proofs.Common.{◌∷◌, ap, arith, sym}
use Rattle.racl_io.proofs.NumeralLemmas.{one_digit, three_digits, two_digits}
use Rattle.racl_io.proofs.interface_name.text_of.Goals as goal

pub returns-then-number-lt10-clause-text : goal.returns-then-number-lt10-clause-text
returns-then-number-lt10-clause-text c = ap (λ d. 32 ∷ 105 ∷ 102 ∷ 32 ∷ d) (sym (one_digit c.args.number c.if-number-lt10.true))

pub returns-then-tens-lt10-clause-text : goal.returns-then-tens-lt10-clause-text
returns-then-tens-lt10-clause-text c =
    let fits = c.ranges.number.fits in
    ap (λ d. 32 ∷ 105 ∷ 102 ∷ 32 ∷ d) (sym (two_digits c.args.number c.if-number-lt10.false c.if-tens-lt10.true (omega arith)))

pub returns-clause-text : goal.returns-clause-text
returns-clause-text c =
    let fits = c.ranges.number.fits in
    ap (λ d. 32 ∷ 105 ∷ 102 ∷ 32 ∷ d) (sym (three_digits c.args.number c.if-number-lt10.false c.if-tens-lt10.false (omega arith)))
