use Rattle.std.proofs.Common.{arith}
use Rattle.std.proofs.lemmas.Fmt.{length-decimal-le}
use Rattle.racl_io.proofs.NumeralLemmas.{digits_of_tail}
use Rattle.racl_io.proofs.number_printing.Numeral.of.Goals as goal

pub write_digits-start-requires : goal.write_digits-start-requires
write_digits-start-requires c =
    let fits = c.ranges.number.fits in
    (length-decimal-le 24 c.args.number (omega arith) (omega arith) (omega arith), omega arith)

pub invariant_of-result : goal.invariant_of-result
invariant_of-result c =
    let are = digits_of_tail c.args.number _ _ _ c.write_digits-start.ensures.start c.write_digits-start.ensures.written in
    (are.ended, are.told)
