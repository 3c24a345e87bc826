use Rattle.std.proofs.Common.{ap, arith, decimal, length, length-append}
use Rattle.racl_io.proofs.NumeralLemmas.{few_digits}
use Rattle.racl_io.proofs.packet_lines.push_rule.Goals as goal

pub push_rule_number-requires : goal.push_rule_number-requires
push_rule_number-requires c =
    let fits = c.ranges.n.fits in
    omega (arith, ap length c.push.ensures, length-append c.args.piece.now c.args.effect.now, few_digits c.args.n (omega arith), c.requires)

pub push-requires-2 : goal.push-requires-2
push-requires-2 c =
    let fits = c.ranges.n.fits in
    omega (
      arith,
      ap length c.push.ensures,
      length-append c.args.piece.now c.args.effect.now,
      ap length c.push_rule_number.ensures,
      length-append c.push.new.self (decimal c.args.n),
      few_digits c.args.n (omega arith),
      c.requires,
    )

pub returns-clause-short : goal.returns-clause-short
returns-clause-short c =
    let fits = c.ranges.n.fits in
    omega (
      arith,
      ap length c.push.ensures,
      length-append c.args.piece.now c.args.effect.now,
      ap length c.push_rule_number.ensures,
      length-append c.push.new.self (decimal c.args.n),
      ap length c.push-2.ensures,
      length-append c.push_rule_number.new.piece c.args.rest.now,
      few_digits c.args.n (omega arith),
    )
