use Rattle.std.proofs.Common.{◌∙◌, ◌++◌, ◌+◌, ◌%◌, ◌/◌, ◌∷◌, [], ap, append_assoc, arith, decimal, length, length-append, sym}
use Rattle.std.proofs.lemmas.Fmt.{decimal_step}
use Rattle.racl_io.proofs.NumeralLemmas.{length_step}
use Rattle.racl_io.proofs.packet_lines.+push_rule_number.Goals as goal

pub push-requires-2 : goal.push-requires-2
push-requires-2 t c =
    let fits = c.ranges.n.fits in
    omega (arith, ap length c.push_rule_number.ensures, length-append c.args.piece.now (decimal (c.args.n / 10)), length_step c.args.n c.if-n-lt10.false (omega arith), c.requires)

pub returns : goal.returns
returns t c =
    let fits = c.ranges.n.fits in
    let piece = c.args.piece.now in
    let last = 48 + c.args.n % 10 in
    c.push-2.ensures ∙ ap (λ p. p ++ last ∷ []) c.push_rule_number.ensures ∙ append_assoc piece (decimal (c.args.n / 10)) (last ∷ [])
    ∙ ap (λ d. piece ++ d) (sym (decimal_step c.args.n c.if-n-lt10.false (omega arith)))
