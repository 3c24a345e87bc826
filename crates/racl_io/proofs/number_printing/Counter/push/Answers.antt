use Rattle.std.proofs.Common.{◌∙◌, ◌++◌, ◌+◌, ◌∷◌, [], ap, append_assoc, arith, decimal, sym}
use Rattle.racl_io.proofs.NumeralLemmas.{tens_and_last}
use Rattle.racl_io.proofs.number_printing.Counter.push.Goals as goal

pub returns-clause-text : goal.returns-clause-text
returns-clause-text c =
    let piece = c.args.piece.now in
    let tens = c.self.inside.tens in
    let last = c.self.inside.last in
    let is = tens_and_last tens last (omega (arith, c.number.ensures, c.if-number-eq0.false)) c.self.invariant (omega (arith, c.self.view_is, c.requires.fits)) in
    c.push-3.ensures ∙ ap (λ p. p ++ (48 + last) ∷ []) c.push-2.ensures.text ∙ append_assoc piece (decimal tens) ((48 + last) ∷ []) ∙ ap (λ d. piece ++ d) (sym is)
    ∙ ap (λ n. piece ++ decimal n) c.self.view_is
