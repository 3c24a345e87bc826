use Rattle.std.proofs.Common.{◌++◌, ◌∷◌, ◌∙◌, List, ℕ, ap, arith, length, length-append, sym}
use Rattle.std.proofs.lemmas.List.{append_assoc}
use Rattle.policy_check.proofs.prefix_findings.last_piece.Goals as goal

pub colons-smaller : goal.colons-smaller
colons-smaller c =
    let long = ap length c.in-Some.ensures ∙ length-append c.in-Some.field-0-0.now (58 ∷ c.in-Some.behind.now) in
    omega (arith, long)

pub colons-preserved : goal.colons-preserved
colons-preserved c =
    let front = c.colons.invariant.0 in
    let more = c.in-Some.field-0-0.now in (
      front ++ 58 ∷ more,
      c.colons.invariant.1 ∙ ap (λ (bs : List ℕ). front ++ 58 ∷ bs) c.in-Some.ensures ∙ sym (append_assoc front (58 ∷ more) (58 ∷ c.in-Some.behind.now)),
    )
