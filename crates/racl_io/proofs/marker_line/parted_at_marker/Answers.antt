use Rattle.std.proofs.Common.{subst, sym}
use Rattle.std.specs.Prelude.{IfNone}
use Rattle.racl_io.specs.Inputs.{InputFacts, IsParted}
use Rattle.racl_io.proofs.InputLemmas.{front_grows, no_input}
use Rattle.racl_io.proofs.marker_line.parted_at_marker.Goals as goal

pub lines-preserved : goal.lines-preserved
lines-preserved c = front_grows _ _ _ _ _ c.lines.invariant c.in-Some.ensures.some c.in_default-marker.ensures.none

pub returns-in_err-form-clause-none : goal.returns-in_err-form-clause-none
returns-in_err-form-clause-none c =
    subst (λ r. IfNone r ((parts : InputFacts) → IsParted c.args.marks c.args.bytes.now parts → ⊥)) (sym c.from_residual.ensures) (no_input _ _ _ c.lines.invariant c.in_default.ensures.none c.in_err-form.ensures.none)
