use Rattle.std.proofs.Common.{[], ◌∷◌, ◌++◌, arith}
use Rattle.policy_expand.proofs.ExpansionLemmas.{behind_next, expanded_next}
use Rattle.policy_expand.proofs.expansion.expanded.Goals as goal

pub loop-place-preserved : goal.loop-place-preserved
loop-place-preserved c =
    let before = c.loop-place.invariant in
    let found = c.in-Ok.ensures in (
      before.0 ++ found.0 ∷ [],
      before.1 ++ found.1 ∷ [],
      expanded_next c.args.lines.now c.loop-place.place _ c.loop-place.sets.items c.expand_line.new.sets.items before.0 before.1 c.loop-place.text.items
          c.expand_line.new.text.items found.0 found.1 found.2 (omega arith) before.2 found.4 found.3,
    )

pub returns-in-Err-clause-first : goal.returns-in-Err-clause-first
returns-in-Err-clause-first c =
    let before = c.loop-place.invariant in
    behind_next c.args.lines.now c.loop-place.place _ c.loop-place.sets.items before.0 before.1 c.loop-place.text.items (omega arith) before.2

pub returns-then-is_err-clause-first : goal.returns-then-is_err-clause-first
returns-then-is_err-clause-first c =
    let before = c.loop-place.invariant in
    behind_next c.args.lines.now c.loop-place.place _ c.loop-place.sets.items before.0 before.1 c.loop-place.text.items (omega arith) before.2
