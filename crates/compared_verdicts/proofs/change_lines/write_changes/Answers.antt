use Rattle.std.proofs.Common.{◌≤◌, ◌∙◌, ◌++◌, ◌+◌, ap, arith, drop, refl}
use Rattle.std.proofs.KnownBytes.{Appends-trans}
use Rattle.racl_io.proofs.ReportLemmas.{cut_at}
use Rattle.acl_policy.specs.Policies.{policy_facts}
use Rattle.compared_verdicts.specs.inner.ChangeLines.{lines_told}
use Rattle.compared_verdicts.proofs.ChangeLemmas.{lines_next}
use Rattle.compared_verdicts.proofs.change_lines.write_changes.Goals as goal

pub pieces-preserved : goal.pieces-preserved
pieces-preserved g c =
    let inv = c.pieces.invariant in
    let policy = policy_facts c.args.policy.now in
    let to = c.min-to.result in
    let is = c.min-to.ensures in
    let more = c.pieces-test.true in
    let less : c.pieces.from ≤ to = omega (arith, is, more) in
    record {
      written = (
        inv.written.0 ++ c.as_slice.result.now,
        lines_next policy inv.written.0 c.as_slice.result.now (lines_told policy c.args.changes.now) c.args.changes.now _ c.pieces.from to less inv.written.1 refl
            (c.as_slice.ensures ∙ c.push_changes.ensures),
        Appends-trans _ _ _ _ _ inv.written.2 c.in-Ok.ensures.whole,
      );
      within = omega (arith, is);
      sound = c.in-Ok.ensures.ok ∙ inv.sound;
    }

pub returns-in-Err : goal.returns-in-Err
returns-in-Err g c =
    let inv = c.pieces.invariant in
    let policy = policy_facts c.args.policy.now in
    let piece = c.as_slice.result.now in
    let to = c.min-to.result in
    let is = c.min-to.ensures in
    let more = c.pieces-test.true in
    let less : c.pieces.from ≤ to = omega (arith, is, more) in
    let all = lines_told policy c.args.changes.now in
    let whole = lines_next policy inv.written.0 piece all c.args.changes.now _ c.pieces.from to less inv.written.1 refl (c.as_slice.ensures ∙ c.push_changes.ensures) in (
      tt,
      tt,
      c.in-Err.ensures.failed ∙ ap (λ n. n + 1) inv.sound,
      c.in-Err.ensures.fault,
      cut_at _ _ _ inv.written.0 piece (lines_told policy (drop to c.args.changes.now)) all whole inv.written.2 c.in-Err.ensures.front,
    )
