use Rattle.std.proofs.Common.{◌∙◌, ◌++◌, ◌+◌, ap}
use Rattle.std.proofs.KnownBytes.{Appends-trans}
use Rattle.racl_io.proofs.ReportLemmas.{cut_at}
use Rattle.policy_compare.specs.ComparisonReports.{lines_of}
use Rattle.policy_compare.proofs.ReportLemmas.{lines_further}
use Rattle.policy_compare.proofs.comparison_report.write_differences.Goals as goal

pub pieces-preserved : goal.pieces-preserved
pieces-preserved g c =
    let inv = c.pieces.invariant in
    record {
      written = (
        inv.written.0 ++ c.as_slice.result.now,
        lines_further inv.written.0 c.as_slice.result.now _ _ _ _ inv.written.1 c.split_at.ensures.by_index.0 (c.as_slice.ensures ∙ c.push_differences.ensures),
        Appends-trans _ _ _ _ _ inv.written.2 c.in-Ok.ensures.whole,
      );
      sound = c.in-Ok.ensures.ok ∙ inv.sound;
    }

pub returns-in-Err : goal.returns-in-Err
returns-in-Err g c =
    let inv = c.pieces.invariant in
    let piece = c.as_slice.result.now in
    let others = c.split_at.result.1.now in
    let whole = lines_further inv.written.0 piece (lines_of c.args.differences.now) _ _ others inv.written.1 c.split_at.ensures.by_index.0 (c.as_slice.ensures ∙ c.push_differences.ensures) in (
      tt,
      tt,
      c.in-Err.ensures.failed ∙ ap (λ n. n + 1) inv.sound,
      c.in-Err.ensures.fault,
      cut_at _ _ _ inv.written.0 piece (lines_of others) (lines_of c.args.differences.now) whole inv.written.2 c.in-Err.ensures.front,
    )
