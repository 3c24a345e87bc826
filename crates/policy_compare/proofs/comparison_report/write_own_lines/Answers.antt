use Rattle.std.proofs.Common.{◌∙◌, ◌+◌, ◌-◌, ◌++◌, ap, drop, get_or, length, take}
use Rattle.std.proofs.KnownBytes.{Appends-trans}
use Rattle.racl_io.proofs.ReportLemmas.{cut_at}
use Rattle.policy_compare.specs.ComparisonReports.{own_line, own_lines}
use Rattle.policy_compare.proofs.ReportLemmas.{own_further}
use Rattle.policy_compare.proofs.comparison_report.write_own_lines.Goals as goal

pub returns-in-Err : goal.returns-in-Err
returns-in-Err g c =
    let inv = c.interfaces.invariant in
    let rest = c.interfaces.rest.now in
    let all = own_lines c.args.interfaces.now in
    let whole = own_further inv.written.0 all rest c.interfaces-test.ensures inv.written.1 in (
      tt,
      tt,
      c.in-Err.ensures.2 ∙ ap (λ n. n + 1) inv.sound,
      c.in-Err.ensures.3,
      cut_at _ _ _ inv.written.0 (own_line (get_or rest 0 0)) (own_lines (take (length rest - 1) (drop 1 rest))) all whole inv.written.2 c.in-Err.ensures.4,
    )

pub interfaces-preserved : goal.interfaces-preserved
interfaces-preserved g c =
    let inv = c.interfaces.invariant in
    let rest = c.interfaces.rest.now in
    record {
      written = (
        inv.written.0 ++ own_line (get_or rest 0 0),
        own_further inv.written.0 (own_lines c.args.interfaces.now) rest c.interfaces-test.ensures inv.written.1,
        Appends-trans _ _ _ _ _ inv.written.2 c.in-Ok.ensures.0,
      );
      sound = c.in-Ok.ensures.1 ∙ inv.sound;
    }
