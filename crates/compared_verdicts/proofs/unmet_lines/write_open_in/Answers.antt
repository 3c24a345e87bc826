use Rattle.std.proofs.Common.{◌∙◌, ◌++◌, ◌+◌, ap}
use Rattle.std.proofs.KnownBytes.{Appends-trans}
use Rattle.racl_io.proofs.ReportLemmas.{cut_at}
use Rattle.compared_verdicts.specs.Meeting.{told_open, told_in}
use Rattle.compared_verdicts.proofs.MeetingLemmas.{in_further}
use Rattle.compared_verdicts.proofs.unmet_lines.write_open_in.Goals as goal

pub lines-preserved : goal.lines-preserved
lines-preserved g c =
    let inv = c.lines.invariant in
    record {
      written = (
        inv.written.0 ++ told_open c.in-Some.e.now.line c.in-Some.e.now.expected c.args.totals.now,
        in_further inv.written.0 _ _ c.in-Some.others.now c.in-Some.e.now c.args.totals.now inv.written.1 c.in-Some.ensures.cases.0,
        Appends-trans _ _ _ _ _ inv.written.2 c.in-Ok.ensures.0,
      );
      sound = c.in-Ok.ensures.1 ∙ inv.sound;
    }

pub returns-in-Err : goal.returns-in-Err
returns-in-Err g c =
    let inv = c.lines.invariant in
    let whole = in_further inv.written.0 (told_in c.args.expectations.now c.args.totals.now) _ c.in-Some.others.now c.in-Some.e.now c.args.totals.now inv.written.1 c.in-Some.ensures.cases.0 in (
      tt,
      tt,
      c.in-Err.ensures.2 ∙ ap (λ n. n + 1) inv.sound,
      c.in-Err.ensures.3,
      cut_at _ _ _ inv.written.0 (told_open c.in-Some.e.now.line c.in-Some.e.now.expected c.args.totals.now) _ (told_in c.args.expectations.now c.args.totals.now) whole inv.written.2 c.in-Err.ensures.4,
    )
