use Rattle.std.proofs.Common.{◌∙◌, ◌++◌, ◌+◌, ap}
use Rattle.std.proofs.KnownBytes.{Appends-trans}
use Rattle.racl_io.proofs.ReportLemmas.{cut_at}
use Rattle.compared_verdicts.specs.Meeting.{told_as, told_at}
use Rattle.compared_verdicts.proofs.MeetingLemmas.{at_further}
use Rattle.compared_verdicts.proofs.unmet_lines.write_unmet_at.Goals as goal

pub lines-preserved : goal.lines-preserved
lines-preserved g c =
    let inv = c.lines.invariant in
    record {
      written = (
        inv.written.0 ++ told_as c.in-Some.e.now.line c.in-Some.e.now.expected c.args.number c.args.verdict,
        at_further inv.written.0 _ _ c.in-Some.others.now c.in-Some.e.now c.args.number c.args.verdict inv.written.1 c.in-Some.ensures.cases.0,
        Appends-trans _ _ _ _ _ inv.written.2 c.in-Ok.ensures.0,
      );
      sound = c.in-Ok.ensures.1 ∙ inv.sound;
    }

pub returns-in-Err : goal.returns-in-Err
returns-in-Err g c =
    let inv = c.lines.invariant in
    let whole = at_further inv.written.0 (told_at c.args.expectations.now c.args.number c.args.verdict) _ c.in-Some.others.now c.in-Some.e.now c.args.number c.args.verdict inv.written.1 c.in-Some.ensures.cases.0 in (
      tt,
      tt,
      c.in-Err.ensures.2 ∙ ap (λ n. n + 1) inv.sound,
      c.in-Err.ensures.3,
      cut_at _ _ _ inv.written.0 (told_as c.in-Some.e.now.line c.in-Some.e.now.expected c.args.number c.args.verdict) _ (told_at c.args.expectations.now c.args.number c.args.verdict) whole inv.written.2 c.in-Err.ensures.4,
    )
