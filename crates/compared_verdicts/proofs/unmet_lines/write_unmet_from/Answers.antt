use Rattle.std.proofs.Common.{◌∙◌, ◌++◌, ◌+◌, ap, arith, length}
use Rattle.std.proofs.KnownBytes.{Appends-trans}
use Rattle.racl_io.proofs.ReportLemmas.{cut_at}
use Rattle.compared_verdicts.specs.Meeting.{told_at, told_from}
use Rattle.compared_verdicts.proofs.MeetingLemmas.{from_further}
use Rattle.compared_verdicts.proofs.unmet_lines.write_unmet_from.Goals as goal

pub packets-preserved : goal.packets-preserved
packets-preserved g c =
    let inv = c.packets.invariant in
    record {
      counted = let parted = ap length c.in-Some.ensures.cases.0 in omega (arith, inv.counted);
      written = (
        inv.written.0 ++ told_at c.args.expectations.now c.packets.number c.in-Some.verdict.now,
        from_further inv.written.0 _ c.args.expectations.now c.packets.number _ c.in-Some.others.now c.in-Some.verdict.now inv.written.1 c.in-Some.ensures.cases.0,
        Appends-trans _ _ _ _ _ inv.written.2 c.in-Ok.ensures.0,
      );
      sound = c.in-Ok.ensures.1 ∙ inv.sound;
    }

pub returns-in-Err : goal.returns-in-Err
returns-in-Err g c =
    let inv = c.packets.invariant in
    let whole = from_further inv.written.0 (told_from c.args.expectations.now c.args.first c.args.verdicts.now) c.args.expectations.now c.packets.number _ c.in-Some.others.now c.in-Some.verdict.now inv.written.1 c.in-Some.ensures.cases.0 in (
      tt,
      tt,
      c.in-Err.ensures.2 ∙ ap (λ n. n + 1) inv.sound,
      c.in-Err.ensures.3,
      cut_at _ _ _ inv.written.0 (told_at c.args.expectations.now c.packets.number c.in-Some.verdict.now) _ (told_from c.args.expectations.now c.args.first c.args.verdicts.now) whole inv.written.2 c.in-Err.ensures.4,
    )
