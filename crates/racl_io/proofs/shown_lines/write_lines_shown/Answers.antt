use Rattle.std.proofs.Common.{◌≡◌, ◌++◌, ◌+◌, ◌∙◌, ap, arith, length, length-append}
use Rattle.std.proofs.lemmas.Grind.{common_steps}
use Rattle.std.proofs.lemmas.Result.{err_from_is_err_and}
use Rattle.std.proofs.KnownBytes.{Appends-trans}
use Rattle.racl_io.specs.Reports.{passed}
use Rattle.racl_io.specs.ShownReports.{lines_shown}
use Rattle.racl_io.proofs.ReportLemmas.{cut_at, passed_of_both}
use Rattle.racl_io.proofs.ShownLemmas.{more_shown}
use Rattle.racl_io.proofs.shown_lines.write_lines_shown.Goals as goal

pub loop-rest-preserved : goal.loop-rest-preserved
loop-rest-preserved g c =
    let inv = c.loop-rest.invariant in
    let parted = c.split_at.ensures.by_index.0 in
    record {
      counted = omega (arith, inv.counted, c.push_shown-passed.ensures.number, ap length parted, length-append c.split_at.result.0.now c.split_at.result.1.now);
      passing = omega (arith, inv.passing, c.push_shown-passed.ensures.passed, ap passed parted, passed_of_both c.split_at.result.0.now c.split_at.result.1.now);
      written = (
        inv.written.0 ++ c.as_slice.result.now,
        more_shown c.args.shown _ inv.written.0 c.as_slice.result.now _ _ _ c.loop-rest.rest.now c.split_at.result.0.now c.split_at.result.1.now inv.written.1 parted (c.as_slice.ensures ∙ c.push_shown-passed.ensures.text ∙ ap (λ n. lines_shown c.args.shown n (c.loop-rest.number + 1) c.split_at.result.0.now) c.of-name.ensures) (omega (arith, c.push_shown-passed.ensures.number)),
        Appends-trans _ _ _ _ _ inv.written.2 c.in_ok-write_all.ensures.whole,
      );
      sound = grind (arith, common_steps, inv.sound, c.in_ok-write_all.ensures.ok);
    }

pub returns-in_err-write_all-clause-front : goal.returns-in_err-write_all-clause-front
returns-in_err-write_all-clause-front g c =
    let inv = c.loop-rest.invariant in
    let shown = c.args.shown in
    let named = c.args.place.named in
    let first = c.split_at.result.0.now in
    let others = c.split_at.result.1.now in
    let piece = c.as_slice.result.now in
    let all = lines_shown shown named (c.args.place.others + 1) c.args.verdicts.now in
    let parted = c.split_at.ensures.by_index.0 in
    let text = c.as_slice.ensures ∙ c.push_shown-passed.ensures.text ∙ ap (λ n. lines_shown shown n (c.loop-rest.number + 1) first) c.of-name.ensures in
    let next : c.push_shown-passed.new.number + 1 ≡ c.loop-rest.number + 1 + length first = omega (arith, c.push_shown-passed.ensures.number) in
    let whole : (inv.written.0 ++ piece) ++ lines_shown shown named (c.push_shown-passed.new.number + 1) others ≡ all =
    more_shown shown _ inv.written.0 piece _ _ _ c.loop-rest.rest.now first others inv.written.1 parted text next in
    let p = err_from_is_err_and c.from_residual.result c.from_residual.ensures.1 in
    rw p.1
    (cut_at _ _ _ inv.written.0 piece (lines_shown shown named (c.push_shown-passed.new.number + 1) others) all whole inv.written.2 c.in_err-write_all.ensures.front)
