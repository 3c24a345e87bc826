use Rattle.std.proofs.Common.{◌∙◌, ◌+◌, None, ap}
use Rattle.racl_io.specs.ShownReports.{lines_shown}
use Rattle.racl_io.proofs.ShownLemmas.{every_line}
use Rattle.racl_io.proofs.TellingLemmas.{plain_lines, told_put_as}
use Rattle.racl_io.proofs.report_lines.write_plain.Goals as goal

pub returns-in-Every-clause-told : goal.returns-in-Every-clause-told
returns-in-Every-clause-told g c =
    let verdicts = c.args.verdicts.now in
    let n = c.args.others + 1 in
    let told = c.write_lines_whole.ensures.told in
    told_put_as g.W.Sink.bytes g.W.Sink.failures c.args.writer.now c.write_lines_whole.new.writer _ _ c.write_lines_whole.result
    (plain_lines c.args.shown n _ verdicts c.requires.each ∙ ap (λ s. lines_shown s None n verdicts) c.in-Every.is ∙ every_line None n verdicts)
    told.0 told.2 told.3 told.4 c.write_lines_whole.ensures.front

pub returns-in_default : goal.returns-in_default
returns-in_default g c =
    let told = c.write_lines_shown.ensures.told in
    record {
      told = told_put_as g.W.Sink.bytes g.W.Sink.failures c.args.writer.now c.write_lines_shown.new.writer _ _ c.write_lines_shown.result
          (plain_lines c.args.shown (c.args.others + 1) _ c.args.verdicts.now c.requires.each) told.0 told.2 told.3 told.4 c.write_lines_shown.ensures.front;
      passed = told.1;
    }
