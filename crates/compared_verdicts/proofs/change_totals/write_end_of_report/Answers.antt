use Rattle.std.proofs.Common.{None}
use Rattle.racl_io.specs.Reports.{truncation_line}
use Rattle.compared_verdicts.specs.ChangeReports.{totals_line}
use Rattle.racl_io.proofs.TellingLemmas.{front_of_first, put_more}
use Rattle.compared_verdicts.proofs.change_totals.write_end_of_report.Goals as goal

pub returns-in-Ok : goal.returns-in-Ok
returns-in-Ok g c =
    let totals = c.args.totals.now in
    let cut = truncation_line None totals.truncated totals.packets in
    put_more g.W.Sink.bytes g.W.Sink.failures c.args.writer.now c.write_truncation.new.writer c.write_totals.new.writer cut (totals_line totals)
    c.write_totals.result c.in-Ok.ensures.0 c.in-Ok.ensures.1 c.write_totals.ensures

pub returns-in-Err : goal.returns-in-Err
returns-in-Err g c =
    let totals = c.args.totals.now in
    let cut = truncation_line None totals.truncated totals.packets in
    let front = front_of_first (g.W.Sink.bytes c.args.writer.now) (g.W.Sink.bytes c.write_truncation.new.writer) cut (totals_line totals) c.in-Err.ensures.4 in
    (tt, tt, c.in-Err.ensures.2, c.in-Err.ensures.3, front)
