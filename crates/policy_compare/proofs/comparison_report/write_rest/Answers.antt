use Rattle.std.proofs.Common.{List, subst}
use Rattle.std.specs.Io.KnownBytes.{Appends}
use Rattle.racl_io.specs.Sinks.{GotFront}
use Rattle.racl_io.proofs.TellingLemmas.{front_of_first, put_more}
use Rattle.policy_compare.specs.ComparisonReports.{end_of_report, lines_of}
use Rattle.policy_compare.specs.declared.difference.Difference.{Difference}
use Rattle.policy_compare.proofs.comparison_report.write_rest.Goals as goal

pub returns-in-Ok : goal.returns-in-Ok
returns-in-Ok g c =
    let told = c.args.told.now in
    let wrote = subst (λ (ds : List Difference). Appends (g.W.Sink.bytes c.args.writer.now) (g.W.Sink.bytes c.write_differences.new.writer) (lines_of ds))
    c.deref.ensures.value c.in-Ok.ensures.0 in
    put_more g.W.Sink.bytes g.W.Sink.failures c.args.writer.now c.write_differences.new.writer c.write_last_line.new.writer (lines_of told.differences.items) (end_of_report told)
    c.write_last_line.result wrote c.in-Ok.ensures.1 c.write_last_line.ensures

pub returns-in-Err : goal.returns-in-Err
returns-in-Err g c =
    let told = c.args.told.now in
    let got = subst (λ (ds : List Difference). GotFront (g.W.Sink.bytes c.args.writer.now) (g.W.Sink.bytes c.write_differences.new.writer) (lines_of ds))
    c.deref.ensures.value c.in-Err.ensures.4 in
    let front = front_of_first (g.W.Sink.bytes c.args.writer.now) (g.W.Sink.bytes c.write_differences.new.writer) (lines_of told.differences.items) (end_of_report told) got in
    (tt, tt, c.in-Err.ensures.2, c.in-Err.ensures.3, front)
