use Rattle.std.specs.List.{flat_map}
use Rattle.racl_io.specs.Tellings.{truncation_of}
use Rattle.racl_io.proofs.TellingLemmas.{front_of_first, put_more}
use Rattle.compared_verdicts.specs.Meeting.{told_in}
use Rattle.compared_verdicts.proofs.unmet_lines.write_unmet_end.Goals as goal

pub returns : goal.returns
returns g c =
    let cut = flat_map truncation_of c.args.captures.now in
    let left = told_in c.args.expectations.now c.args.totals.now in
    put_more g.W.Sink.bytes g.W.Sink.failures c.args.writer.now c.write_truncations.new.writer c.write_open_in.new.writer cut left
    c.write_open_in.result c.in-Ok.ensures.0 c.in-Ok.ensures.1 c.write_open_in.ensures

pub returns-in-Err : goal.returns-in-Err
returns-in-Err g c =
    let cut = flat_map truncation_of c.args.captures.now in
    let left = told_in c.args.expectations.now c.args.totals.now in
    let front = front_of_first (g.W.Sink.bytes c.args.writer.now) (g.W.Sink.bytes c.write_truncations.new.writer) cut left c.in-Err.ensures.4 in
    (tt, tt, c.in-Err.ensures.2, c.in-Err.ensures.3, front)
