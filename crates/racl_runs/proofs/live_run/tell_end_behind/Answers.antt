use Rattle.racl_io.specs.Tellings.{end_in}
use Rattle.racl_runs.proofs.CountedLemmas.{end_cut, end_then}
use Rattle.racl_runs.proofs.live_run.tell_end_behind.Goals as goal

pub returns-in-Ok : goal.returns-in-Ok
returns-in-Ok g c =
    end_then g.W.Sink.bytes g.W.Sink.failures c.args.writer.now c.tell_end.new.writer c.write_behind.new.writer
    (end_in (g.L.Teller.wording c.args.teller.now) c.args.captures.now c.args.totals.now) _ c.write_behind.result c.in-Ok.ensures.told.0 c.in-Ok.ensures.told.1 c.write_behind.ensures

pub returns-in-Err : goal.returns-in-Err
returns-in-Err g c =
    (end_cut _ _ (end_in (g.L.Teller.wording c.args.teller.now) c.args.captures.now c.args.totals.now) _ c.in-Err.fault c.in-Err.ensures.told.0, c.in-Err.ensures.told.1)
