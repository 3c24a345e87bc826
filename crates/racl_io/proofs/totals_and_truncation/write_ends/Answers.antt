use Rattle.std.specs.List.{flat_map}
use Rattle.racl_io.specs.Reports.{totals_line}
use Rattle.racl_io.specs.Tellings.{truncation_of}
use Rattle.racl_io.proofs.TellingLemmas.{front_of_first, put_more}
use Rattle.racl_io.proofs.totals_and_truncation.write_ends.Goals as goal

pub returns-in-Ok : goal.returns-in-Ok
returns-in-Ok g c =
    put_more g.W.Sink.bytes g.W.Sink.failures c.args.writer.now c.write_truncations.new.writer c.write_totals.new.writer
    (flat_map truncation_of c.args.captures.now) (totals_line c.args.totals.now) c.write_totals.result c.in-Ok.ensures.0 c.in-Ok.ensures.1 c.write_totals.ensures

pub returns-in-Err : goal.returns-in-Err
returns-in-Err g c = (
  tt,
  tt,
  c.in-Err.ensures.2,
  c.in-Err.ensures.3,
  front_of_first (g.W.Sink.bytes c.args.writer.now) (g.W.Sink.bytes c.write_truncations.new.writer) (flat_map truncation_of c.args.captures.now)
      (totals_line c.args.totals.now) c.in-Err.ensures.4,
)
