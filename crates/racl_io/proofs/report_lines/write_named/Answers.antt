use Rattle.std.proofs.Common.{Err, ℕ}
use Rattle.racl_io.proofs.TellingLemmas.{told_put}
use Rattle.racl_io.proofs.report_lines.write_named.Goals as goal

pub returns-in-Ok-clause-told : goal.returns-in-Ok-clause-told
returns-in-Ok-clause-told g c = (c.in-Ok.ensures.put.0, c.in-Ok.ensures.put.1)

pub returns-in-Err-clause-told : goal.returns-in-Err-clause-told
returns-in-Err-clause-told g c =
    let put = c.in-Err.ensures.put in
    told_put {A = ℕ} g.W.Sink.bytes g.W.Sink.failures c.args.writer.now c.write_packet_lines.new.writer _ (Err c.in-Err.fault) tt tt put.2 put.3 put.4
