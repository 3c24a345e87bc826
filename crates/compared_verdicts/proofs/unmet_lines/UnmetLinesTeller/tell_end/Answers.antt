use Rattle.racl_io.proofs.TellingLemmas.{told_put}
use Rattle.compared_verdicts.proofs.unmet_lines.UnmetLinesTeller.tell_end.Goals as goal

pub returns : goal.returns
returns g c =
    let put = c.write_unmet_end.ensures in
    record { told = told_put g.W.Sink.bytes g.W.Sink.failures c.args.writer.now c.write_unmet_end.new.writer _ c.write_unmet_end.result put.0 put.1 put.2 put.3 put.4 }
