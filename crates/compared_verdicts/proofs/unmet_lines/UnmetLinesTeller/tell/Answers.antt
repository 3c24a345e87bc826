use Rattle.std.proofs.Common.{◌+◌}
use Rattle.racl_io.proofs.TellingLemmas.{told_put_as}
use Rattle.compared_verdicts.proofs.MeetingLemmas.{lines_told}
use Rattle.compared_verdicts.proofs.unmet_lines.UnmetLinesTeller.tell.Goals as goal

pub returns-in-Ok-clause-told : goal.returns-in-Ok-clause-told
returns-in-Ok-clause-told g c =
    let put = c.write_unmet_from.ensures in
    let told = told_put_as g.W.Sink.bytes g.W.Sink.failures c.args.writer.now c.write_unmet_from.new.writer _ _ c.write_unmet_from.result
    (lines_told c.args.self.now.expectations.now (c.args.others + 1) _ c.args.verdicts.now c.requires.each) put.0 put.1 put.2 put.3 put.4 in
    rw c.in-Ok.is at told

pub returns-in-Err-clause-told : goal.returns-in-Err-clause-told
returns-in-Err-clause-told g c =
    let put = c.write_unmet_from.ensures in
    let told = told_put_as g.W.Sink.bytes g.W.Sink.failures c.args.writer.now c.write_unmet_from.new.writer _ _ c.write_unmet_from.result
    (lines_told c.args.self.now.expectations.now (c.args.others + 1) _ c.args.verdicts.now c.requires.each) put.0 put.1 put.2 put.3 put.4 in
    rw c.in-Err.is at told
