use Rattle.std.proofs.Common.{◌∙◌, ap, refl}
use Rattle.racl_io.specs.Reports.{is_truncated}
use Rattle.compared_verdicts.proofs.CompareLemmas.{compared_cut, compared_fault, compared_read, compared_told}
use Rattle.compared_verdicts.proofs.change_report.tell_all.Goals as goal

pub returns-in-Err-clause-told : goal.returns-in-Err-clause-told
returns-in-Err-clause-told g c =
    compared_fault g.J.Judge.became g.J.Judge.judged g.K.Judge.became g.K.Judge.judged g.R.Source.bytes g.R.Source.failures g.W.Sink.bytes g.W.Sink.failures c.args.source.now
    c.run.new.source c.args.judges.now c.args.lines.now c.run.new.observer c.requires.alone c.in-Err.found c.in-Err.ensures

pub returns-in-Ok-write_end_of_report-clause-told : goal.returns-in-Ok-write_end_of_report-clause-told
returns-in-Ok-write_end_of_report-clause-told g c =
    compared_told g.J.Judge.became g.J.Judge.judged g.K.Judge.became g.K.Judge.judged g.R.Source.bytes g.R.Source.failures g.W.Sink.bytes g.W.Sink.failures c.args.source.now
    c.run.new.source c.args.judges.now c.args.lines.now c.run.new.observer c.run.new.judge c.in-Ok.captures.items c.in-Ok.ensures c.is_truncated.result
    (c.is_truncated.ensures ∙ ap is_truncated c.deref.ensures.value) _ refl c.requires.alone _ c.in-Ok-write_end_of_report.ensures.0

pub returns-clause-told : goal.returns-clause-told
returns-clause-told g c =
    compared_cut g.J.Judge.became g.J.Judge.judged g.K.Judge.became g.K.Judge.judged g.R.Source.bytes g.R.Source.failures g.W.Sink.bytes g.W.Sink.failures c.args.source.now
    c.run.new.source c.args.judges.now c.args.lines.now c.run.new.observer c.run.new.judge c.in-Ok.captures.items c.in-Ok.ensures c.is_truncated.result
    (c.is_truncated.ensures ∙ ap is_truncated c.deref.ensures.value) _ refl c.requires.alone _ c.in-Err-write_end_of_report.fault c.in-Err-write_end_of_report.ensures.3
    c.in-Err-write_end_of_report.ensures.4

pub returns-in-Err-clause-read : goal.returns-in-Err-clause-read
returns-in-Err-clause-read g c =
    compared_read g.J.Judge.became g.J.Judge.judged g.K.Judge.became g.K.Judge.judged g.R.Source.bytes g.R.Source.failures g.W.Sink.bytes g.W.Sink.failures c.args.source.now
    c.run.new.source c.args.judges.now c.args.lines.now c.run.new.observer c.in-Err.found c.in-Err.ensures
