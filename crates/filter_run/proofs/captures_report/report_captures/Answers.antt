use Rattle.std.proofs.Common.{rules, ◌∙◌, ap, refl}
use Rattle.racl_io.specs.Reports.{is_truncated}
use Rattle.filter_run.proofs.CapturesReportLemmas.{captures_ended, captures_same, lent_fault, lent_told, none_came}
use Rattle.filter_run.proofs.captures_report.report_captures.Goals as goal

pub returns-in_default-clause-told : goal.returns-in_default-clause-told
returns-in_default-clause-told g c = none_came g.J.Judge.judged _ c.args.judges _ _

pub returns-in-Ok-ran-clause-told : goal.returns-in-Ok-ran-clause-told
returns-in-Ok-ran-clause-told g c =
    let ran = c.in-Ok-ran.ensures in
    let comes = ran.over.same in
    let lines = ran.told.same in
    lent_told g.J.Judge.became g.J.Judge.judged g.L.Teller.wording g.W.Sink.bytes g.W.Sink.failures g.A.Arrivals.parts g.A.Arrivals.failures g.A.Arrivals.left g.A.Arrivals.unread
    c.new-source.result c.run-ran.new.source c.args.judges c.new-lines.result c.run-ran.new.observer c.args.arrivals.now _ c.args.teller.now c.args.writer.now _
    c.run-ran.new.judge c.in-Ok-ran.cuts.items (record { judges = c.run-ran.new.judge.inner; totals = c.totals-totals.result; cuts = c.in-Ok-ran.cuts }) c.is_truncated.result
    (g.A.Arrivals.whole c.args.arrivals.now) ran (c.is_truncated.ensures ∙ ap is_truncated c.deref.ensures.value) c.totals-totals.ensures refl refl (record {
      comes = c.new-source.ensures.arrivals;
      words = c.new-lines.ensures.teller;
      writes = c.new-lines.ensures.writer;
      left_is = search rules;
      wrote_is = search rules;
    })

pub returns-in-Err-clause-told : goal.returns-in-Err-clause-told
returns-in-Err-clause-told g c =
    let wrong = c.in-Err.ensures in
    let same = captures_same g.J.Judge.became g.J.Judge.judged g.L.Teller.wording g.W.Sink.bytes g.W.Sink.failures g.A.Arrivals.parts g.A.Arrivals.failures g.A.Arrivals.left
    g.A.Arrivals.unread c.new-source.result c.run-ran.new.source c.args.judges c.new-lines.result c.run-ran.new.observer c.in-Err.found wrong in
    lent_fault g.J.Judge.became g.J.Judge.judged g.L.Teller.wording g.W.Sink.bytes g.W.Sink.failures g.A.Arrivals.parts g.A.Arrivals.failures g.A.Arrivals.left g.A.Arrivals.unread
    c.new-source.result c.run-ran.new.source c.args.judges c.new-lines.result c.run-ran.new.observer c.args.arrivals.now _ c.args.teller.now c.args.writer.now _
    c.in-Err.found c.or_long.result wrong c.or_long.ensures (record {
      comes = c.new-source.ensures.arrivals;
      words = c.new-lines.ensures.teller;
      writes = c.new-lines.ensures.writer;
      left_is = search rules;
      wrote_is = search rules;
    })

pub returns-in-Err-clause-read : goal.returns-in-Err-clause-read
returns-in-Err-clause-read g c =
    let wrong = c.in-Err.ensures in
    let same = captures_same g.J.Judge.became g.J.Judge.judged g.L.Teller.wording g.W.Sink.bytes g.W.Sink.failures g.A.Arrivals.parts g.A.Arrivals.failures g.A.Arrivals.left
    g.A.Arrivals.unread c.new-source.result c.run-ran.new.source c.args.judges c.new-lines.result c.run-ran.new.observer c.in-Err.found wrong in
    let ended = captures_ended g.J.Judge.became g.J.Judge.judged g.L.Teller.wording g.W.Sink.bytes g.W.Sink.failures g.A.Arrivals.parts g.A.Arrivals.failures g.A.Arrivals.left
    g.A.Arrivals.unread c.new-source.result c.run-ran.new.source c.args.judges c.new-lines.result c.run-ran.new.observer c.in-Err.found wrong in
    let read = ended.read in
    search rules

pub returns-in-Err-clause-whose : goal.returns-in-Err-clause-whose
returns-in-Err-clause-whose g c =
    let wrong = c.in-Err.ensures in
    let same = captures_same g.J.Judge.became g.J.Judge.judged g.L.Teller.wording g.W.Sink.bytes g.W.Sink.failures g.A.Arrivals.parts g.A.Arrivals.failures g.A.Arrivals.left
    g.A.Arrivals.unread c.new-source.result c.run-ran.new.source c.args.judges c.new-lines.result c.run-ran.new.observer c.in-Err.found wrong in
    let ended = captures_ended g.J.Judge.became g.J.Judge.judged g.L.Teller.wording g.W.Sink.bytes g.W.Sink.failures g.A.Arrivals.parts g.A.Arrivals.failures g.A.Arrivals.left
    g.A.Arrivals.unread c.new-source.result c.run-ran.new.source c.args.judges c.new-lines.result c.run-ran.new.observer c.in-Err.found wrong in
    let whose = ended.whose in
    search rules

pub returns-in-Err-clause-write : goal.returns-in-Err-clause-write
returns-in-Err-clause-write g c =
    let wrong = c.in-Err.ensures in
    let same = captures_same g.J.Judge.became g.J.Judge.judged g.L.Teller.wording g.W.Sink.bytes g.W.Sink.failures g.A.Arrivals.parts g.A.Arrivals.failures g.A.Arrivals.left
    g.A.Arrivals.unread c.new-source.result c.run-ran.new.source c.args.judges c.new-lines.result c.run-ran.new.observer c.in-Err.found wrong in
    let ended = captures_ended g.J.Judge.became g.J.Judge.judged g.L.Teller.wording g.W.Sink.bytes g.W.Sink.failures g.A.Arrivals.parts g.A.Arrivals.failures g.A.Arrivals.left
    g.A.Arrivals.unread c.new-source.result c.run-ran.new.source c.args.judges c.new-lines.result c.run-ran.new.observer c.in-Err.found wrong in
    let write = ended.write in
    search rules
