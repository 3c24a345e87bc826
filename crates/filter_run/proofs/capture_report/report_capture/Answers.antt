use Rattle.std.proofs.Common.{rules, refl}
use Rattle.filter_run.specs.Starts.{start_facts}
use Rattle.filter_run.proofs.OneLemmas.{all_far, one_far, one_same}
use Rattle.filter_run.proofs.ReportLemmas.{far_lent, fault_lent, report_read, report_same, told_lent}
use Rattle.filter_run.proofs.capture_report.report_capture.Goals as goal

pub returns-in-Ok-clause-told : goal.returns-in-Ok-clause-told
returns-in-Ok-clause-told g c =
    let ran = c.in-Ok.ensures in
    let reads = ran.over.same in
    let lines = ran.told.0.same in
    let saves = ran.told.1.same in
    told_lent g.J.Judge.became g.J.Judge.judged g.L.Teller.wording g.K.Saver.saved g.K.Saver.failures g.R.Source.bytes g.R.Source.failures g.W.Sink.bytes g.W.Sink.failures
    c.new-source.result c.run-ran.new.source c.args.capture.judges _ c.run-ran.new.observer (start_facts c.args.capture.start) c.args.reader.now _ c.args.teller.now c.args.writer.now _
    c.args.saver.now _ c.run-ran.new.judge c.in-Ok.captures.items (record { judges = c.run-ran.new.judge.inner; totals = c.totals-totals.result }) c.is_truncated.result
    ran (search rules) c.totals-totals.ensures refl (record {
      same_start = c.new-source.ensures.start;
      saves_order = refl;
      read = c.new-source.ensures.reader;
      words = c.new.ensures.teller;
      write = c.new.ensures.writer;
      save = refl;
      left_is = search rules;
      wrote_is = search rules;
      kept_is = search rules;
    })

pub returns-in-Err-clause-told : goal.returns-in-Err-clause-told
returns-in-Err-clause-told g c =
    let wrong = c.in-Err.ensures in
    let reads = one_same g.R.Source.bytes g.R.Source.failures _ _ _ c.new-source.result c.run-ran.new.source _ _ c.run-ran.new.observer c.in-Err.found wrong in
    let writes = report_same g.J.Judge.became g.J.Judge.judged g.L.Teller.wording g.K.Saver.saved g.K.Saver.failures g.R.Source.bytes g.R.Source.failures g.W.Sink.bytes
    g.W.Sink.failures c.new-source.result c.run-ran.new.source c.args.capture.judges _ c.run-ran.new.observer c.in-Err.found wrong in
    fault_lent g.J.Judge.became g.J.Judge.judged g.L.Teller.wording g.K.Saver.saved g.K.Saver.failures g.R.Source.bytes g.R.Source.failures g.W.Sink.bytes g.W.Sink.failures
    c.new-source.result c.run-ran.new.source c.args.capture.judges _ c.run-ran.new.observer (start_facts c.args.capture.start) c.args.reader.now _ c.args.teller.now c.args.writer.now _
    c.args.saver.now _ c.in-Err.found wrong (record {
      same_start = c.new-source.ensures.start;
      saves_order = refl;
      read = c.new-source.ensures.reader;
      words = c.new.ensures.teller;
      write = c.new.ensures.writer;
      save = refl;
      left_is = search rules;
      wrote_is = search rules;
      kept_is = search rules;
    })

pub returns-in-Err-clause-read : goal.returns-in-Err-clause-read
returns-in-Err-clause-read g c =
    let wrong = c.in-Err.ensures in
    let reads = one_same g.R.Source.bytes g.R.Source.failures _ _ _ c.new-source.result c.run-ran.new.source _ _ c.run-ran.new.observer c.in-Err.found wrong in
    let failed = report_read g.J.Judge.became g.J.Judge.judged g.L.Teller.wording g.K.Saver.saved g.K.Saver.failures g.R.Source.bytes g.R.Source.failures g.W.Sink.bytes
    g.W.Sink.failures c.new-source.result c.run-ran.new.source c.args.capture.judges _ c.run-ran.new.observer c.in-Err.found wrong in
    search rules

pub returns-in-Ok-clause-far : goal.returns-in-Ok-clause-far
returns-in-Ok-clause-far g c =
    let ran = c.in-Ok.ensures in
    let reads = ran.over.same in
    far_lent g.R.Source.bytes c.new-source.result c.run-ran.new.source (start_facts c.args.capture.start) c.args.reader.now _ c.new-source.ensures.start
    c.new-source.ensures.reader (search rules)
    (all_far g.R.Source.bytes g.R.Source.failures c.new-source.result c.run-ran.new.source _ c.in-Ok.captures.items ran.over)

pub returns-in-Err-clause-far : goal.returns-in-Err-clause-far
returns-in-Err-clause-far g c =
    let wrong = c.in-Err.ensures in
    let reads = one_same g.R.Source.bytes g.R.Source.failures _ _ _ c.new-source.result c.run-ran.new.source _ _ c.run-ran.new.observer c.in-Err.found wrong in
    far_lent g.R.Source.bytes c.new-source.result c.run-ran.new.source (start_facts c.args.capture.start) c.args.reader.now _ c.new-source.ensures.start
    c.new-source.ensures.reader (search rules)
    (one_far g.R.Source.bytes g.R.Source.failures _ _ _ c.new-source.result c.run-ran.new.source _ _ c.run-ran.new.observer c.in-Err.found wrong)
