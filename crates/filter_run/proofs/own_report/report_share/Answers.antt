use Rattle.std.proofs.Common.{rules, refl}
use Rattle.filter_run.specs.Starts.{start_facts}
use Rattle.filter_run.proofs.OneLemmas.{all_far}
use Rattle.filter_run.proofs.OwnReportLemmas.{own_all_lent, own_far, own_fault_lent, own_read, own_reader, own_same}
use Rattle.filter_run.proofs.ReportLemmas.{far_lent}
use Rattle.filter_run.proofs.own_report.report_share.Goals as goal

pub returns-in-Ok-clause-told : goal.returns-in-Ok-clause-told
returns-in-Ok-clause-told g c =
    let ran = c.in-Ok.ensures in
    let reads = ran.over.over.same in
    let lines = ran.told.0.same in
    let saves = ran.told.1.same in
    own_all_lent g.J.Judge.became g.J.Judge.judged g.L.Teller.wording g.K.Saver.saved g.K.Saver.failures g.R.Source.bytes g.R.Source.failures g.W.Sink.bytes g.W.Sink.failures
    _ c.run-ran.new.source c.args.share.capture.judges _ c.run-ran.new.observer (start_facts c.args.share.capture.start) c.args.reader.now _ c.args.teller.now c.args.writer.now _
    c.args.saver.now _ c.run-ran.new.judge c.in-Ok.captures.items
    (record { judges = c.run-ran.new.judge.inner; totals = c.totals-totals.result; seen = c.run-ran.new.source.seen; latest = c.run-ran.new.source.latest }) c.is_truncated.result
    ran (search rules) c.totals-totals.ensures refl refl refl (record {
      none = refl;
      no_second = refl;
      same_start = c.new.ensures.start;
      saves_order = refl;
      read = c.new.ensures.reader;
      words = c.new-4.ensures.teller;
      write = c.new-4.ensures.writer;
      save = refl;
      left_is = search rules;
      wrote_is = search rules;
      kept_is = search rules;
    })

pub returns-in-Ok-clause-far : goal.returns-in-Ok-clause-far
returns-in-Ok-clause-far g c =
    let ran = c.in-Ok.ensures in
    let reads = ran.over.over.same in
    far_lent g.R.Source.bytes c.new.result c.run-ran.new.source.inner (start_facts c.args.share.capture.start) c.args.reader.now _ c.new.ensures.start
    c.new.ensures.reader (search rules)
    (all_far g.R.Source.bytes g.R.Source.failures c.new.result c.run-ran.new.source.inner _ c.in-Ok.captures.items ran.over.over)

pub returns-in-Ok-clause-read : goal.returns-in-Ok-clause-read
returns-in-Ok-clause-read g c =
    let ran = c.in-Ok.ensures in
    let reads = ran.over.over.same in
    let sound = ran.over.over.sound in
    search rules

pub returns-in-Err-clause-told : goal.returns-in-Err-clause-told
returns-in-Err-clause-told g c =
    let wrong = c.in-Err.ensures in
    let reads = own_reader g.J.Judge.became g.J.Judge.judged g.L.Teller.wording g.K.Saver.saved g.K.Saver.failures g.R.Source.bytes g.R.Source.failures g.W.Sink.bytes
    g.W.Sink.failures _ c.run-ran.new.source c.args.share.capture.judges _ c.run-ran.new.observer c.in-Err.found wrong in
    let writes = own_same g.J.Judge.became g.J.Judge.judged g.L.Teller.wording g.K.Saver.saved g.K.Saver.failures g.R.Source.bytes g.R.Source.failures g.W.Sink.bytes
    g.W.Sink.failures _ c.run-ran.new.source c.args.share.capture.judges _ c.run-ran.new.observer c.in-Err.found wrong in
    own_fault_lent g.J.Judge.became g.J.Judge.judged g.L.Teller.wording g.K.Saver.saved g.K.Saver.failures g.R.Source.bytes g.R.Source.failures g.W.Sink.bytes g.W.Sink.failures
    _ c.run-ran.new.source c.args.share.capture.judges _ c.run-ran.new.observer (start_facts c.args.share.capture.start) c.args.reader.now _ c.args.teller.now c.args.writer.now _
    c.args.saver.now _ c.in-Err.found wrong (record {
      none = refl;
      no_second = refl;
      same_start = c.new.ensures.start;
      saves_order = refl;
      read = c.new.ensures.reader;
      words = c.new-4.ensures.teller;
      write = c.new-4.ensures.writer;
      save = refl;
      left_is = search rules;
      wrote_is = search rules;
      kept_is = search rules;
    })

pub returns-in-Err-clause-far : goal.returns-in-Err-clause-far
returns-in-Err-clause-far g c =
    let wrong = c.in-Err.ensures in
    let reads = own_reader g.J.Judge.became g.J.Judge.judged g.L.Teller.wording g.K.Saver.saved g.K.Saver.failures g.R.Source.bytes g.R.Source.failures g.W.Sink.bytes
    g.W.Sink.failures _ c.run-ran.new.source c.args.share.capture.judges _ c.run-ran.new.observer c.in-Err.found wrong in
    far_lent g.R.Source.bytes c.new.result c.run-ran.new.source.inner (start_facts c.args.share.capture.start) c.args.reader.now _ c.new.ensures.start
    c.new.ensures.reader (search rules)
    (own_far g.J.Judge.became g.J.Judge.judged g.L.Teller.wording g.K.Saver.saved g.K.Saver.failures g.R.Source.bytes g.R.Source.failures g.W.Sink.bytes
    g.W.Sink.failures _ c.run-ran.new.source c.args.share.capture.judges _ c.run-ran.new.observer c.in-Err.found wrong)

pub returns-in-Err-clause-read : goal.returns-in-Err-clause-read
returns-in-Err-clause-read g c =
    let wrong = c.in-Err.ensures in
    let reads = own_reader g.J.Judge.became g.J.Judge.judged g.L.Teller.wording g.K.Saver.saved g.K.Saver.failures g.R.Source.bytes g.R.Source.failures g.W.Sink.bytes
    g.W.Sink.failures _ c.run-ran.new.source c.args.share.capture.judges _ c.run-ran.new.observer c.in-Err.found wrong in
    let failed = own_read g.J.Judge.became g.J.Judge.judged g.L.Teller.wording g.K.Saver.saved g.K.Saver.failures g.R.Source.bytes g.R.Source.failures g.W.Sink.bytes
    g.W.Sink.failures _ c.run-ran.new.source c.args.share.capture.judges _ c.run-ran.new.observer c.in-Err.found wrong in
    search rules
