use Rattle.std.proofs.Common.{◌∙◌, ◌≤◌, ap, arith, length, rules, subst, sym}
use Rattle.filter_run.specs.Starts.{Start, behind_header, most_at}
use Rattle.compared_verdicts.specs.Changes.{pair_facts}
use Rattle.compared_verdicts.proofs.CompareLemmas.{none_compared, told_as}
use Rattle.compared_verdicts.proofs.change_report.report_changes.Goals as goal

pub new-source-requires-clause-front : goal.new-source-requires-clause-front
new-source-requires-clause-front g c = subst (λ (start : Start). length start.front ≤ most_at start.input) (sym c.behind_header-start.ensures) (omega arith)

pub tell_all-told-requires-clause-alone : goal.tell_all-told-requires-clause-alone
tell_all-told-requires-clause-alone g c =
    let alone = c.new-source.ensures.start ∙ c.behind_header-start.ensures in
    alone ∙ ap behind_header (sym (ap (λ (start : Start). start.order) alone))

pub returns-in_default-clause-told : goal.returns-in_default-clause-told
returns-in_default-clause-told g c =
    none_compared (pair_facts c.args.policies) (g.J.Judge.judged c.args.judges.0) (g.K.Judge.judged c.args.judges.1) c.args.order (g.R.Source.bytes c.args.reader.now) (g.W.Sink.bytes c.args.writer.now)

pub returns-clause-told : goal.returns-clause-told
returns-clause-told g c =
    told_as g.R.Source.bytes g.W.Sink.bytes (pair_facts c.args.policies) (g.J.Judge.judged c.args.judges.0) (g.K.Judge.judged c.args.judges.1) c.tell_all-told.result _ _ _ _ _ _ _ _ _
    (ap (λ (start : Start). start.order) (c.new-source.ensures.start ∙ c.behind_header-start.ensures)) c.new-source.ensures.reader (search rules) (search rules) c.tell_all-told.ensures.told
