use Rattle.std.proofs.Common.{refl, rules}
use Rattle.std.proofs.lemmas.Result.{MatchResult-weaker}
use Rattle.compared_verdicts.proofs.CompareLemmas.{all_as, fault_as}
use Rattle.racl_runs.specs.Crews.{orders_of}
use Rattle.racl_runs.specs.DiffRuns.{policies_in}
use Rattle.racl_runs.specs.LiveRuns.{ByLoneWorker}
use Rattle.racl_runs.proofs.DiffLemmas.{none_judged}
use Rattle.racl_runs.proofs.LiveLemmas.{by_lone_worker}
use Rattle.racl_runs.proofs.diff_run.compare_capture.Goals as goal

pub returns-in_default-clause-told : goal.returns-in_default-clause-told
returns-in_default-clause-told g c = none_judged c.args.head (g.R.Source.bytes c.args.reader.now) (g.W.Sink.bytes c.args.writer.now)

pub returns-in_default-create_sized-clause-told : goal.returns-in_default-create_sized-clause-told
returns-in_default-create_sized-clause-told g c = none_judged c.args.head (g.R.Source.bytes c.args.reader.now) (g.W.Sink.bytes c.args.writer.now)

pub returns-in_default-new-clause-told : goal.returns-in_default-new-clause-told
returns-in_default-new-clause-told g c = none_judged c.args.head (g.R.Source.bytes c.args.reader.now) (g.W.Sink.bytes c.args.writer.now)

pub returns-in_default-new-2-clause-told : goal.returns-in_default-new-2-clause-told
returns-in_default-new-2-clause-told g c = none_judged c.args.head (g.R.Source.bytes c.args.reader.now) (g.W.Sink.bytes c.args.writer.now)

pub report_changes-requires-clause-begun : goal.report_changes-requires-clause-begun
report_changes-requires-clause-begun g c = (
  (search rules, record { given = refl; rest = c.in-Ok-new.ensures.rest }),
  (search rules, record { given = refl; rest = c.in-Ok-new-2.ensures.rest }),
)

pub report_changes-requires-clause-counts : goal.report_changes-requires-clause-counts
report_changes-requires-clause-counts g c = (
  λ begun packets said are. are.count,
  λ begun packets said are. are.count,
)

pub returns-clause-told : goal.returns-clause-told
returns-clause-told g c =
    let options = c.args.head.options.now in
    let policies = policies_in c.args.head in
    let tells = by_lone_worker options c.args.head.before.now _ (orders_of c.in-Ok-new.workers) in
    let also = by_lone_worker options c.args.head.after.now _ (orders_of c.in-Ok-new-2.other_workers) in
    MatchResult-weaker c.report_changes.result c.report_changes.ensures.told
    (λ totals told. all_as policies _ _ (ByLoneWorker options policies.before) (ByLoneWorker options policies.after)
    (λ packets verdicts judged. (tells packets verdicts c.in-Ok-new.ensures.given c.in-Ok.ensures.asked.four c.in-Ok.ensures.asked.size c.requires.sound.0.0 options.few.0 judged))
    (λ packets verdicts judged. (also packets verdicts c.in-Ok-new-2.ensures.given c.in-Ok-create_sized.ensures.asked.four c.in-Ok-create_sized.ensures.asked.size c.requires.sound.0.1 options.few.0 judged))
    _ _ _ _ _ totals told)
    (λ found told. fault_as policies _ _ (ByLoneWorker options policies.before) (ByLoneWorker options policies.after)
    (λ packets verdicts judged. (tells packets verdicts c.in-Ok-new.ensures.given c.in-Ok.ensures.asked.four c.in-Ok.ensures.asked.size c.requires.sound.0.0 options.few.0 judged))
    (λ packets verdicts judged. (also packets verdicts c.in-Ok-new-2.ensures.given c.in-Ok-create_sized.ensures.asked.four c.in-Ok-create_sized.ensures.asked.size c.requires.sound.0.1 options.few.0 judged))
    _ _ _ _ _ found told)
