use Rattle.std.proofs.Common.{◌∙◌, ◌≡◌, ◌||◌, List, ap, ap₂, inl, not, subst}
use Rattle.std.specs.Io.KnownBytes.{Appends}
use Rattle.std.specs.Prelude.{⊤}
use Rattle.acl_policy.specs.Policies.{policy_facts}
use Rattle.packet_view.specs.Captures.{packets_at}
use Rattle.racl_io.specs.Tellings.{lines_in}
use Rattle.filter_run.specs.CaptureReports.{IsLiveFault}
use Rattle.filter_run.specs.Starts.{behind_header}
use Rattle.filter_run.proofs.TellLemmas.{fault_as, none_told}
use Rattle.racl_io.specs.declared.fault.Fault.TheVariants.{Memory}
use Rattle.compared_verdicts.specs.Meeting.{are_met, unmet_wording}
use Rattle.compared_verdicts.specs.declared.expectation.Expectation.{Expectation}
use Rattle.racl_runs.specs.Crews.{orders_of, views_with}
use Rattle.racl_runs.specs.ExpectingRuns.{manner_by, output}
use Rattle.racl_runs.specs.LiveRuns.{ByLoneWorker}
use Rattle.racl_runs.proofs.ExpectingLemmas.{all_is_some, end_fault, end_told, fault_at_header, told_at_header}
use Rattle.racl_runs.proofs.LiveLemmas.{by_lone, by_lone_worker, front_behind, input_behind}
use Rattle.racl_runs.proofs.expecting_run.compare_all.Goals as goal

pub returns-in_default-clause-told : goal.returns-in_default-clause-told
returns-in_default-clause-told g c =
    inl (none_told (ByLoneWorker c.args.head.options.now) (manner_by c.args.head.expectations.now) (policy_facts c.args.head.filter.now.policy.now) (behind_header c.args.head.order)
    (g.R.Source.bytes c.args.reader.now) (output (g.W.Sink.bytes c.args.writer.now)) tt)

pub returns-in_default-new-clause-told : goal.returns-in_default-new-clause-told
returns-in_default-new-clause-told g c =
    inl (none_told (ByLoneWorker c.args.head.options.now) (manner_by c.args.head.expectations.now) (policy_facts c.args.head.filter.now.policy.now) (behind_header c.args.head.order)
    (g.R.Source.bytes c.args.reader.now) (output (g.W.Sink.bytes c.args.writer.now)) tt)

pub returns-in_default-create_sized-clause-told : goal.returns-in_default-create_sized-clause-told
returns-in_default-create_sized-clause-told g c =
    inl (none_told (ByLoneWorker c.args.head.options.now) (manner_by c.args.head.expectations.now) (policy_facts c.args.head.filter.now.policy.now) (behind_header c.args.head.order)
    (g.R.Source.bytes c.args.reader.now) (output (g.W.Sink.bytes c.args.writer.now)) tt)

pub returns-in_default-new-2-clause-told : goal.returns-in_default-new-2-clause-told
returns-in_default-new-2-clause-told g c =
    inl (none_told (ByLoneWorker c.args.head.options.now) (manner_by c.args.head.expectations.now) (policy_facts c.args.head.filter.now.policy.now) (behind_header c.args.head.order)
    (g.R.Source.bytes c.args.reader.now) (output (g.W.Sink.bytes c.args.writer.now)) tt)

pub report_capture-requires-clause-front : goal.report_capture-requires-clause-front
report_capture-requires-clause-front g c = front_behind _ _ c.behind_header.ensures

pub report_capture-requires-clause-input : goal.report_capture-requires-clause-input
report_capture-requires-clause-input g c = input_behind _ _ c.behind_header.ensures

pub report_capture-requires-clause-counts : goal.report_capture-requires-clause-counts
report_capture-requires-clause-counts g c begun packets said are = are.count

pub returns-in-Err-clause-told : goal.returns-in-Err-clause-told
returns-in-Err-clause-told g c =
    let options = c.args.head.options.now in
    let ready = c.args.head.filter.now in
    let tells = by_lone_worker options ready _ (orders_of c.in-Ok-new-2.workers) in
    inl (subst (λ (es : List Expectation). IsLiveFault (ByLoneWorker options) (manner_by es) (policy_facts ready.policy.now) (behind_header c.args.head.order)
    (g.R.Source.bytes c.args.reader.now) (g.R.Source.bytes c.report_capture.new.reader) (output (g.W.Sink.bytes c.args.writer.now)) (output (g.W.Sink.bytes c.report_capture.new.writer)) c.in-Err.fault)
    c.in-Ok.ensures
    (fault_as _ (ByLoneWorker options) (unmet_wording c.in-Ok.teller.expectations.now) _ (λ begun order records verdicts now. ⊤) _ (policy_facts ready.policy.now)
    (λ packets verdicts judged. tells packets verdicts c.in-Ok-new-2.ensures.given c.in-Ok-create_sized.ensures.asked.four c.in-Ok-create_sized.ensures.asked.size c.requires.times options.few.0 judged)
    _ _ _ _ _ _ _ tt tt (λ whole verdicts saved. tt) c.in-Err.fault
    (fault_at_header _ _ _ _ c.args.head.order _ _ _ _ c.in-Err.fault c.behind_header.ensures c.in-Err.ensures.told)))

pub end-requires : goal.end-requires
end-requires g c = let told = c.in-Ok-report_capture.ensures.told in (_, _, _, told.stand.1.after, told.stand.1.each)

pub returns-in_default-end-clause-told : goal.returns-in_default-end-clause-told
returns-in_default-end-clause-told g c =
    let options = c.args.head.options.now in
    let ready = c.args.head.filter.now in
    let told = told_at_header c.behind_header.ensures c.in-Ok-report_capture.ensures.told in
    let tells = by_lone_worker options ready _ (orders_of c.in-Ok-new-2.workers) in
    inl (subst (λ (es : List Expectation). IsLiveFault (ByLoneWorker options) (manner_by es) (policy_facts ready.policy.now) (behind_header c.args.head.order)
    (g.R.Source.bytes c.args.reader.now) (g.R.Source.bytes c.report_capture.new.reader) (output (g.W.Sink.bytes c.args.writer.now)) (output (g.W.Sink.bytes c.report_capture.new.writer)) Memory)
    c.in-Ok.ensures
    (fault_as _ (ByLoneWorker options) (unmet_wording c.in-Ok.teller.expectations.now) _ (λ begun order records verdicts now. ⊤) _ (policy_facts ready.policy.now)
    (λ packets verdicts judged. tells packets verdicts c.in-Ok-new-2.ensures.given c.in-Ok-create_sized.ensures.asked.four c.in-Ok-create_sized.ensures.asked.size c.requires.times options.few.0 judged)
    _ _ _ _ _ _ _ tt tt (λ whole verdicts saved. tt) Memory (told.all.rest, all_is_some told)))

pub returns-in-Ok-tell_last-clause-told : goal.returns-in-Ok-tell_last-clause-told
returns-in-Ok-tell_last-clause-told g c =
    let options = c.args.head.options.now in
    let ready = c.args.head.filter.now in
    let expectations = c.args.head.expectations.now in
    let told = told_at_header c.behind_header.ensures c.in-Ok-report_capture.ensures.told in
    let packets = packets_at 0 told.all.packets in
    let totals = c.in-Ok-report_capture.told.totals in
    let said = c.in-Ok-end.ensures _ packets told.all.verdicts told.stand.1.after told.stand.1.each in
    let by = by_lone options ready _ (orders_of c.in-Ok-new-2.workers) packets told.all.verdicts c.in-Ok-new-2.ensures.given c.in-Ok-create_sized.ensures.asked.four
    c.in-Ok-create_sized.ensures.asked.size c.requires.times options.few.0 (views_with c.in-Ok-end.field-0, said.said) in
    let wrote = subst (λ (es : List Expectation). Appends (g.W.Sink.bytes c.args.writer.now) (g.W.Sink.bytes c.report_capture.new.writer) (lines_in (unmet_wording es) 1 packets told.all.verdicts))
    c.in-Ok.ensures told.text in
    let met : c.is_met-met.result ≡ are_met expectations told.all.verdicts totals = c.is_met-met.ensures ∙ ap₂ (λ a b. not (a || b)) told.stand.1.compared c.any_open.ensures in
    end_told options expectations (policy_facts ready.policy.now) c.args.head.order _ _ _ _ totals told.all by wrote c.is_met-met.result met _
    (unmet_wording c.report_capture.new.teller.expectations.now) (c.in-Ok-report_capture.ensures.same ∙ ap unmet_wording c.in-Ok.ensures) c.in-Ok-tell_last.ensures.0

pub returns-clause-told : goal.returns-clause-told
returns-clause-told g c =
    let options = c.args.head.options.now in
    let ready = c.args.head.filter.now in
    let expectations = c.args.head.expectations.now in
    let told = told_at_header c.behind_header.ensures c.in-Ok-report_capture.ensures.told in
    let packets = packets_at 0 told.all.packets in
    let totals = c.in-Ok-report_capture.told.totals in
    let said = c.in-Ok-end.ensures _ packets told.all.verdicts told.stand.1.after told.stand.1.each in
    let by = by_lone options ready _ (orders_of c.in-Ok-new-2.workers) packets told.all.verdicts c.in-Ok-new-2.ensures.given c.in-Ok-create_sized.ensures.asked.four
    c.in-Ok-create_sized.ensures.asked.size c.requires.times options.few.0 (views_with c.in-Ok-end.field-0, said.said) in
    let wrote = subst (λ (es : List Expectation). Appends (g.W.Sink.bytes c.args.writer.now) (g.W.Sink.bytes c.report_capture.new.writer) (lines_in (unmet_wording es) 1 packets told.all.verdicts))
    c.in-Ok.ensures told.text in
    let met : c.is_met-met.result ≡ are_met expectations told.all.verdicts totals = c.is_met-met.ensures ∙ ap₂ (λ a b. not (a || b)) told.stand.1.compared c.any_open.ensures in
    end_fault options expectations (policy_facts ready.policy.now) c.args.head.order _ _ _ _ totals told.all by wrote c.is_met-met.result met _ told.whole told.spelt c.in-Err-tell_last.fault
    (unmet_wording c.report_capture.new.teller.expectations.now) (c.in-Ok-report_capture.ensures.same ∙ ap unmet_wording c.in-Ok.ensures) c.in-Err-tell_last.ensures.0
