use Rattle.std.proofs.Common.{Err, List, [], Some, ap, refl, subst, sym, ℕ, ◌∙◌, ◌≡◌}
use Rattle.std.proofs.lemmas.List.{take_rest}
use Rattle.acl_policy.specs.Policies.{policy_facts}
use Rattle.racl_io.specs.declared.fault.Fault.{Fault}
use Rattle.racl_runs.specs.Reads.{AnswersRead}
use Rattle.racl_runs.specs.inner.AskedWordings.{asked_wording}
use Rattle.racl_runs.proofs.HeldLemmas.{headed_fault_as, headed_told_as, start_with}
use Rattle.racl_runs.proofs.held_reports.report_headed.Goals as goal

pub returns-in-Ok-tell_capture-clause-ok : goal.returns-in-Ok-tell_capture-clause-ok
returns-in-Ok-tell_capture-clause-ok g c =
    let headed = c.args.headed in
    let none : c.new-held.result.inner.items ≡ [] = ap (λ d. d.inner.items) c.new-held.ensures ∙ c.new-2.ensures.items in
    headed_told_as c.args.options.now c.args.bytes.now headed c.requires.headed c.requires.few (asked_wording c.in-Ok-new.lines) _ _ _ _ _ c.in-Ok-tell_capture.totals
    c.tell_capture.new.writer.inner.items _ _ _ c.requires.headed.text (ap policy_facts c.in-Ok-ready_with.ensures.policy)
    (start_with headed.order c.in-Ok.front.items c.args.bytes.now headed (c.in-Ok.ensures.items ∙ take_rest c.args.bytes.now headed.from) refl)
    c.in-Ok-new.ensures (ap (λ (t : List ℕ). Some t) none) refl c.in-Ok-tell_capture.ensures.told

pub returns-clause-fault : goal.returns-clause-fault
returns-clause-fault g c =
    let headed = c.args.headed in
    subst (λ (f : Fault). AnswersRead c.args.options.now c.args.bytes.now (g.R.Source.bytes c.args.reader.now) (Err f)) (sym c.of_held.ensures)
    (headed_fault_as c.args.options.now c.args.bytes.now headed c.requires.headed c.requires.few (asked_wording c.in-Ok-new.lines) _ _ _ _ _ _ c.in-Err.fault _ _ _
    c.requires.headed.text (ap policy_facts c.in-Ok-ready_with.ensures.policy)
    (start_with headed.order c.in-Ok.front.items c.args.bytes.now headed (c.in-Ok.ensures.items ∙ take_rest c.args.bytes.now headed.from) refl)
    c.in-Err.ensures.told)
