use Rattle.std.proofs.Common.{inl, refl}
use Rattle.acl_policy.specs.Policies.{policy_facts}
use Rattle.racl_runs.proofs.DiffLemmas.{diff_fault, diff_run, diff_unbegun, say_both, text_fault}
use Rattle.racl_runs.proofs.LiveLemmas.{ready_says}
use Rattle.racl_runs.proofs.diff_run.run_diff.Goals as goal

pub returns-in-Err-clause-told : goal.returns-in-Err-clause-told
returns-in-Err-clause-told g c = inl ((refl, text_fault c.args.texts.before.now c.in-Err.cause c.in-Err.ensures.fault), refl)

pub returns-in-Err-read_policy-clause-told : goal.returns-in-Err-read_policy-clause-told
returns-in-Err-read_policy-clause-told g c =
    inl ((refl, policy_facts c.in-Ok.policy, c.in-Ok.ensures.ok, text_fault c.args.texts.after.now c.in-Err-read_policy.cause c.in-Err-read_policy.ensures.fault), refl)

pub returns-in-Err-read_header-clause-told : goal.returns-in-Err-read_header-clause-told
returns-in-Err-read_header-clause-told g c =
    let header = c.in-Err-read_header.ensures.header in inl ((_, say_both c.in-Ok.ensures.ok c.in-Ok-read_policy.ensures.ok, header.0, header.1), refl)

pub returns-in_default-clause-told : goal.returns-in_default-clause-told
returns-in_default-clause-told g c =
    diff_unbegun c.args.options.now c.args.texts _ _ _ _ c.in-Ok-read_header.order (say_both c.in-Ok.ensures.ok c.in-Ok-read_policy.ensures.ok) c.in-Ok-read_header.ensures.header

pub returns-in_default-ready_with-clause-told : goal.returns-in_default-ready_with-clause-told
returns-in_default-ready_with-clause-told g c =
    diff_unbegun c.args.options.now c.args.texts _ _ _ _ c.in-Ok-read_header.order (say_both c.in-Ok.ensures.ok c.in-Ok-read_policy.ensures.ok) c.in-Ok-read_header.ensures.header

pub returns-in_default-prepare-clause-told : goal.returns-in_default-prepare-clause-told
returns-in_default-prepare-clause-told g c =
    diff_unbegun c.args.options.now c.args.texts _ _ _ _ c.in-Ok-read_header.order (say_both c.in-Ok.ensures.ok c.in-Ok-read_policy.ensures.ok) c.in-Ok-read_header.ensures.header

pub returns-in_default-ready_with-2-clause-told : goal.returns-in_default-ready_with-2-clause-told
returns-in_default-ready_with-2-clause-told g c =
    diff_unbegun c.args.options.now c.args.texts _ _ _ _ c.in-Ok-read_header.order (say_both c.in-Ok.ensures.ok c.in-Ok-read_policy.ensures.ok) c.in-Ok-read_header.ensures.header

pub returns-in-Ok-compare_capture-clause-told : goal.returns-in-Ok-compare_capture-clause-told
returns-in-Ok-compare_capture-clause-told g c =
    diff_run c.args.options.now c.args.texts _ _ _ _ _ _ c.in-Ok-read_header.order c.in-Ok-compare_capture.totals
    (say_both (ready_says c.in-Ok-ready_with.ensures.policy c.in-Ok.ensures.ok) (ready_says c.in-Ok-ready_with-2.ensures.policy c.in-Ok-read_policy.ensures.ok)) c.in-Ok-read_header.ensures.header c.in-Ok-compare_capture.ensures.told

pub returns-clause-told : goal.returns-clause-told
returns-clause-told g c =
    diff_fault c.args.options.now c.args.texts _ _ _ _ _ _ c.in-Ok-read_header.order c.in-Err-compare_capture.fault
    (say_both (ready_says c.in-Ok-ready_with.ensures.policy c.in-Ok.ensures.ok) (ready_says c.in-Ok-ready_with-2.ensures.policy c.in-Ok-read_policy.ensures.ok)) c.in-Ok-read_header.ensures.header c.in-Err-compare_capture.ensures.told
