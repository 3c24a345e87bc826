use Rattle.std.proofs.Common.{inl, refl}
use Rattle.acl_policy.specs.Policies.{policy_facts}
use Rattle.racl_runs.proofs.ExpectingLemmas.{expecting_ends}
use Rattle.racl_runs.proofs.LiveLemmas.{early_fault, ready_says}
use Rattle.racl_runs.proofs.expecting_run.run_expecting.Goals as goal

pub returns-in-Err-read_header-clause-told : goal.returns-in-Err-read_header-clause-told
returns-in-Err-read_header-clause-told g c =
    inl (early_fault c.args.asked.text.now _ _ c.in-Err-read_header.fault (policy_facts c.in-Ok.policy) c.in-Ok.ensures.ok c.in-Err-read_header.ensures.header, refl)

pub returns-clause-told : goal.returns-clause-told
returns-clause-told g c =
    expecting_ends c.args.asked.options.now c.args.asked.text.now c.args.asked.expectations.now _ _ _ _ _ (policy_facts c.in-Ok-ready_with.ready.policy.now) c.in-Ok-read_header.order
    c.compare_all.result (ready_says c.in-Ok-ready_with.ensures.policy c.in-Ok.ensures.ok)
    c.in-Ok-read_header.ensures.header c.compare_all.ensures.told
