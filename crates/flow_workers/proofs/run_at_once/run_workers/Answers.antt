use Rattle.std.proofs.Common.{ap}
use Rattle.std.proofs.lemmas.Result.{IfOk-weaker}
use Rattle.acl_policy.specs.Policies.{policy_facts}
use Rattle.flow_dealing.proofs.FewPackets.{pages_for_few}
use Rattle.flow_dealing.proofs.OneReport.{one_report}
use Rattle.flow_dealing.proofs.Passing.{pass_at_place}
use Rattle.flow_dealing.proofs.TraceMerges.{judged_unaged}
use Rattle.flow_workers.proofs.RestLemmas.{judged_alike}
use Rattle.flow_workers.proofs.run_at_once.run_workers.Goals as goal

pub returns-clause-judged : goal.returns-clause-judged
returns-clause-judged g c =
    IfOk-weaker c.run_setup.result _ _
    (λ v said. judged_alike _ _ v.items _ _ _ _ c.in_ok-ready.ensures.times (ap policy_facts c.in_ok-ready.ensures.policy)
    (judged_unaged _ _ _ _ _ _ said.1).0)
    c.run_setup.ensures

pub returns-clause-one_report : goal.returns-clause-one_report
returns-clause-one_report g c =
    IfOk-weaker c.run_setup.result _ _ (λ v judged. one_report _ _ _ _ _ judged) (returns-clause-judged g c)

pub returns-clause-places : goal.returns-clause-places
returns-clause-places g c =
    IfOk-weaker c.run_setup.result _ _ (λ v judged. pass_at_place _ _ _ _ _) (returns-clause-judged g c)

pub returns-clause-pages : goal.returns-clause-pages
returns-clause-pages g c =
    IfOk-weaker c.run_setup.result _ _ (λ v judged. pages_for_few _ _ _ _ _) (returns-clause-judged g c)
