use Rattle.policy_compare.proofs.RowLemmas.{is_comparison}
use Rattle.acl_policy.specs.Policies.{policy_facts}
use Rattle.policy_compare.proofs.compared_policies.compare_policies.Goals as goal

pub returns : goal.returns
returns c = is_comparison (policy_facts c.args.before.now) (policy_facts c.args.after.now) c.differences_of.new.tests _ c.in_ok-differences.ensures c.in_ok-interfaces.ensures
