use Rattle.acl_policy.specs.Policies.{policy_facts}
use Rattle.policy_compare.proofs.compared_texts.compare_texts.Goals as goal

pub returns-in-Ok-write_comparison-clause-ok : goal.returns-in-Ok-write_comparison-clause-ok
returns-in-Ok-write_comparison-clause-ok g c = record {
  one = policy_facts c.in-Ok.policy;
  two = policy_facts c.in-Ok-read_policy.policy;
  by_before = c.in-Ok.ensures.ok;
  by_after = c.in-Ok-read_policy.ensures.ok;
  told = c.in-Ok-compare_policies.told;
  right = c.in-Ok-compare_policies.ensures;
  text = c.in-Ok-write_comparison.ensures.0;
  status_is = c.status_behind.ensures;
}
