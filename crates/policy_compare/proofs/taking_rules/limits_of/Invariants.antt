use Rattle.std.proofs.Common.{map}
use Rattle.acl_policy.specs.Rules.{rule_facts}
use Rattle.policy_compare.proofs.LimitLemmas.{AreLimitsBefore}
use Rattle.policy_compare.proofs.taking_rules.limits_of.Given as goal

-- These are the limits so far.
abbrev pub invariant-loop-place : goal.invariant-loop-place
invariant-loop-place l = AreLimitsBefore (map rule_facts l.rules) (map rule_facts l.taken) l.place l.limits.items
