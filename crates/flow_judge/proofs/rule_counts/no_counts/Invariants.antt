-- There is a row for each interface so far.
use Rattle.std.proofs.Common.{◌≡◌, ◌+◌, ◌<◌, ℕ, [], length, replicate, slice_index_or}
use Rattle.acl_policy.specs.Policies.{policy_facts, rules_of, section_of}
use Rattle.flow_judge.proofs.rule_counts.no_counts.Given as goal

abbrev pub invariant-interfaces : goal.invariant-interfaces
invariant-interfaces l = record {
  count : length l.rows.items ≡ l.interface;
  each : (i : ℕ) → i < l.interface
      → slice_index_or l.rows.items i [] ≡ replicate (length (rules_of l.direction (section_of i (policy_facts l.policy))) + 1) 0;
}
