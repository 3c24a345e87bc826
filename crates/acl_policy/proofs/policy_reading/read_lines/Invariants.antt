use Rattle.std.proofs.Common.{◌≡◌, length, take}
use Rattle.std.specs.Str.Lines.{lines}
use Rattle.acl_policy.specs.Policies.{SayPolicy}
use Rattle.acl_policy.specs.inner.Reading.Policies.{draft_facts, policy_so_far}
use Rattle.acl_policy.proofs.policy_reading.read_lines.Given as goal

-- The policy is what the lines so far say.
abbrev pub invariant-loop-line : goal.invariant-loop-line
invariant-loop-line l = record {
  counted : l.number ≡ length l.yielded;
  reads : SayPolicy (take (length l.yielded) (lines l.text)) (policy_so_far (draft_facts l.draft));
}
