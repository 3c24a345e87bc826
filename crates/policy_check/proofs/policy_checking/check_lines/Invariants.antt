use Rattle.std.proofs.Common.{◌≡◌, length, map}
use Rattle.std.specs.Str.Lines.{lines}
use Rattle.acl_policy.specs.inner.Reading.Policies.{draft_facts}
use Rattle.policy_check.specs.Complaints.{complaint_facts}
use Rattle.policy_check.proofs.SortedLemmas.{AreAmid}
use Rattle.policy_check.proofs.policy_checking.check_lines.Given as goal

-- The lines so far are sorted, and the draft is what the right ones say.
abbrev pub invariant-loop-line : goal.invariant-loop-line
invariant-loop-line l = record {
  counted : l.number ≡ length l.yielded;
  sorted : AreAmid (lines l.text) (length l.yielded) (map complaint_facts l.complaints.items) (draft_facts l.draft);
}
