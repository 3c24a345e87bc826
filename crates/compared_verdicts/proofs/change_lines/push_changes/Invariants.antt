use Rattle.std.proofs.Common.{◌≡◌, ◌≤◌, ◌++◌, ◌*◌, drop, length}
use Rattle.acl_policy.specs.Policies.{policy_facts}
use Rattle.compared_verdicts.specs.inner.ChangeLines.{lines_told}
use Rattle.compared_verdicts.proofs.change_lines.push_changes.Given as goal

-- the lines so far
abbrev pub invariant-lines : goal.invariant-lines
invariant-lines l = record {
  short : length l.piece ≤ l.change-index * 530;
  told : l.piece ++ lines_told (policy_facts l.policy) (drop l.change-index l.changes) ≡ lines_told (policy_facts l.policy) l.changes;
}
