use Rattle.std.proofs.Common.{◌≡◌, ◌++◌, ◌-◌, ◌≤◌, drop, length, List, ℕ}
use Rattle.std.specs.Io.KnownBytes.{Appends}
use Rattle.acl_policy.specs.Policies.{policy_facts}
use Rattle.compared_verdicts.specs.inner.ChangeLines.{lines_told}
use Rattle.compared_verdicts.proofs.change_lines.write_changes.Given as goal

-- the lines so far were written
abbrev pub invariant-pieces : goal.invariant-pieces
invariant-pieces g l = record {
  written : (front : List ℕ) × (front ++ lines_told (policy_facts l.policy) (drop l.from l.changes) ≡ lines_told (policy_facts l.policy) l.changes) × Appends (g.W.Sink.bytes l.fn.writer) (g.W.Sink.bytes l.writer) front;
  within : l.from ≤ length l.changes;
  sound : g.W.Sink.failures l.writer ≡ g.W.Sink.failures l.fn.writer;
}

abbrev pub decreases-pieces : goal.decreases-pieces
decreases-pieces g l = length l.changes - l.from
